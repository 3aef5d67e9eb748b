use Rattle.std.proofs.Common.{◌≡◌, nat_eq, not, ap, ◌∙◌, rules}
use Rattle.std.proofs.lemmas.Fn.{filter_same}
use Rattle.book.proofs.Changes.{remove_made}
use Rattle.strangers.specs.Sorted.{sorted}
use Rattle.strangers.specs.Drawers.{shelved}
use Rattle.strangers.proofs.Changed.{without, apart_without, sorted_without, was_read}
use Rattle.strangers.proofs.any_order.methods.DrawerBook.remove.Goals as goal

pub invariant_of-self : goal.invariant_of-self
invariant_of-self c =
    let b = c.args.self.now in
    let left : c.retain.new.self.items ≡ without b.rows.items c.args.own =
    filter_same _ (λ r. not (nat_eq r.own c.args.own)) _ (λ x b f h. (search rules, search rules)) _ _ c.retain.ensures.filtered in
    record { within = search rules; room = search rules; ok = rw left (apart_without b.rows.items c.args.own b.ok) }

pub returns : goal.returns
returns c =
    let b = c.args.self.now in
    let left : c.retain.new.self.items ≡ without b.rows.items c.args.own =
    filter_same _ (λ r. not (nat_eq r.own c.args.own)) _ (λ x b f h. (search rules, search rules)) _ _ c.retain.ensures.filtered in
    remove_made (shelved b) c.args.own _ (was_read (shelved b) c.args.own c.in_ok-read.field-0 (search rules))
    (ap sorted left ∙ sorted_without b.rows.items c.args.own b.ok)

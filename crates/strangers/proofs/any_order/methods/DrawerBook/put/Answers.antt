use Rattle.std.proofs.Common.{ap, is_some, sym, ◌∙◌, rules, arith}
use Rattle.book.proofs.Changes.{put_present, put_full, put_made}
use Rattle.strangers.specs.Sorted.{sorted, has_sorted, length_sorted}
use Rattle.strangers.specs.Drawers.{shelved}
use Rattle.strangers.proofs.Changed.{pushed, apart_pushed, sorted_pushed}
use Rattle.strangers.proofs.any_order.methods.DrawerBook.put.Goals as goal

pub returns-then-is_some : goal.returns-then-is_some
returns-then-is_some c =
    let there = sym (ap is_some c.row.ensures) ∙ sym c.is_some.ensures ∙ c.if-is_some.true in
    sym (put_present (shelved c.args.self.now) c.args.row (omega arith) there)

pub returns-then-len-self : goal.returns-then-len-self
returns-then-len-self c =
    let b = c.args.self.now in
    let absent = sym (ap is_some c.row.ensures) ∙ sym c.is_some.ensures ∙ c.if-is_some.false in
    sym (put_full (shelved b) c.args.row (omega arith) absent (search (rules, length_sorted b.rows.items)))

pub invariant_of-self : goal.invariant_of-self
invariant_of-self c =
    let b = c.args.self.now in
    let absent = sym (ap is_some c.row.ensures) ∙ sym c.is_some.ensures ∙ c.if-is_some.false in
    let items = pushed c.push-fits.result _ _ _ (c.push-fits.ensures.succeeds (search rules)) c.push-fits.ensures.items in
    let ok = apart_pushed b.rows.items c.args.row b.ok (omega arith) (sym (has_sorted b.rows.items c.args.row.own b.ok) ∙ absent) in
    record { within = search rules; room = search rules; ok = rw items ok }

pub returns : goal.returns
returns c =
    let b = c.args.self.now in
    let absent = sym (ap is_some c.row.ensures) ∙ sym c.is_some.ensures ∙ c.if-is_some.false in
    let items = pushed c.push-fits.result _ _ _ (c.push-fits.ensures.succeeds (search rules)) c.push-fits.ensures.items in
    let lacks = sym (has_sorted b.rows.items c.args.row.own b.ok) ∙ absent in
    put_made (shelved b) c.args.row _ (omega arith) absent (search (rules, length_sorted b.rows.items))
    (ap sorted items ∙ sorted_pushed b.rows.items c.args.row b.ok (omega arith) lacks)

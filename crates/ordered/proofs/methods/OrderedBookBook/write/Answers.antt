use Rattle.std.proofs.Common.{refl, ap, length, set, rules, arith}
use Rattle.std.proofs.lemmas.List.{length-set}
use Rattle.arrayvec.proofs.ArrayVecLemmas.{items-with_items}
use Rattle.book.proofs.Changes.{write_refused}
use Rattle.ordered.specs.Shelved.{shelved}
use Rattle.ordered.proofs.Filed.{filed_over, has_index}
use Rattle.ordered.proofs.methods.OrderedBookBook.write.Goals as goal

pub returns-in_err-i : goal.returns-in_err-i
returns-in_err-i c =
    let b = c.args.self.now in
    let e = write_refused (shelved b) c.args.row.own _ _ (has_index b.rows.items c.args.row.own) c.in_err-i.ensures.value c.args.row refl in
    search rules

pub invariant_of-self : goal.invariant_of-self
invariant_of-self c =
    let b = c.args.self.now in
    let w = items-with_items b.rows (set b.rows.items c.in_ok-i.i c.args.row) (length-set b.rows.items c.in_ok-i.i c.args.row) in
    let f = filed_over _ b.rows.items c.args.row c.in_ok-i.i b.ok c.in_ok-i.ensures.value in
    rw c.deref_mut.ensures.value (record { most = omega (arith, b.most, ap length w, length-set b.rows.items c.in_ok-i.i c.args.row); ok = rw w f.0 })

pub returns : goal.returns
returns c =
    let b = c.args.self.now in
    let w = items-with_items b.rows (set b.rows.items c.in_ok-i.i c.args.row) (length-set b.rows.items c.in_ok-i.i c.args.row) in
    let f = filed_over _ b.rows.items c.args.row c.in_ok-i.i b.ok c.in_ok-i.ensures.value in
    rw (c.deref_mut.ensures.value, w) f.1

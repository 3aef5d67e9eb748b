use Rattle.std.proofs.Common.{ap, is_some, sym, ◌∙◌, arith, rules}
use Rattle.book.proofs.Changes.{put_present}
use Rattle.table.specs.Shelved.{shelved}
use Rattle.table.proofs.Filed.{has_place, put_none, filed_in, strayed_in}
use Rattle.table.proofs.Strays.{strays_few, astray_one}
use Rattle.table.proofs.methods.TableBookBook.put.Goals as goal

pub returns-then-is_some : goal.returns-then-is_some
returns-then-is_some c =
    let b = c.args.self.now in
    let there = has_place b.slots c.args.row.own b.ok ∙ sym (ap is_some c.place.ensures.value) ∙ sym c.is_some.ensures ∙ c.if-is_some.true in
    sym (put_present (shelved b) c.args.row (omega arith) there)

pub returns-in_err-free : goal.returns-in_err-free
returns-in_err-free c =
    let b = c.args.self.now in
    let no = has_place b.slots c.args.row.own b.ok ∙ sym (ap is_some c.place.ensures.value) ∙ sym c.is_some.ensures ∙ c.if-is_some.false in
    let e = put_none _ b.slots c.args.row c.free_place.result b.long (omega arith) no c.free_place.ensures.value c.in_err-free.ensures.value in
    search rules

pub invariant_of-self : goal.invariant_of-self
invariant_of-self c =
    let b = c.args.self.now in
    let no = has_place b.slots c.args.row.own b.ok ∙ sym (ap is_some c.place.ensures.value) ∙ sym c.is_some.ensures ∙ c.if-is_some.false in
    let f =
    filed_in _ b.slots c.args.row c.free_place.result c.in_ok-free.free b.ok b.long (omega arith) no
    c.free_place.ensures.value c.in_ok-free.ensures.value (search rules) in
    let n = strayed_in _ b.slots c.args.row c.free_place.result c.in_ok-free.free b.long c.free_place.ensures.value c.in_ok-free.ensures.value (search rules) in
    record { long = search rules; ok = f.0; counted = omega (arith, n, b.counted, c.astray.ensures) }

pub overflow_add-self : goal.overflow_add-self
overflow_add-self c =
    let b = c.args.self.now in
    omega (arith, strays_few 0 b.slots, b.counted, b.long, astray_one c.args.row.own c.in_ok-free.free, c.astray.ensures)

pub returns : goal.returns
returns c =
    let b = c.args.self.now in
    let no = has_place b.slots c.args.row.own b.ok ∙ sym (ap is_some c.place.ensures.value) ∙ sym c.is_some.ensures ∙ c.if-is_some.false in
    (filed_in _ b.slots c.args.row c.free_place.result c.in_ok-free.free b.ok b.long (omega arith) no
    c.free_place.ensures.value c.in_ok-free.ensures.value (search rules)).1

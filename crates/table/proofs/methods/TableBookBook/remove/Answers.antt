use Rattle.std.proofs.Common.{rules, arith}
use Rattle.book.proofs.Changes.{remove_refused}
use Rattle.table.specs.Shelved.{shelved}
use Rattle.table.proofs.Filed.{filed_out, strayed_out, has_place}
use Rattle.table.proofs.methods.TableBookBook.remove.Goals as goal

pub returns-in_err-i : goal.returns-in_err-i
returns-in_err-i c =
    let b = c.args.self.now in
    let e = remove_refused (shelved b) c.args.own _ _ (has_place b.slots c.args.own b.ok) c.in_err-i.ensures.value in
    search rules

pub invariant_of-self : goal.invariant_of-self
invariant_of-self c =
    let b = c.args.self.now in
    let n = strayed_out _ b.slots c.args.own c.in_ok-i.i c.in_ok-i.ensures.value in
    record {
      long = search rules;
      ok = (filed_out _ b.slots c.args.own c.in_ok-i.i b.ok c.in_ok-i.ensures.value).0;
      counted = omega (arith, n, b.counted, c.astray.ensures);
    }

pub overflow_sub-self : goal.overflow_sub-self
overflow_sub-self c =
    let b = c.args.self.now in
    omega (arith, strayed_out _ b.slots c.args.own c.in_ok-i.i c.in_ok-i.ensures.value, b.counted, c.astray.ensures)

pub returns : goal.returns
returns c = let b = c.args.self.now in (filed_out _ b.slots c.args.own c.in_ok-i.i b.ok c.in_ok-i.ensures.value).1

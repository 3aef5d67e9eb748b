use Rattle.std.proofs.Common.{refl, sym, ◌∙◌, rules}
use Rattle.book.proofs.Changes.{write_refused}
use Rattle.table.specs.Shelved.{shelved}
use Rattle.table.proofs.Filed.{filed_over, strayed_over, has_place}
use Rattle.table.proofs.methods.TableBookBook.write.Goals as goal

pub returns-in_err-i : goal.returns-in_err-i
returns-in_err-i c =
    let b = c.args.self.now in
    let e = write_refused (shelved b) c.args.row.own _ _ (has_place b.slots c.args.row.own b.ok) c.in_err-i.ensures.value c.args.row refl in
    search rules

pub invariant_of-self : goal.invariant_of-self
invariant_of-self c =
    let b = c.args.self.now in
    record {
      long = search rules;
      ok = (filed_over _ b.slots c.args.row c.in_ok-i.i b.ok c.in_ok-i.ensures.value).0;
      counted = b.counted ∙ sym (strayed_over _ b.slots c.args.row c.in_ok-i.i c.in_ok-i.ensures.value);
    }

pub returns : goal.returns
returns c = let b = c.args.self.now in (filed_over _ b.slots c.args.row c.in_ok-i.i b.ok c.in_ok-i.ensures.value).1

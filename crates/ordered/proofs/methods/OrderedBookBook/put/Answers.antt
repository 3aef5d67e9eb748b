use Rattle.std.proofs.Common.{sym, ◌∙◌, rules, arith}
use Rattle.ordered.proofs.Filed.{put_there, put_none, not_full, filed_in}
use Rattle.ordered.proofs.methods.OrderedBookBook.put.Goals as goal

pub returns-in_default : goal.returns-in_default
returns-in_default c = put_there _ c.args.self.now.rows.items c.args.row c.in_default.field-0 (omega arith) c.in_default.ensures.value

pub returns-then-is_full : goal.returns-then-is_full
returns-then-is_full c = put_none c.args.self.now.rows.items c.args.row c.in-Err.place (omega arith) (search rules) c.in-Err.ensures.value

pub invariant_of-self : goal.invariant_of-self
invariant_of-self c =
    let b = c.args.self.now in
    let few = not_full _ (sym c.is_full.ensures.value ∙ c.if-is_full.false) b.most in
    record {
      most = omega (arith, few, c.insert.ensures.len);
      ok = rw c.insert.ensures.items (filed_in b.rows.items c.args.row c.in-Err.place b.ok (omega arith) few c.in-Err.ensures.value).0;
    }

pub returns : goal.returns
returns c =
    let b = c.args.self.now in
    let few = not_full _ (sym c.is_full.ensures.value ∙ c.if-is_full.false) b.most in
    rw c.insert.ensures.items (filed_in b.rows.items c.args.row c.in-Err.place b.ok (omega arith) few c.in-Err.ensures.value).1

use Rattle.std.proofs.Common.{rules}
use Rattle.book.proofs.Changes.{read_refused}
use Rattle.ordered.specs.Shelved.{shelved}
use Rattle.ordered.proofs.Filed.{read_at, has_index}
use Rattle.ordered.proofs.methods.OrderedBookBook.read.Goals as goal

pub returns-in_err-i : goal.returns-in_err-i
returns-in_err-i c =
    let b = c.args.self.now in
    let e = read_refused (shelved b) c.args.own _ _ (has_index b.rows.items c.args.own) c.in_err-i.ensures.value in
    search rules

pub returns : goal.returns
returns c = rw c.deref.ensures.0 (read_at _ c.args.self.now.rows.items c.args.own c.in_ok-i.i _ c.in_ok-i.ensures.value)

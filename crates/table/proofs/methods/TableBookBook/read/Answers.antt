use Rattle.std.proofs.Common.{◌∙◌, rules}
use Rattle.book.proofs.Changes.{read_refused}
use Rattle.table.specs.Shelved.{shelved}
use Rattle.table.proofs.Filed.{read_place, has_place}
use Rattle.table.proofs.methods.TableBookBook.read.Goals as goal

pub returns-in_err-i : goal.returns-in_err-i
returns-in_err-i c =
    let b = c.args.self.now in
    let e = read_refused (shelved b) c.args.own _ _ (has_place b.slots c.args.own b.ok) c.in_err-i.ensures.value in
    search rules

pub returns : goal.returns
returns c =
    c.ok_or.ensures.value ∙ read_place _ c.args.self.now.slots c.args.own c.in_ok-i.i c.args.self.now.ok c.in_ok-i.ensures.value

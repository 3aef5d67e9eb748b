use Rattle.std.proofs.Common.{sym, ◌∙◌, rules}
use Rattle.book.specs.Shelves.{beyond}
use Rattle.table.specs.Sorting.{first_sorted}
use Rattle.table.proofs.methods.TableBookBook.next.Goals as goal

pub returns : goal.returns
returns c = c.lowest.ensures (beyond c.args.own) (λ r b p. search rules) ∙ sym (first_sorted (beyond c.args.own) c.args.self.now.slots c.args.self.now.ok)

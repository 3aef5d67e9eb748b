use Rattle.std.proofs.Common.{sym, ◌∙◌, rules}
use Rattle.book.specs.Shelves.{shows}
use Rattle.table.specs.Sorting.{first_sorted}
use Rattle.table.proofs.methods.TableBookBook.find.Goals as goal

pub returns : goal.returns
returns c = c.lowest.ensures (shows c.args.peer) (λ r b p. search rules) ∙ sym (first_sorted (shows c.args.peer) c.args.self.now.slots c.args.self.now.ok)

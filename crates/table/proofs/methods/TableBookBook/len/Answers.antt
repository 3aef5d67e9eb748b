use Rattle.std.proofs.Common.{sym, ◌∙◌}
use Rattle.table.specs.Sorting.{length_sorted}
use Rattle.table.proofs.methods.TableBookBook.len.Goals as goal

pub returns : goal.returns
returns c = c.used.ensures ∙ sym (length_sorted c.args.self.now.slots)

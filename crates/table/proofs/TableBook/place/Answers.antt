use Rattle.std.proofs.Common.{sym, ◌∙◌}
use Rattle.table.proofs.Strays.{nowhere}
use Rattle.table.proofs.TableBook.place.Goals as goal

pub returns-then-self-eq0-clause-value : goal.returns-then-self-eq0-clause-value
returns-then-self-eq0-clause-value c =
    let b = c.args.self.now in
    nowhere b.slots c.args.own (sym b.counted ∙ c.if-self-eq0.true) (sym c.at_home.ensures ∙ c.if-at_home.false)

use Rattle.std.proofs.Common.{rules}
use Rattle.strangers.specs.Newest.{newest_fits}
use Rattle.strangers.proofs.newest.Newest.newest.Goals as goal

pub returns-clause-sized : goal.returns-clause-sized
returns-clause-sized c = newest_fits c.args.self.now c.args.at c.as_slice.result.now (search rules)

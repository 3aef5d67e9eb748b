use Rattle.std.proofs.Common.{refl}
use Rattle.law.proofs.Lawful.{goes_on}
use Rattle.pair.specs.Worlds.{world}
use Rattle.pair.proofs.Pair.call.Goals as goal

pub returns-clause-goes_on : goal.returns-clause-goes_on
returns-clause-goes_on g c =
    let w = world c.step.new.self in
    goes_on g.C.Channel.behaviour g.met.C.Channel.sound (world c.args.self.now) _ _ w (w, c.step.ensures, refl)

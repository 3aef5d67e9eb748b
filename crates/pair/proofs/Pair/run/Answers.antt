use Rattle.std.proofs.Common.{rules, ◌≡◌, ◌++◌, ◌∷◌, [], arith}
use Rattle.law.proofs.Lawful.{lawful, goes_on}
use Rattle.pair.specs.Worlds.{world}
use Rattle.pair.proofs.Running.{run_more, run_all}
use Rattle.pair.proofs.Pair.run.Goals as goal

pub loop-next-preserved : goal.loop-next-preserved
loop-next-preserved g c =
    let longer = run_more g.C.Channel.behaviour (world c.args.self.now) (world c.loop-next.self) (world c.step.new.self) c.args.moves.now c.loop-next.next-index _ c.loop-next.answers.items c.step.result
    c.loop-next-test.true c.loop-next.invariant.2 c.step.ensures in
    let items : c.push.new.self.items ≡ c.loop-next.answers.items ++ c.step.result ∷ [] = search rules in
    (search rules, search rules, rw items longer)

pub returns-clause-law : goal.returns-clause-law
returns-clause-law g c =
    lawful g.C.Channel.behaviour g.met.C.Channel.sound _ _ _ _
    (run_all g.C.Channel.behaviour _ _ c.args.moves.now c.loop-next.next-index _ (omega arith) c.loop-next.invariant.2)

pub returns-clause-goes_on : goal.returns-clause-goes_on
returns-clause-goes_on g c =
    goes_on g.C.Channel.behaviour g.met.C.Channel.sound _ _ _ _
    (run_all g.C.Channel.behaviour _ _ c.args.moves.now c.loop-next.next-index _ (omega arith) c.loop-next.invariant.2)

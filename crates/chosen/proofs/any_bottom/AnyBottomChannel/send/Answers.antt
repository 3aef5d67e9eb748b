use Rattle.chosen.proofs.any_bottom.AnyBottomChannel.send.Goals as goal

pub returns-in-Queue-clause-effect : goal.returns-in-Queue-clause-effect
returns-in-Queue-clause-effect c = rw c.in-Queue.is c.send.ensures.effect

pub returns-in-Trace-clause-effect : goal.returns-in-Trace-clause-effect
returns-in-Trace-clause-effect c = rw c.in-Trace.is c.send-in-Trace.ensures.effect

use Rattle.std.proofs.Common.{arith}
use Rattle.channel.specs.Marking.{sent_marked}
use Rattle.channel.proofs.marker.MarkerChannel.send.Goals as goal

pub returns-clause-effect : goal.returns-clause-effect
returns-clause-effect g c =
    sent_marked (g.C.Channel.behaviour.meaning c.args.self.now.below) (g.C.Channel.behaviour.meaning c.send.new.self) c.args.to c.args.datagram.now
    (omega arith, omega arith) (rw (c.as_slice.ensures.value, c.with_mark.ensures) at c.send.ensures.effect)

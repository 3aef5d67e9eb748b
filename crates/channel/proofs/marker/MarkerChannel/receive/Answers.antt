use Rattle.std.proofs.Common.{Some, arith}
use Rattle.channel.specs.Marking.{unmarks_received}
use Rattle.channel.proofs.marker.MarkerChannel.receive.Goals as goal

pub returns-clause-effect : goal.returns-clause-effect
returns-clause-effect g c =
    unmarks_received (g.C.Channel.behaviour.meaning c.args.self.now.below) (g.C.Channel.behaviour.meaning c.receive.new.self) c.args.at
    c.args.buffer.now c.pass_on.new.buffer c.pass_on.result (g.met.C.Channel.sound c.args.self.now.below) (omega arith)
    (record {
      room = c.receive.new.buffer;
      came = Some c.in_ok-len.len;
      below = c.in_ok-len.ensures.effect;
      passes = c.pass_on.ensures;
    })

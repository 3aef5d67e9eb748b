use Rattle.bottoms.specs.Stores.{store_of}
use Rattle.bottoms.specs.Holding.{received_as}
use Rattle.bottoms.proofs.bottom.BottomChannel.receive.Goals as goal

pub returns-clause-effect : goal.returns-clause-effect
returns-clause-effect g c =
    received_as g.R.Rule.depth c.args.self.now.lanes c.args.at c.args.buffer.now c.receive.result c.receive.new.buffer
    (store_of c.receive.new.self) c.receive.ensures.exactly

use Rattle.std.proofs.Common.{sym}
use Rattle.bottoms.specs.Stores.{store_of}
use Rattle.bottoms.specs.Holding.{fated_sent, refused_sent}
use Rattle.bottoms.proofs.bottom.BottomChannel.send.Goals as goal

pub returns-then-not-admits-clause-effect : goal.returns-then-not-admits-clause-effect
returns-then-not-admits-clause-effect g c =
    refused_sent g.R.Rule.depth (store_of c.args.self.now.lanes) c.args.to c.args.datagram.now g.met.R.Rule.most (sym c.if-not-admits.ensures)

pub returns-clause-effect : goal.returns-clause-effect
returns-clause-effect g c =
    fated_sent g.R.Rule.depth (store_of c.args.self.now.lanes) c.args.to c.args.datagram.now (g.R.Rule.fate c.args.self.now.rule)
    (g.met.R.Rule.once c.args.self.now.rule) (store_of c.add.new.self) (rw (← c.next-fate.ensures.fate) c.add.ensures)

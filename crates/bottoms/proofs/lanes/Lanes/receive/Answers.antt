use Rattle.bottoms.proofs.Lanings.{sizes_with, sizes_rest}
use Rattle.bottoms.proofs.lanes.Lanes.receive.Goals as goal

pub invariant_of-self-clause-sizes : goal.invariant_of-self-clause-sizes
invariant_of-self-clause-sizes c =
    let l = c.args.self.now in
    sizes_with l _ c.at_mut-lane.result.now (rw c.at_mut-lane.ensures.value (l.sizes _))

pub invariant_of-self-2-clause-sizes : goal.invariant_of-self-2-clause-sizes
invariant_of-self-2-clause-sizes c =
    let l = c.args.self.now in
    sizes_with l _ c.remove.new.self
    (sizes_rest l.longest c.at_mut-lane.result.now c.remove.new.self (rw c.at_mut-lane.ensures.value (l.sizes _)) c.remove.ensures.items)

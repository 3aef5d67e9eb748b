use Rattle.std.proofs.Common.{◌≡◌, true}
use Rattle.std.proofs.lemmas.Bool.{and_from}
use Rattle.bottoms.specs.Datagrams.{lane_list, all_sized}
use Rattle.bottoms.proofs.Lanings.{fit, sizes_with, sizes_more, sizes_tried}
use Rattle.bottoms.proofs.lanes.Lanes.add.Goals as goal

pub invariant_of-self-clause-sizes : goal.invariant_of-self-clause-sizes
invariant_of-self-clause-sizes c =
    let l = c.args.self.now in
    let lane = c.at_mut-lane.result.now in
    let sized = fit l c.args.to c.args.octets.now c.requires in
    sizes_with l _ c.push.new.self
    (sizes_more l.longest lane c.push.new.self c.datagram.result (rw c.datagram.ensures sized)
    (rw c.at_mut-lane.ensures.value (l.sizes _)) c.push.ensures.items)

pub invariant_of-self-in-Lose-clause-sizes : goal.invariant_of-self-in-Lose-clause-sizes
invariant_of-self-in-Lose-clause-sizes c =
    let l = c.args.self.now in
    sizes_with l _ c.at_mut-lane.result.now (rw c.at_mut-lane.ensures.value (l.sizes _))

pub invariant_of-self-in-Double-clause-sizes : goal.invariant_of-self-in-Double-clause-sizes
invariant_of-self-in-Double-clause-sizes c =
    let l = c.args.self.now in
    let lane = c.at_mut-lane.result.now in
    let sized = fit l c.args.to c.args.octets.now c.requires in
    let one = c.datagram-in-Double.result in
    let once : all_sized l.longest (lane_list c.push-in-Double.new.self) ≡ true =
    sizes_more l.longest lane c.push-in-Double.new.self one (rw c.datagram-in-Double.ensures sized)
    (rw c.at_mut-lane.ensures.value (l.sizes _)) c.push-in-Double.ensures.items
    in
    sizes_with l _ c.try_push-once.new.self
    (sizes_tried l.longest c.push-in-Double.new.self c.try_push-once.new.self c.datagram-in-Double-2.result c.try_push-once.result
    (rw c.datagram-in-Double-2.ensures sized) once c.try_push-once.ensures.ok c.try_push-once.ensures.err)

pub invariant_of-self-in-Jump-clause-sizes : goal.invariant_of-self-in-Jump-clause-sizes
invariant_of-self-in-Jump-clause-sizes c =
    let l = c.args.self.now in
    let sized = fit l c.args.to c.args.octets.now c.requires in
    sizes_with l _ c.insert.new.self
    (rw (c.insert.ensures.items, c.at_mut-lane.ensures.value, c.datagram-in-Jump.ensures) (and_from _ _ sized (l.sizes _)))

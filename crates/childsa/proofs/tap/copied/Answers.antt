use Rattle.std.proofs.Common.{arith}
use Rattle.std.proofs.lemmas.Grind.{common_steps}
use Rattle.std.proofs.lemmas.List.{take_min, length-take}
use Rattle.childsa.proofs.tap.copied.Goals as goal

pub returns : goal.returns
returns c =
    let o = c.args.octets.now in
    let e = take_min 256 o in
    let l = length-take 256 o in
    grind (arith, common_steps, e, l, c.try_extend_from_slice-fits.ensures.ok, c.try_extend_from_slice-fits.ensures.variant)

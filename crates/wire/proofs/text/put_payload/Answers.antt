use Rattle.std.proofs.Common.{◌≡◌, ◌+◌, ◌∷◌, length, arith, rules, refl}
use Rattle.octets.specs.Numbers.{be16}
use Rattle.wire.specs.Encoding.{placed}
use Rattle.wire.specs.Messages.{announced}
use Rattle.wire.proofs.Placing.{placed_both}
use Rattle.wire.proofs.text.put_payload.Goals as goal

-- the opening octets, and the body behind them
pub returns-clause-octets : goal.returns-clause-octets
returns-clause-octets c =
    let opens : c.put.new.out ≡ placed c.args.at (announced c.args.next ∷ 0 ∷ be16 (4 + length c.args.body.now)) c.args.out.now =
    search rules
    in
    placed_both c.args.at (c.args.at + 4) _ c.args.body.now c.args.out.now _ _ opens c.put-2.ensures refl (omega arith)

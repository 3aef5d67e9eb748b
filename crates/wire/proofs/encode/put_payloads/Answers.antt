use Rattle.std.proofs.Common.{◌≡◌, ◌+◌, ◌≤◌, ◌∷◌, ◌++◌, length, ap, arith, rules}
use Rattle.octets.specs.Numbers.{be16}
use Rattle.wire.specs.Encoding.{placed}
use Rattle.wire.specs.Payloads.{rekey_body}
use Rattle.wire.proofs.Placing.{placed_both, placed_nothing}
use Rattle.wire.proofs.encode.put_payloads.Goals as goal

pub returns-in-Request-Rekey : goal.returns-in-Request-Rekey
returns-in-Request-Rekey c =
    let body = rekey_body c.in-Request-Rekey.old in
    let e : c.put_payload-at.new.out ≡ placed 28 (33 ∷ 0 ∷ (be16 (4 + length body) ++ body)) c.args.out.now = search rules in
    let room : 28 ≤ length c.args.out.now = omega arith in
    let k : c.put_payload-at.result ≡ 28 + (4 + length body) =
    omega (arith, c.put_payload-at.ensures.end, ap length c.naming_body-rekeyed.ensures)
    in
    let both = placed_both 28 c.put_payload-at.result _ _ c.args.out.now _ _ e c.put_offer.ensures (omega (arith, k)) room in
    search (rules, both)

pub returns-in-Request-Empty : goal.returns-in-Request-Empty
returns-in-Request-Empty c = search (rules, placed_nothing)

pub returns-in-Request-Empty-2 : goal.returns-in-Request-Empty-2
returns-in-Request-Empty-2 c = search (rules, placed_nothing)

use Rattle.std.proofs.Common.{◌≡◌, ℕ, ◌+◌, ◌≤◌, List, [], ◌∷◌, ◌++◌, length, append-nil, ap, arith, rules, length-append}
use Rattle.octets.specs.Numbers.{be16}
use Rattle.wire.specs.Encoding.{placed}
use Rattle.wire.specs.Payloads.{sa_body, ts_body}
use Rattle.wire.proofs.Placing.{placed_both}
use Rattle.wire.proofs.encode.put_offer.Goals as goal

-- a payload as it is put
abbrev opened : ℕ → List ℕ → List ℕ
opened next body = next ∷ 0 ∷ (be16 (4 + length body) ++ body)

-- four payloads, one behind the other
four :
    (at j k l : ℕ) (p q r t s s₁ s₂ s₃ s₄ : List ℕ) → s₁ ≡ placed at p s → s₂ ≡ placed j q s₁ → s₃ ≡ placed k r s₂ → s₄ ≡ placed l t s₃ →
    j ≡ at + length p → k ≡ j + length q → l ≡ k + length r → at ≤ length s → j ≤ length s₁ → k ≤ length s₂ → s₄ ≡ placed at (p ++ (q ++ (r ++ t))) s
four at j k l p q r t s s₁ s₂ s₃ s₄ e f g h a b c x y z =
    placed_both at j p (q ++ (r ++ t)) s s₁ s₄ e (placed_both j k q (r ++ t) s₁ s₂ s₄ f (placed_both k l r t s₂ s₃ s₄ g h c z) b y) a x

pub returns : goal.returns
returns c =
    let n = c.args.nonce.now in
    let last : List ℕ = 0 ∷ 0 ∷ (be16 (4 + length ts_body) ++ (ts_body ++ [])) in
    let e₁ : c.put_payload-at.new.out ≡ placed c.args.at (opened 40 (sa_body c.args.spi)) c.args.out.now = search rules in
    let e₂ : c.put_payload-at-2.new.out ≡ placed c.put_payload-at.result (opened 44 n) c.put_payload-at.new.out = search rules in
    let e₃ : c.put_payload-at-3.new.out ≡ placed c.put_payload-at-2.result (opened 45 ts_body) c.put_payload-at-2.new.out =
    search rules
    in
    let e₄ : c.put_payload.new.out ≡ placed c.put_payload-at-3.result last c.put_payload-at-3.new.out =
    rw (append-nil ts_body) (search rules)
    in
    let room = simp length-append at c.requires in
    let j : c.put_payload-at.result ≡ c.args.at + (4 + length (sa_body c.args.spi)) =
    omega (arith, c.put_payload-at.ensures.end, ap length c.sa_body.ensures)
    in
    let k : c.put_payload-at-2.result ≡ c.put_payload-at.result + (4 + length n) =
    omega (arith, c.put_payload-at-2.ensures.end, ap length c.as_slice.ensures.value)
    in
    let l : c.put_payload-at-3.result ≡ c.put_payload-at-2.result + (4 + length ts_body) =
    omega (arith, c.put_payload-at-3.ensures.end, ap length c.ts_body.ensures)
    in
    four c.args.at c.put_payload-at.result c.put_payload-at-2.result c.put_payload-at-3.result _ _ _ _ _ _ _ _ _ e₁ e₂ e₃ e₄
    (omega (arith, j)) (omega (arith, k)) (omega (arith, l)) (omega (arith, room)) (omega (arith, room, j))
    (omega (arith, room, j, k))

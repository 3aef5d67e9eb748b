use Rattle.std.proofs.Common.{◌≡◌, ◌∙◌, ℕ, ◌+◌, ◌≤◌, List, ◌++◌, length, drop, sym, ap, arith, refl, rules}
use Rattle.octets.specs.Numbers.{be32, be64}
use Rattle.wire.specs.Encoding.{placed}
use Rattle.wire.specs.Messages.{parts_of, chain, kinds, octets_of}
use Rattle.wire.proofs.Placing.{placed_both, placed_front}
use Rattle.wire.proofs.encode.Message+Nonce.put.Goals as goal

-- the header piece by piece, and the payloads behind it
six :
    (a b k i n p s s₁ s₂ s₃ s₄ s₅ s₆ : List ℕ) → s₁ ≡ placed 0 a s → s₂ ≡ placed 8 b s₁ → s₃ ≡ placed 16 k s₂ → s₄ ≡ placed 20 i s₃ →
    s₅ ≡ placed 24 n s₄ → s₆ ≡ placed 28 p s₅ → length a ≡ 8 → length b ≡ 8 → length k ≡ 4 → length i ≡ 4 → length n ≡ 4 →
    28 ≤ length s → 28 ≤ length s₁ → 28 ≤ length s₂ → 28 ≤ length s₃ → 28 ≤ length s₄ →
    s₆ ≡ placed 0 (a ++ (b ++ (k ++ (i ++ (n ++ p))))) s
six a b k i n p s s₁ s₂ s₃ s₄ s₅ s₆ e₁ e₂ e₃ e₄ e₅ e₆ la lb lk li ln l l₁ l₂ l₃ l₄ =
    placed_both 0 8 a _ s s₁ s₆ e₁
    (placed_both 8 16 b _ s₁ s₂ s₆ e₂
    (placed_both 16 20 k _ s₂ s₃ s₆ e₃
    (placed_both 20 24 i _ s₃ s₄ s₆ e₄ (placed_both 24 28 n p s₄ s₅ s₆ e₅ e₆ (omega arith) (omega arith)) (omega arith) (omega arith))
    (omega arith) (omega arith))
    (omega arith) (omega arith))
    (omega arith) (omega arith)

pub returns : goal.returns
returns c =
    let m = c.args.self.now in
    let p = chain (parts_of m.body) in
    let e₁ : c.put.new.out ≡ placed 0 (be64 m.initiator) c.args.out.now = search rules in
    let e₂ : c.put-2.new.out ≡ placed 8 (be64 m.responder) c.put.new.out = search rules in
    let e₃ : c.put-3.new.out ≡ placed 16 (kinds m.sender m.body) c.put-2.new.out = search rules in
    let e₄ : c.put-4.new.out ≡ placed 20 (be32 m.id) c.put-3.new.out = search rules in
    let e₅ : c.put-5.new.out ≡ placed 24 (be32 (28 + length p)) c.put-4.new.out = search rules in
    let all =
    six _ _ _ _ _ p c.args.out.now _ _ _ _ _ c.put_payloads.new.out e₁ e₂ e₃ e₄ e₅ c.put_payloads.ensures refl refl refl refl refl
    (omega arith) (omega arith) (omega arith) (omega arith) (omega arith)
    in
    all ∙ placed_front (octets_of m) c.args.out.now ∙ ap (λ k. octets_of m ++ drop k c.args.out.now) (sym c.requires.len)

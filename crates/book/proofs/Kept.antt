-- Octets in 32 places.
use Rattle.std.proofs.Common.{◌≡◌, ℕ, ◌-◌, ◌≤◌, true, min, List, ◌++◌, length, take, drop, replicate, refl, sym, ap, ◌∙◌, inl, inr, arith}
use Rattle.std.proofs.lemmas.List.{take_all, drop-replicate}
use Rattle.std.proofs.lemmas.Bool.{cases_lt, le-leb}
use Rattle.std.proofs.Math.Seq.{take-append_seam}
use Rattle.nonce.specs.Nonces.{nonce_long}
use Rattle.book.specs.declared.row.KeptNonce.{KeptNonce}
use Rattle.book.specs.Rows.{kept, kept_octets}

-- a length above that of the list counts as that
pub take_capped : (n m : ℕ) (s : List ℕ) → length s ≡ 32 → m ≡ min n 32 → take m s ≡ take n s
take_capped n m s l e =
    elim (cases_lt n 32) [
      | inl a ↦ ap (λ k. take k s) (omega arith)
      | inr b ↦ take_all m s (omega arith) ∙ sym (take_all n s (omega arith))
    ]

-- octets that were copied to the front of 32 zeros
copied :
    (n : ℕ) (p s : List ℕ) → p ≡ s → n ≡ length s →
    ◌≡◌ {A = KeptNonce} (record { octets = p ++ drop (n - 0) (replicate 32 0); len = n }) (kept s)
copied n p s e l =
    let d : ◌≡◌ {A = List ℕ} (drop (n - 0) (replicate 32 0)) (replicate (32 - length s) 0)
    = drop-replicate (n - 0) 32 0 ∙ ap (λ k. replicate (32 - k) 0) (omega arith) in
    cc

-- the octets of a nonce are as many in a row
kept_long : (k : KeptNonce) (s : List ℕ) → k ≡ kept s → 16 ≤ length s → length s ≤ 32 → nonce_long (kept_octets k) ≡ true
kept_long k s e l m =
    let t : kept_octets k ≡ s = ap kept_octets e ∙ take-append_seam s (replicate (32 - length s) 0) in
    rw (t, le-leb _ _ l, le-leb _ _ m) refl

pub nonce_copied :
    (n : ℕ) (p s : List ℕ) → p ≡ s → n ≡ length s → 16 ≤ length s → length s ≤ 32 →
    let k : KeptNonce = record { octets = p ++ drop (n - 0) (replicate 32 0); len = n } in
    (k ≡ kept s) × (nonce_long (kept_octets k) ≡ true)
nonce_copied n p s e l least most = let c = copied n p s e l in (c, kept_long _ s c least most)

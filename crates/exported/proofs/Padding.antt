-- Octets that were copied to the front of 32 zeros.
use Rattle.std.proofs.Common.{◌≡◌, ℕ, ◌-◌, List, ◌++◌, drop, replicate, ap, ◌∙◌, arith}
use Rattle.std.proofs.lemmas.List.{drop-replicate}

pub zeros_behind : (n : ℕ) (p s : List ℕ) → p ≡ s → p ++ drop (n - 0) (replicate 32 0) ≡ s ++ replicate (32 - n) 0
zeros_behind n p s e =
    ap (λ q. q ++ drop (n - 0) (replicate 32 0)) e
    ∙ ap (λ z. s ++ z) (drop-replicate (n - 0) 32 0 ∙ ap (λ k. replicate (32 - k) 0) (omega arith))

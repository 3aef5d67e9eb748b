-- Octets that were copied to the front of 32 zeros.
use Rattle.std.proofs.Common.{◌≡◌, ℕ, ◌-◌, ◌≤◌, List, ◌++◌, length, take, drop, replicate, ap, ◌∙◌, arith, length-append, length-drop}
use Rattle.std.proofs.lemmas.List.{drop_at, take_at, drop-replicate}

pub zeros_behind :
    (n : ℕ) (p s : List ℕ) → p ≡ s → length s ≡ n →
    drop n (p ++ drop (n - 0) (replicate 32 0)) ≡ replicate (32 - n) 0
zeros_behind n p s e l =
    drop_at p (drop (n - 0) (replicate 32 0)) n (ap length e ∙ l)
    ∙ drop-replicate (n - 0) 32 0
    ∙ ap (λ k. replicate (32 - k) 0) (omega arith)

pub long_kept :
    (n : ℕ) (p s : List ℕ) → p ≡ s → length s ≡ n → n ≤ 32 → length (p ++ drop (n - 0) (replicate 32 0)) ≡ 32
long_kept n p s e l h = omega (arith, ap length e, l, h, length-append p (drop (n - 0) (replicate 32 0)), length-drop {A = ℕ} (n - 0) (replicate 32 0))

pub octets_in_front : (n : ℕ) (p q s : List ℕ) → p ≡ s → length s ≡ n → take n (p ++ q) ≡ s
octets_in_front n p q s e l = take_at p q n (ap length e ∙ l) ∙ e

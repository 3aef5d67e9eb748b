-- Octets eight at a time: numbers of eight octets, the most significant first, have the order of the octets.
use Rattle.std.proofs.Common.{◌≡◌, ℕ, zero, suc, ◌+◌, ◌*◌, ◌<◌, ◌≤◌, Bool, cond, eqb, ltb, List, [], ◌∷◌, length, length-take-le, get_or, Fits, w8, take, drop, refl, sym, ap, ◌∙◌, arith}
use Rattle.std.specs.Int.{w64, from_be_bytes}
use Rattle.std.proofs.lemmas.Bool.{ne_eqb, eq-eqb}
use Rattle.std.proofs.lemmas.Bool.Decides.{nat_tests}
use Rattle.nonce.specs.Order.{lower_or}

-- the order of two numbers, or v where they are the same
abbrev decided : ℕ → ℕ → Bool → Bool
decided a b v = cond (eqb a b) v (ltb a b)

-- an octet more behind either number
one_more : (a b x y : ℕ) (v : Bool) → x < 256 → y < 256 → decided a b (decided x y v) ≡ decided (a * 256 + x) (b * 256 + y) v
one_more a b x y v h k = grind (arith, nat_tests)

-- the number that goes on with these octets
abbrev number : ℕ → List ℕ → ℕ
number a [] = a
number a (x ∷ xs) = number (a * 256 + x) xs

-- n octets more behind either number
more :
    (n a b : ℕ) (s t : List ℕ) (e : Bool) → n ≤ length s → n ≤ length t → ((k : ℕ) → get_or s k 0 < 256) → ((k : ℕ) → get_or t k 0 < 256) →
    decided a b (lower_or s t e) ≡ decided (number a (take n s)) (number b (take n t)) (lower_or (drop n s) (drop n t) e)
more zero a b s t e l m h k = refl
more (suc n) a b [] t e l m h k = absurd (omega arith)
more (suc n) a b (x ∷ s) [] e l m h k = absurd (omega arith)
more (suc n) a b (x ∷ s) (y ∷ t) e l m h k =
    one_more a b x y (lower_or s t e) (h 0) (k 0)
    ∙ more n (a * 256 + x) (b * 256 + y) s t e (omega arith) (omega arith) (λ i. h (suc i)) (λ i. k (suc i))

eight : (p : List ℕ) → length p ≡ 8 → number 0 p ≡ from_be_bytes w64 p
eight (a ∷ b ∷ c ∷ d ∷ e ∷ f ∷ g ∷ h ∷ []) l = omega arith
eight _ l = absurd (omega arith)

-- the first eight octets of a row of octets, and those behind them
abbrev pub Cut : (s first rest : List ℕ) → Type 0
Cut s first rest = (first ≡ take 8 s) × (rest ≡ drop 8 s) × (length rest + 8 ≡ length s)

abbrev pub Octets : List ℕ → Type 0
Octets s = (k : ℕ) → Fits w8 (get_or s k 0)

front : (s p r : List ℕ) (x : ℕ) → Cut s p r → x ≡ from_be_bytes w64 p → number 0 (take 8 s) ≡ x
front s p r x f m = ap (number 0) (sym f.0) ∙ eight p (ap length f.0 ∙ length-take-le 8 s (omega arith)) ∙ sym m

module _
    (s t p q r u : List ℕ) (x y : ℕ) (e : Bool) (f : Cut s p r) (g : Cut t q u) (h : Octets s) (k : Octets t)
    (m : x ≡ from_be_bytes w64 p) (n : y ≡ from_be_bytes w64 q) where
  eights : lower_or s t e ≡ decided x y (lower_or r u e)
  eights =
      more 8 0 0 s t e (omega arith) (omega arith) (λ i. (h i).fits) (λ i. (k i).fits)
      ∙ rw (front s p r x f m, front t q u y g n, ← f.1, ← g.1) refl

  -- where the numbers are the same, what follows decides
  pub alike : x ≡ y → lower_or s t e ≡ lower_or r u e
  alike d = eights ∙ rw (eq-eqb x y d) refl

  -- and else their order
  pub apart : (x ≡ y → ⊥) → lower_or s t e ≡ ltb x y
  apart d = eights ∙ rw (ne_eqb x y d) refl

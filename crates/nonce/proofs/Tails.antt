-- Zeros behind two rows of octets do not change which is lower, where the longer one is the higher of rows that are then alike.
use Rattle.std.proofs.Common.{◌≡◌, ℕ, zero, suc, ◌-◌, true, false, ltb, List, [], ◌∷◌, ◌++◌, length, take, replicate, refl, sym, ap, ap₂, ◌∙◌, arith, take-append-drop, length-take-le}
use Rattle.std.proofs.lemmas.Bool.{lt-ltb, le-ltb}
use Rattle.std.proofs.lemmas.Bool.Decides.{nat_tests}
use Rattle.nonce.specs.declared.Nonce.TheInside.{Inside}
use Rattle.nonce.specs.Kept.{IsKept}
use Rattle.nonce.specs.Order.{lower_than, lower_or}

-- nothing is lower than zeros
zeros_lower : (n : ℕ) (t : List ℕ) → lower_or (replicate n 0) t true ≡ true
zeros_lower zero t = refl
zeros_lower (suc n) [] = refl
zeros_lower (suc n) (y ∷ t) = let h = zeros_lower n t in grind (arith, nat_tests)

never_lower : (s : List ℕ) (n : ℕ) → lower_or s (replicate n 0) false ≡ false
never_lower [] n = refl
never_lower (x ∷ s) zero = refl
never_lower (x ∷ s) (suc n) = let h = never_lower s n in grind (arith, nat_tests)

behind :
    (n m : ℕ) (s t : List ℕ) →
    lower_or (s ++ replicate n 0) (t ++ replicate m 0) (ltb (length s) (length t)) ≡ lower_than s t
behind n m [] [] = never_lower (replicate n 0) m
behind n m [] (y ∷ t) = let l : ltb 0 (suc (length t)) ≡ true = lt-ltb _ _ (omega arith) in rw l (zeros_lower n (y ∷ (t ++ replicate m 0)))
behind n m (x ∷ s) [] = let l : ltb (suc (length s)) 0 ≡ false = le-ltb _ _ (omega arith) in rw l (never_lower (x ∷ (s ++ replicate n 0)) m)
behind n m (x ∷ s) (y ∷ t) = let h = behind n m s t in grind (arith, nat_tests)

-- a nonce as its octets and the zeros behind them
parts : (n : Inside) (s : List ℕ) → IsKept n → take n.len n.octets ≡ s → (n.octets ≡ s ++ replicate (32 - n.len) 0) × (n.len ≡ length s)
parts n s h e =
    (sym (take-append-drop n.len n.octets) ∙ rw (e, h.padded) refl, omega (arith, ap length e, length-take-le n.len n.octets (omega (arith, h.most, h.long))))

-- all 32 octets and then the lengths
pub whole :
    (a b : Inside) (s t : List ℕ) → IsKept a → IsKept b → take a.len a.octets ≡ s → take b.len b.octets ≡ t →
    lower_or a.octets b.octets (ltb a.len b.len) ≡ lower_than s t
whole a b s t h k e f =
    let p = parts a s h e in
    let q = parts b t k f in
    rw (p.0, q.0) (ap (λ l. lower_or (s ++ replicate (32 - a.len) 0) (t ++ replicate (32 - b.len) 0) l) (ap₂ ltb p.1 q.1) ∙ behind _ _ s t)

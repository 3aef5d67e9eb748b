-- The order of nonces is total, and the loser's exchange has a lowest nonce.
use Rattle.std.proofs.Common.{◌≡◌, ℕ, Bool, true, false, cond, ◌⊎◌, List, [], ◌∷◌, refl, ap, inl, inr, ⊎_elim, arith}
use Rattle.std.proofs.lemmas.Bool.Decides.{nat_tests}
use Rattle.std.proofs.lemmas.Bool.{true≢false, both_ways, cases_Bool}
use Rattle.nonce.specs.Order.{lower_than, lowest_of, loser_by, NoneLower, Loses}
use Rattle.nonce.specs.declared.order.Lowest.TheVariants.{InitiatorOfA, ResponderOfA, InitiatorOfB, ResponderOfB}
use Rattle.nonce.specs.declared.side.Side.TheVariants.{A, B}

-- none is lower than itself
pub not_self : (x : List ℕ) → lower_than x x ≡ false
not_self [] = refl
not_self (x ∷ xs) = let h = not_self xs in grind (arith, nat_tests)

-- of two, not both are lower
pub not_both : (x y : List ℕ) → lower_than x y ≡ true → lower_than y x ≡ false
not_both [] (y ∷ ys) e = refl
not_both [] [] e = refl
not_both (x ∷ xs) [] e = absurd (true≢false (grind arith))
not_both (x ∷ xs) (y ∷ ys) e = let h = not_both xs ys in grind (arith, nat_tests)

-- where x is not lower than y, nor y than z, x is not lower than z
pub not_lower : (x y z : List ℕ) → lower_than x y ≡ false → lower_than y z ≡ false → lower_than x z ≡ false
not_lower [] [] z e f = f
not_lower [] (y ∷ ys) z e f = absurd (both_ways true (grind arith) refl)
not_lower (x ∷ xs) y [] e f = refl
not_lower (x ∷ xs) [] (z ∷ zs) e f = absurd (both_ways true (grind arith) refl)
not_lower (x ∷ xs) (y ∷ ys) (z ∷ zs) e f = let h = not_lower xs ys zs in grind (arith, nat_tests)

-- where x is lower than y, and z is not, x is lower than z
pub lower_still : (x y z : List ℕ) → lower_than x y ≡ true → lower_than z y ≡ false → lower_than x z ≡ true
lower_still x y z e f =
    ⊎_elim (λ t. t) (λ n. absurd (both_ways (lower_than x y) (not_lower x z y n f) e)) (cases_Bool (lower_than x z))

-- neither of two is lower than the lower of them
least :
    (x y : List ℕ) (p : Bool) → lower_than y x ≡ p →
    (lower_than x (cond p y x) ≡ false) × (lower_than y (cond p y x) ≡ false)
least x y true e = (not_both y x e, not_self y)
least x y false e = (not_self x, e)

module _ (ia ra ib rb : List ℕ) where
  loser_is :
      (p q r : Bool) → lower_than ra ia ≡ p → lower_than rb ib ≡ q → lower_than (cond q rb ib) (cond p ra ia) ≡ r →
      loser_by (lowest_of ia ra ib rb) ≡ cond r B A
  loser_is true true true e f g = let h : lowest_of ia ra ib rb ≡ ResponderOfB = cc in ap loser_by h
  loser_is true true false e f g = let h : lowest_of ia ra ib rb ≡ ResponderOfA = cc in ap loser_by h
  loser_is true false true e f g = let h : lowest_of ia ra ib rb ≡ InitiatorOfB = cc in ap loser_by h
  loser_is true false false e f g = let h : lowest_of ia ra ib rb ≡ ResponderOfA = cc in ap loser_by h
  loser_is false true true e f g = let h : lowest_of ia ra ib rb ≡ ResponderOfB = cc in ap loser_by h
  loser_is false true false e f g = let h : lowest_of ia ra ib rb ≡ InitiatorOfA = cc in ap loser_by h
  loser_is false false true e f g = let h : lowest_of ia ra ib rb ≡ InitiatorOfB = cc in ap loser_by h
  loser_is false false false e f g = let h : lowest_of ia ra ib rb ≡ InitiatorOfA = cc in ap loser_by h

  module _ (p q : Bool) (e : lower_than ra ia ≡ p) (f : lower_than rb ib ≡ q) where
    a_lowest : lower_than (cond q rb ib) (cond p ra ia) ≡ false → NoneLower (cond p ra ia) ia ra ib rb
    a_lowest g =
        let a = least ia ra p e in
        let b = least ib rb q f in
        (a.0, a.1, not_lower ib _ _ b.0 g, not_lower rb _ _ b.1 g)

    b_lowest : lower_than (cond q rb ib) (cond p ra ia) ≡ true → NoneLower (cond q rb ib) ia ra ib rb
    b_lowest g =
        let a = least ia ra p e in
        let b = least ib rb q f in
        let h = not_both (cond q rb ib) (cond p ra ia) g in
        (not_lower ia _ _ a.0 h, not_lower ra _ _ a.1 h, b.0, b.1)

  either_lowest : (x y : List ℕ) (p : Bool) → NoneLower (cond p y x) ia ra ib rb → NoneLower x ia ra ib rb ⊎ NoneLower y ia ra ib rb
  either_lowest x y true h = inr h
  either_lowest x y false h = inl h

  -- a nonce that some of B's exchange is lower than is no lowest one
  no_lowest :
      (x : List ℕ) (q : Bool) → lower_than (cond q rb ib) x ≡ true → NoneLower x ia ra ib rb → ⊥
  no_lowest x true g (a, b, c, d) = both_ways (lower_than rb x) d g
  no_lowest x false g (a, b, c, d) = both_ways (lower_than ib x) c g

  loses_by :
      (p q r : Bool) → lower_than ra ia ≡ p → lower_than rb ib ≡ q → lower_than (cond q rb ib) (cond p ra ia) ≡ r →
      Loses (cond r B A) ia ra ib rb
  loses_by p q false e f g = either_lowest ia ra p (a_lowest p q e f g)
  loses_by p q true e f g =
      let a = least ia ra p e in (
        either_lowest ib rb q (b_lowest p q e f g),
        no_lowest ia q (lower_still _ _ ia g a.0),
        no_lowest ra q (lower_still _ _ ra g a.1),
      )

  pub loses : Loses (loser_by (lowest_of ia ra ib rb)) ia ra ib rb
  loses =
      let p = lower_than ra ia in
      let q = lower_than rb ib in
      let r = lower_than (cond q rb ib) (cond p ra ia) in
      rw (loser_is p q r refl refl refl) (loses_by p q r refl refl refl)

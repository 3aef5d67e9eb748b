-- Rows that stand in another place than their hashed one: how many there are after a slot changes, and what it says that there are none.
use Rattle.std.proofs.Common.{◌≡◌, ℕ, zero, suc, ◌+◌, ◌<◌, ◌≤◌, true, false, eqb, [], ◌∷◌, length, get_or, set, Some, None, Option, sym, refl, ap, ◌∙◌, inl, inr, arith}
use Rattle.std.proofs.lemmas.Bool.{cases_Bool, both_ways, eq-eqb, eqb-true}
use Rattle.book.specs.declared.row.Row.{Row}
use Rattle.table.specs.Slots.{Slots, home, holds, astray, stray_in, strays_from, place_of}
use Rattle.table.proofs.Placing.{place_holds}

-- a slot is changed, at place j
pub strays_set :
    (i j k : ℕ) (s : Slots) (o : Option Row) → j ≡ i + k → k < length s →
    strays_from i (set s k o) + stray_in j (get_or s k None) ≡ strays_from i s + stray_in j o
strays_set i j k [] o e l = absurd (omega arith)
strays_set i j zero (x ∷ s) o e l = let f : j ≡ i = omega arith in rw f (omega arith)
strays_set i j (suc k) (x ∷ s) o e l = let h = strays_set (i + 1) j k s o (omega arith) (omega arith) in omega arith

pub astray_one : (k i : ℕ) → astray k i ≤ 1
astray_one k i =
    elim (cases_Bool (eqb (home k) i)) [
      | inl t ↦ rw t (omega arith)
      | inr t ↦ rw t (omega arith)
    ]

pub strays_few : (i : ℕ) (s : Slots) → strays_from i s ≤ length s
strays_few i [] = omega arith
strays_few i (None ∷ s) = omega (arith, strays_few (i + 1) s)
strays_few i (Some r ∷ s) = omega (arith, astray_one r.own i, strays_few (i + 1) s)

-- where none is astray, the row at place j is in its hashed place
none_astray : (i j k : ℕ) (s : Slots) (r : Row) → j ≡ i + k → strays_from i s ≡ 0 → get_or s k None ≡ Some r → astray r.own j ≡ 0
none_astray i j k [] r e n g = cc
none_astray i j zero (o ∷ s) r e n g =
    let f : j ≡ i = omega arith in
    let z : stray_in i o ≡ 0 = omega arith in
    rw f (sym (ap (stray_in i) g) ∙ z)
none_astray i j (suc k) (o ∷ s) r e n g = none_astray (i + 1) j k s r (omega arith) (omega arith) g

elsewhere : (k i : ℕ) → eqb (home k) i ≡ false → astray k i ≡ 1
elsewhere k i t = rw t refl

homely : (k i : ℕ) → astray k i ≡ 0 → home k ≡ i
homely k i z =
    elim (cases_Bool (eqb (home k) i)) [
      | inl t ↦ eqb-true _ _ t
      | inr t ↦ absurd (omega (arith, z, elsewhere k i t))
    ]

-- and a row that is not in its hashed place is nowhere
pub nowhere : (s : Slots) (k : ℕ) → strays_from 0 s ≡ 0 → holds (get_or s (home k) None) k ≡ false → None ≡ place_of s k
nowhere s k n f = seen (place_of s k) refl
  where
    seen : (o : Option ℕ) → o ≡ place_of s k → None ≡ o
    seen None e = refl
    seen (Some i) e =
        let p = place_holds s k i e in
        let h : home k ≡ i = ap home (sym p.2) ∙ homely p.0.own i (none_astray 0 i i s p.0 (omega arith) n p.1) in
        let t : holds (get_or s (home k) None) k ≡ true = rw (h, p.1) (eq-eqb _ _ p.2) in
        absurd (both_ways _ f t)

-- the slot that a change is made in
pub strays_put : (s : Slots) (i : ℕ) (x : Row) → i < length s → get_or s i None ≡ None → strays_from 0 (set s i (Some x)) ≡ strays_from 0 s + astray x.own i
strays_put s i x l e =
    let h = strays_set 0 i i s (Some x) (omega arith) l in
    let z : stray_in i (get_or s i None) ≡ 0 = ap (stray_in i) e in
    omega (arith, h, z)

pub strays_out : (s : Slots) (i : ℕ) (r : Row) → i < length s → get_or s i None ≡ Some r → strays_from 0 (set s i None) + astray r.own i ≡ strays_from 0 s
strays_out s i r l e =
    let h = strays_set 0 i i s None (omega arith) l in
    let z : stray_in i (get_or s i None) ≡ astray r.own i = ap (stray_in i) e in
    omega (arith, h, z)

pub strays_over :
    (s : Slots) (i : ℕ) (r x : Row) → i < length s → get_or s i None ≡ Some r → r.own ≡ x.own →
    strays_from 0 (set s i (Some x)) ≡ strays_from 0 s
strays_over s i r x l e f =
    let h = strays_set 0 i i s (Some x) (omega arith) l in
    let z : stray_in i (get_or s i None) ≡ astray x.own i = ap (stray_in i) e ∙ ap (λ k. astray k i) f in
    omega (arith, h, z)

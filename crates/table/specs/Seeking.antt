-- Slots whose rows are apart: what is found in them after a slot is filled or emptied.
use Rattle.std.specs.Prelude.{◌≡◌, ℕ, zero, suc, ◌<◌, true, false, cond, not, [], ◌∷◌, length, set, is_some, Some, None, Option, ◌==◌, slice_index_or, slice_set, refl}
use Rattle.std.proofs.Common.{sym, ap, ◌∙◌, inl, inr, arith}
use Rattle.std.proofs.lemmas.List.{set-get_or}
use Rattle.std.proofs.lemmas.Bool.{cases_Bool, eqb-true, eqb-false, lt-ltb, ltb-true, and_parts, and_from, not-true}
use Rattle.std.proofs.lemmas.Bool.Decides.{nat_tests}
use Rattle.nonce.specs.Spis.{last_reserved}
use Rattle.book.specs.declared.row.Row.{Row}
use Rattle.table.specs.Slots.{Slots, seek, holds, apart}

pub none_from : {X : Type 0} (o : Option X) → is_some o ≡ false → o ≡ None
none_from None e = refl
none_from (Some x) e = cc

-- emptying a slot brings no row
pub seek_emptied : (s : Slots) (i k : ℕ) → seek s k ≡ None → seek (slice_set s i None) k ≡ None
seek_emptied [] i k e = e
seek_emptied (None ∷ s) zero k e = e
seek_emptied (None ∷ s) (suc i) k e = seek_emptied s i k e
seek_emptied (Some r ∷ s) zero k e =
    elim (cases_Bool (r.own == k)) [
      | inl t ↦ absurd (grind arith)
      | inr t ↦ rw t at e
    ]
seek_emptied (Some r ∷ s) (suc i) k e =
    elim (cases_Bool (r.own == k)) [
      | inl t ↦ absurd (grind arith)
      | inr t ↦ rw t (seek_emptied s i k (rw t at e))
    ]

-- a slot that is filled holds its row, where no other slot has one of that own SPI
pub seek_filled :
    (s : Slots) (i : ℕ) (x : Row) (n : ℕ) → i < length s → seek (slice_set s i None) x.own ≡ None →
    seek (slice_set s i (Some x)) n ≡ cond (x.own == n) (Some x) (seek (slice_set s i None) n)
seek_filled [] i x n l e = absurd (omega arith)
seek_filled (o ∷ s) zero x n l e = refl
seek_filled (None ∷ s) (suc i) x n l e = seek_filled s i x n (omega arith) e
seek_filled (Some r ∷ s) (suc i) x n l e =
    elim (cases_Bool (r.own == x.own)) [
      | inl t ↦ absurd (grind arith)
      | inr t ↦
          let ih = seek_filled s i x n (omega arith) (rw t at e) in
          grind (arith, nat_tests)
    ]

-- what a filled slot says of rows that are apart
pub apart_parts : (r : Row) (s : Slots) → apart (Some r ∷ s) ≡ true → (last_reserved < r.own) × (seek s r.own ≡ None) × (apart s ≡ true)
apart_parts r s a =
    let p = and_parts _ _ a in
    let q = and_parts _ _ p.1 in
    (ltb-true _ _ p.0, none_from _ (not-true _ q.0), q.1)

pub apart_from : (r : Row) (s : Slots) → last_reserved < r.own → seek s r.own ≡ None → apart s ≡ true → apart (Some r ∷ s) ≡ true
apart_from r s l e a = and_from _ _ (lt-ltb _ _ l) (and_from _ _ (ap (λ (o : Option Row). not (is_some o)) e) a)

-- where nothing is found, no slot holds it
pub seek_none : (s : Slots) (i k : ℕ) → seek s k ≡ None → holds (slice_index_or s i None) k ≡ false
seek_none [] i k e = refl
seek_none (None ∷ s) zero k e = refl
seek_none (None ∷ s) (suc i) k e = seek_none s i k e
seek_none (Some r ∷ s) zero k e =
    elim (cases_Bool (r.own == k)) [
      | inl t ↦ absurd (grind arith)
      | inr t ↦ t
    ]
seek_none (Some r ∷ s) (suc i) k e =
    elim (cases_Bool (r.own == k)) [
      | inl t ↦ absurd (grind arith)
      | inr t ↦ seek_none s i k (rw t at e)
    ]

-- the row of a slot is in no other
pub seek_others : (s : Slots) (i : ℕ) (r : Row) → apart s ≡ true → slice_index_or s i None ≡ Some r → seek (slice_set s i None) r.own ≡ None
seek_others [] i r a e = cc
seek_others (None ∷ s) zero r a e = cc
seek_others (Some y ∷ s) zero r a e = let f : y ≡ r = cc in ap (λ (z : Row). seek s z.own) (sym f) ∙ (apart_parts y s a).1
seek_others (None ∷ s) (suc i) r a e = seek_others s i r a e
seek_others (Some y ∷ s) (suc i) r a e =
    let p = apart_parts y s a in
    let ih = seek_others s i r p.2 e in
    elim (cases_Bool (y.own == r.own)) [
      | inl t ↦
          let h : holds (Some r) y.own ≡ false = ap (λ (o : Option Row). holds o y.own) (sym e) ∙ seek_none s i y.own p.1 in
          absurd (eqb-false _ _ h (sym (eqb-true _ _ t)))
      | inr t ↦ rw t ih
    ]

pub apart_emptied : (s : Slots) (i : ℕ) → apart s ≡ true → apart (slice_set s i None) ≡ true
apart_emptied [] i a = a
apart_emptied (None ∷ s) zero a = a
apart_emptied (None ∷ s) (suc i) a = apart_emptied s i a
apart_emptied (Some r ∷ s) zero a = (apart_parts r s a).2
apart_emptied (Some r ∷ s) (suc i) a =
    let p = apart_parts r s a in
    apart_from r (slice_set s i None) p.0 (seek_emptied s i r.own p.1) (apart_emptied s i p.2)

pub apart_filled :
    (s : Slots) (i : ℕ) (x : Row) → i < length s → apart s ≡ true → last_reserved < x.own → seek (slice_set s i None) x.own ≡ None →
    apart (slice_set s i (Some x)) ≡ true
apart_filled [] i x l a b e = a
apart_filled (None ∷ s) zero x l a b e = apart_from x s b e a
apart_filled (Some r ∷ s) zero x l a b e = apart_from x s b e (apart_parts r s a).2
apart_filled (None ∷ s) (suc i) x l a b e = apart_filled s i x (omega arith) a b e
apart_filled (Some r ∷ s) (suc i) x l a b e =
    let p = apart_parts r s a in
    let none = seek_emptied s i r.own p.1 in
    elim (cases_Bool (r.own == x.own)) [
      | inl t ↦ absurd (grind arith)
      | inr t ↦
          let f : seek (slice_set s i None) x.own ≡ None = rw t at e in
          let m = seek_filled s i x r.own (omega arith) f in
          apart_from r (slice_set s i (Some x)) p.0 (grind (arith, nat_tests)) (apart_filled s i x (omega arith) p.2 b f)
    ]

-- what is found where a slot holds a row
pub seek_held :
    (s : Slots) (i : ℕ) (r : Row) (n : ℕ) → apart s ≡ true → i < length s → slice_index_or s i None ≡ Some r →
    seek s n ≡ cond (r.own == n) (Some r) (seek (slice_set s i None) n)
seek_held s i r n a l e =
    let m = seek_filled s i r n l (seek_others s i r a e) in
    let same : set s i (Some r) ≡ s = ap (λ o. set s i o) (sym e) ∙ set-get_or s i None in
    ap (λ z. seek z n) (sym same) ∙ m

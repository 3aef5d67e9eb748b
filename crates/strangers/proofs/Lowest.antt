-- The lowest row that passes a test is the first by rising own SPI.
use Rattle.std.proofs.Common.{◌≡◌, ℕ, ◌<◌, Bool, true, false, cond, eqb, ltb, min, List, [], ◌∷◌, map, filter, find, fold, Some, None, Option, sym, refl, ap, ◌∙◌, inl, inr, arith}
use Rattle.std.specs.List.{reduce}
use Rattle.std.specs.Option.{ok_or}
use Rattle.std.proofs.lemmas.Bool.{cases_Bool, cases_order, ne_eqb, lt-ltb, le-ltb}
use Rattle.std.proofs.lemmas.Bool.Decides.{nat_tests}
use Rattle.nonce.specs.Spis.{last_reserved}
use Rattle.book.specs.declared.row.Row.{Row}
use Rattle.book.specs.declared.BookRefusal.TheVariants.{Absent}
use Rattle.book.specs.Shelves.{Rising, lookup, has, insert, first, row_or}
use Rattle.book.proofs.Firsts.{first_some, above_start}
use Rattle.strangers.specs.Sorted.{sorted, apart, apart_parts, has_sorted, rising_sorted}

-- the lower of a number and of another, if there is one
abbrev lower : ℕ → Option ℕ → ℕ
lower m None = m
lower m (Some n) = min m n

-- the lowest with one row more
abbrev joined : (Row → Bool) → Row → Option ℕ → Option ℕ
joined q r o = cond (q r) (Some (lower r.own o)) o

fold_min : (x y : ℕ) (ys : List ℕ) → fold min (min x y) ys ≡ min x (fold min y ys)
fold_min x y [] = refl
fold_min x y (z ∷ ys) = let e : min (min x y) z ≡ min x (min y z) = omega arith in ap (λ n. fold min n ys) e ∙ fold_min x (min y z) ys

lower_least : (x : ℕ) (ys : List ℕ) → fold min x ys ≡ lower x (reduce min ys)
lower_least x [] = refl
lower_least x (y ∷ ys) = fold_min x y ys

lower_keeps : (m : ℕ) (o : Option ℕ) → ((n : ℕ) → o ≡ Some n → m < n) → lower m o ≡ m
lower_keeps m None h = refl
lower_keeps m (Some n) h = omega (arith, h n refl)

first_above : (q : Row → Bool) (j : ℕ) (rs : List Row) (n : ℕ) → Rising j rs → first q rs ≡ Some n → j < n
first_above q j rs n h e = let f = first_some q j rs n h e in above_start j rs n f.0 h f.1

first_insert : (q : Row → Bool) (j : ℕ) (rs : List Row) (x : Row) → Rising j rs → has rs x.own ≡ false → first q (insert rs x) ≡ joined q x (first q rs)
first_insert q j [] x h e = refl
first_insert q j (r ∷ rs) x h e =
    elim (cases_order r.own x.own) [
      | inl o ↦ absurd (grind (arith, nat_tests))
      | inr (inl l) ↦
          let t : eqb r.own x.own ≡ false = ne_eqb _ _ (λ o. omega arith) in
          let u : ltb x.own r.own ≡ false = le-ltb _ _ (omega arith) in
          let m : min x.own r.own ≡ r.own = omega arith in
          let ih = first_insert q r.own rs x h.1 (rw t at e) in
          elim (cases_Bool (q r)) [
            | inl p ↦ elim (cases_Bool (q x)) [ inl s ↦ rw (u, p, s, m) refl | inr s ↦ rw (u, p, s) refl ]
            | inr p ↦ rw (u, p) ih
          ]
      | inr (inr l) ↦
          let u : ltb x.own r.own ≡ true = lt-ltb _ _ l in
          let k = lower_keeps x.own (first q (r ∷ rs)) (λ n f. first_above q x.own (r ∷ rs) n (l, h.1) f) in
          elim (cases_Bool (q x)) [ inl p ↦ rw (u, p, k) refl | inr p ↦ rw (u, p) refl ]
    ]

pub lowest_first : (q : Row → Bool) (rs : List Row) → apart rs ≡ true → reduce min (map (λ r. r.own) (filter q rs)) ≡ first q (sorted rs)
lowest_first q [] a = refl
lowest_first q (r ∷ rs) a =
    let p = apart_parts r rs a in
    let ih = lowest_first q rs p.2 in
    let f = first_insert q last_reserved (sorted rs) r (rising_sorted rs p.2) (has_sorted rs r.own p.2 ∙ p.1) in
    joins (q r) ih ∙ sym f
  where
    joins : (b : Bool) → reduce min (map (λ r. r.own) (filter q rs)) ≡ first q (sorted rs) → reduce min (map (λ r. r.own) (cond b (r ∷ filter q rs) (filter q rs))) ≡ cond b (Some (lower r.own (first q (sorted rs)))) (first q (sorted rs))
    joins true e = ap (λ n. Some n) (lower_least r.own (map (λ x. x.own) (filter q rs)) ∙ ap (lower r.own) e)
    joins false e = e

-- what `find` gives, and what is answered to a read
pub find_lookup : (rs : List Row) (k : ℕ) → find (λ r. eqb r.own k) rs ≡ lookup rs k
find_lookup [] k = refl
find_lookup (r ∷ rs) k = elim (cases_Bool (eqb r.own k)) [ inl t ↦ rw t refl | inr t ↦ rw t (find_lookup rs k) ]

pub read_or : (o : Option Row) → ok_or o Absent ≡ row_or o
read_or None = refl
read_or (Some r) = refl

-- The rows of slots by rising own SPI: what is looked up in them is what a slot holds, and what a change of a slot does.
use Rattle.std.specs.Prelude.{◌≡◌, ℕ, ◌+◌, ◌<◌, ◌≤◌, Bool, true, false, cond, List, [], ◌∷◌, length, set, is_some, Some, None, Option, ◌==◌, nat_eq, nat_lt, slice_index_or, slice_set, refl}
use Rattle.std.proofs.Common.{sym, ap, ◌∙◌, inl, inr, arith}
use Rattle.std.proofs.lemmas.List.{set-get_or}
use Rattle.std.proofs.lemmas.List.Sums.{sum_by-cons, count_by-le-length}
use Rattle.std.proofs.lemmas.Bool.{cases_Bool, cases_eq, cases_order, eq-eqb, ne_eqb, lt-ltb, le-ltb}
use Rattle.std.proofs.lemmas.Bool.Decides.{nat_tests}
use Rattle.nonce.specs.Spis.{last_reserved}
use Rattle.book.specs.declared.row.Row.{Row}
use Rattle.book.specs.Shelves.{Rising, lookup, has, insert, replace, remove, first}
use Rattle.book.proofs.Lookups.{lookup_insert, lookup_replace, lookup_remove, rising_insert, rising_replace, rising_remove, length_insert, same_rows}
use Rattle.book.proofs.Firsts.{first_some, above_start}
use Rattle.table.specs.Slots.{Slots, sorted_rows, used, seek, apart, mine, lower, lowest}
use Rattle.table.specs.Seeking.{apart_parts, seek_filled, seek_others, seek_held, apart_emptied, apart_filled}

pub lookup_sorted : (s : Slots) (k : ℕ) → apart s ≡ true → lookup (sorted_rows s) k ≡ seek s k
lookup_sorted [] k a = refl
lookup_sorted (None ∷ s) k a = lookup_sorted s k a
lookup_sorted (Some r ∷ s) k a =
    let p = apart_parts r s a in
    let no : has (sorted_rows s) r.own ≡ false = ap is_some (lookup_sorted s r.own p.2 ∙ p.1) in
    lookup_insert (sorted_rows s) r k no ∙ ap (λ (o : Option Row). cond (r.own == k) (Some r) o) (lookup_sorted s k p.2)

pub has_sorted : (s : Slots) (k : ℕ) → apart s ≡ true → has (sorted_rows s) k ≡ is_some (seek s k)
has_sorted s k a = ap is_some (lookup_sorted s k a)

pub rising_sorted : (s : Slots) → apart s ≡ true → Rising last_reserved (sorted_rows s)
rising_sorted [] a = tt
rising_sorted (None ∷ s) a = rising_sorted s a
rising_sorted (Some r ∷ s) a =
    let p = apart_parts r s a in
    rising_insert last_reserved (sorted_rows s) r p.0 (has_sorted s r.own p.2 ∙ ap is_some p.1) (rising_sorted s p.2)

-- a slot more
pub used_some : (r : Row) (s : Slots) → used (Some r ∷ s) ≡ 1 + used s
used_some r s = sum_by-cons (λ (o : Option Row). cond (is_some o) 1 0) (Some r) s

pub length_sorted : (s : Slots) → length (sorted_rows s) ≡ used s
length_sorted [] = refl
length_sorted (None ∷ s) = omega (arith, length_sorted s)
length_sorted (Some r ∷ s) = omega (arith, length_insert (sorted_rows s) r, length_sorted s, used_some r s)

pub used_within : (s : Slots) → used s ≤ length s
used_within s = count_by-le-length is_some s

pub few_sorted : (s : Slots) → length s ≡ 16 → length (sorted_rows s) ≤ 16
few_sorted s l = omega (arith, length_sorted s, used_within s, l)

-- Rows that rise are those of the slots where each lookup finds what the slots hold.
pub sorted_is : (s : Slots) (rs : List Row) → apart s ≡ true → Rising last_reserved rs → ((n : ℕ) → seek s n ≡ lookup rs n) → sorted_rows s ≡ rs
sorted_is s rs a h e = same_rows last_reserved last_reserved (sorted_rows s) rs (rising_sorted s a) h (λ n. lookup_sorted s n a ∙ e n)

-- a free slot is filled
pub sorted_put :
    (s : Slots) (i : ℕ) (x : Row) → apart s ≡ true → i < length s → slice_index_or s i None ≡ None → last_reserved < x.own → seek s x.own ≡ None →
    (apart (slice_set s i (Some x)) ≡ true) × (sorted_rows (slice_set s i (Some x)) ≡ insert (sorted_rows s) x)
sorted_put s i x a l f b e =
    let w : set s i None ≡ s = ap (λ (o : Option Row). set s i o) (sym f) ∙ set-get_or s i None in
    let others : seek (slice_set s i None) x.own ≡ None = ap (λ z. seek z x.own) w ∙ e in
    let no : has (sorted_rows s) x.own ≡ false = has_sorted s x.own a ∙ ap is_some e in
    let kept = apart_filled s i x l a b others in (
      kept,
      sorted_is (slice_set s i (Some x)) (insert (sorted_rows s) x) kept (rising_insert last_reserved (sorted_rows s) x b no (rising_sorted s a))
          (λ n.
          let p = seek_filled s i x n l others in
          let q = lookup_insert (sorted_rows s) x n no in
          let r = lookup_sorted s n a in
          let t = ap (λ z. seek z n) w in
          p ∙ ap (λ (o : Option Row). cond (x.own == n) (Some x) o) (t ∙ sym r) ∙ sym q),
    )

-- what is found is what the slot holds
pub seek_slot : (s : Slots) (i : ℕ) (r : Row) (k : ℕ) → apart s ≡ true → i < length s → slice_index_or s i None ≡ Some r → r.own ≡ k → seek s k ≡ Some r
seek_slot s i r k a l f o =
    let t : nat_eq r.own k ≡ true = eq-eqb _ _ o in
    let h : seek s k ≡ cond (r.own == k) (Some r) (seek (slice_set s i None) k) = seek_held s i r k a l f in
    cc

-- a row is written over one of its own SPI
pub sorted_write :
    (s : Slots) (i : ℕ) (r x : Row) → apart s ≡ true → i < length s → slice_index_or s i None ≡ Some r → r.own ≡ x.own → last_reserved < x.own →
    (apart (slice_set s i (Some x)) ≡ true) × (sorted_rows (slice_set s i (Some x)) ≡ replace (sorted_rows s) x)
sorted_write s i r x a l f o b =
    let others : seek (slice_set s i None) x.own ≡ None = ap (λ k. seek (slice_set s i None) k) (sym o) ∙ seek_others s i r a f in
    let there : has (sorted_rows s) x.own ≡ true = has_sorted s x.own a ∙ ap is_some (seek_slot s i r x.own a l f o) in
    let kept = apart_filled s i x l a b others in (
      kept,
      sorted_is (slice_set s i (Some x)) (replace (sorted_rows s) x) kept (rising_replace last_reserved (sorted_rows s) x (rising_sorted s a))
          (λ n.
          let p = seek_filled s i x n l others in
          let q = lookup_replace (sorted_rows s) x n there in
          let y = lookup_sorted s n a in
          let z = seek_held s i r n a l f in
          grind (arith, nat_tests)),
    )

-- a slot is emptied
pub sorted_remove :
    (s : Slots) (i : ℕ) (r : Row) (k : ℕ) → apart s ≡ true → i < length s → slice_index_or s i None ≡ Some r → r.own ≡ k →
    (apart (slice_set s i None) ≡ true) × (sorted_rows (slice_set s i None) ≡ remove (sorted_rows s) k)
sorted_remove s i r k a l f o =
    let others : seek (slice_set s i None) k ≡ None = ap (λ k. seek (slice_set s i None) k) (sym o) ∙ seek_others s i r a f in
    let kept = apart_emptied s i a in (
      kept,
      sorted_is (slice_set s i None) (remove (sorted_rows s) k) kept (rising_remove last_reserved (sorted_rows s) k (rising_sorted s a))
          (λ n.
          let q = lookup_remove last_reserved (sorted_rows s) k n (rising_sorted s a) in
          let y = lookup_sorted s n a in
          let z = seek_held s i r n a l f in
          elim (cases_eq k n) [
            | inl e ↦ let u : seek (slice_set s i None) n ≡ None = ap (λ k. seek (slice_set s i None) k) (sym e) ∙ others in grind (arith, nat_tests)
            | inr e ↦ grind (arith, nat_tests)
          ]),
    )

-- The lowest row that passes a test is the first of the rows that rise.
lower_keeps : (m : ℕ) (o : Option ℕ) → ((n : ℕ) → o ≡ Some n → m < n) → lower (Some m) o ≡ Some m
lower_keeps m None h = refl
lower_keeps m (Some n) h = let t : nat_lt n m ≡ false = le-ltb n m (omega (arith, h n refl)) in rw t refl

lower_takes : (q : Row → Bool) (x : Row) (n : ℕ) → n < x.own → lower (mine q (Some x)) (Some n) ≡ Some n
lower_takes q x n l =
    elim (cases_Bool (q x)) [
      | inl p ↦ let t : nat_lt n x.own ≡ true = lt-ltb n x.own l in rw (p, t) refl
      | inr p ↦ rw p refl
    ]

first_above : (q : Row → Bool) (j : ℕ) (rs : List Row) (n : ℕ) → Rising j rs → first q rs ≡ Some n → j < n
first_above q j rs n h e = let f = first_some q j rs n h e in above_start j rs n f.0 h f.1

first_insert :
    (q : Row → Bool) (j : ℕ) (rs : List Row) (x : Row) → Rising j rs → has rs x.own ≡ false →
    first q (insert rs x) ≡ lower (mine q (Some x)) (first q rs)
first_insert q j [] x h e = elim (cases_Bool (q x)) [ inl p ↦ rw p refl | inr p ↦ rw p refl ]
first_insert q j (r ∷ rs) x h e =
    elim (cases_order r.own x.own) [
      | inl o ↦ absurd (grind (arith, nat_tests))
      | inr (inl l) ↦
          let t : nat_eq r.own x.own ≡ false = ne_eqb _ _ (λ o. omega arith) in
          let u : nat_lt x.own r.own ≡ false = le-ltb _ _ (omega arith) in
          let ih = first_insert q r.own rs x h.1 (rw t at e) in
          elim (cases_Bool (q r)) [
            | inl p ↦ rw (u, p) (sym (lower_takes q x r.own l))
            | inr p ↦ rw (u, p) ih
          ]
      | inr (inr l) ↦
          let u : nat_lt x.own r.own ≡ true = lt-ltb _ _ l in
          elim (cases_Bool (q x)) [
            | inl p ↦ rw (u, p) (sym (lower_keeps x.own (first q (r ∷ rs)) (λ n f. first_above q x.own (r ∷ rs) n (l, h.1) f)))
            | inr p ↦ rw (u, p) refl
          ]
    ]

pub first_sorted : (q : Row → Bool) (s : Slots) → apart s ≡ true → first q (sorted_rows s) ≡ lowest q s
first_sorted q [] a = refl
first_sorted q (None ∷ s) a = first_sorted q s a
first_sorted q (Some r ∷ s) a =
    let p = apart_parts r s a in
    first_insert q last_reserved (sorted_rows s) r (rising_sorted s p.2) (has_sorted s r.own p.2 ∙ ap is_some p.1)
    ∙ ap (λ o. lower (mine q (Some r)) o) (first_sorted q s p.2)

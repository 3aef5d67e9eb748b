-- Slots by place: the searches, a step at a time, and what a place that was found says.
use Rattle.std.proofs.Common.{◌≡◌, ℕ, zero, suc, ◌+◌, ◌-◌, ◌%◌, ◌<◌, Bool, true, false, cond, not, Bor, List, [], ◌∷◌, length, get_or, min, map, filter, find, fold, is_some, Some, None, Option, sym, refl, ap, ◌∙◌, subst, inl, inr, arith}
use Rattle.std.specs.List.{range_with_len, flat_map, reduce}
use Rattle.std.specs.Iterator.Adapters.{option_iter_steps, option_iter_item, option_iter_done}
use Rattle.std.specs.Bool.{MatchBool}
use Rattle.std.specs.Option.{option_to_list}
use Rattle.std.specs.declared.option.Iter.{OptionIter}
use Rattle.std.proofs.lemmas.Iterator.{YieldsList}
use Rattle.std.proofs.lemmas.Iterator.Consumers.{YieldsList-from_shown}
use Rattle.std.proofs.lemmas.List.{get_or_past}
use Rattle.std.proofs.lemmas.Bool.{cases_Bool, cases_lt, eqb-true}
use Rattle.std.proofs.lemmas.Bool.Decides.{nat_tests}
use Rattle.book.specs.declared.row.Row.{Row}
use Rattle.book.proofs.Places.{position_cons, no_less, place_passes}
use Rattle.table.specs.Slots.{Slots, used, holds, seek, place_in, place_of, home, free_from, lower, lowest}
use Rattle.table.specs.Seeking.{none_from}
use Rattle.table.specs.Sorting.{used_some}

scan_none : (s : Slots) (k : ℕ) → None ≡ place_in s k → seek s k ≡ None
scan_none [] k e = refl
scan_none (o ∷ s) k e =
    let f = e ∙ position_cons (λ x. holds x k) o s in
    elim (cases_Bool (holds o k)) [
      | inl t ↦ let g : ◌≡◌ {A = Option ℕ} None (Some 0) = rw t at f in cc
      | inr t ↦ rw t (scan_none s k (no_less (place_in s k) (rw t at f)))
    ]

-- the slot at a place that was found
held : (o : Option Row) (k : ℕ) → holds o k ≡ true → (r : Row) × (o ≡ Some r) × (r.own ≡ k)
held None k t = cc
held (Some r) k t = (r, refl, eqb-true _ _ t)

-- a slot that holds a row is one of the list's
held_within : (s : Slots) (i : ℕ) (r : Row) → get_or s i None ≡ Some r → i < length s
held_within s i r e =
    elim (cases_lt i (length s)) [
      | inl l ↦ l
      | inr l ↦ let n = get_or_past s i None l in cc
    ]

pub place_holds : (s : Slots) (k i : ℕ) → Some i ≡ place_of s k → (r : Row) × (get_or s i None ≡ Some r) × (r.own ≡ k) × (i < length s)
place_holds s k i e =
    let h : holds (get_or s i None) k ≡ true =
    elim (cases_Bool (holds (get_or s (home k) None) k)) [
      | inl t ↦ let z : i ≡ home k = grind arith in rw z t
      | inr t ↦ place_passes (λ o. holds o k) s i None (rw t at e)
    ] in
    let p = held (get_or s i None) k h in
    (p.0, p.1, p.2, held_within s i p.0 p.1)

pub place_none : (s : Slots) (k : ℕ) → None ≡ place_of s k → seek s k ≡ None
place_none s k e =
    elim (cases_Bool (holds (get_or s (home k) None) k)) [
      | inl t ↦ absurd (grind arith)
      | inr t ↦ scan_none s k (rw t at e)
    ]

-- the places of a chain, from j steps on
pub free_found : (s : Slots) (h j n : ℕ) → find (λ i. not (is_some (get_or s i None))) (map (λ k. (h + k) % 16) (range_with_len j n)) ≡ free_from s (h + j) n
unfolding free_from
free_found s h j zero = refl
free_found s h j (suc n) =
    let f : h + j + 1 ≡ h + (j + 1) = omega arith in
    elim (cases_Bool (is_some (get_or s ((h + j) % 16) None))) [
      | inl t ↦ rw (t, f) (free_found s h (j + 1) n)
      | inr t ↦ rw t refl
    ]

pub free_is : (s : Slots) (h n i : ℕ) → Some i ≡ free_from s h n → get_or s i None ≡ None
unfolding free_from
free_is s h zero i e = cc
free_is s h (suc n) i e =
    elim (cases_Bool (is_some (get_or s (h % 16) None))) [
      | inl t ↦ free_is s (h + 1) n i (rw t at e)
      | inr t ↦ let z : i ≡ h % 16 = grind arith in rw z (none_from (get_or s (h % 16) None) t)
    ]

free_none : (s : Slots) (h n j : ℕ) → None ≡ free_from s h n → j < n → is_some (get_or s ((h + j) % 16) None) ≡ true
unfolding free_from
free_none s h zero j e l = absurd (omega arith)
free_none s h (suc n) zero e l =
    elim (cases_Bool (is_some (get_or s (h % 16) None))) [
      | inl t ↦ let f : (h + 0) % 16 ≡ h % 16 = omega arith in rw f t
      | inr t ↦ absurd (grind arith)
    ]
free_none s h (suc n) (suc j) e l =
    elim (cases_Bool (is_some (get_or s (h % 16) None))) [
      | inl t ↦
          let f : (h + suc j) % 16 ≡ (h + 1 + j) % 16 = ap (λ m. m % 16) (omega arith) in
          rw f (free_none s (h + 1) n j (rw t at e) (omega arith))
      | inr t ↦ absurd (grind arith)
    ]

used_all : (s : Slots) → ((i : ℕ) → i < length s → is_some (get_or s i None) ≡ true) → used s ≡ length s
used_all [] h = refl
used_all (None ∷ s) h = let f = h 0 (omega arith) in cc
used_all (Some r ∷ s) h = omega (arith, used_some r s, used_all s (λ i l. h (suc i) (omega arith)))

-- where there is no free place, all are used
pub full : (s : Slots) (h : ℕ) → length s ≡ 16 → h < 16 → None ≡ free_from s h 16 → used s ≡ 16
full s h l b e =
    used_all s
    (λ i m.
    elim (cases_lt i h) [
      | inl c ↦ let f : (h + (16 + i - h)) % 16 ≡ i = omega arith in subst (λ k. is_some (get_or s k None) ≡ true) f (free_none s h 16 (16 + i - h) e (omega arith))
      | inr c ↦ let f : (h + (i - h)) % 16 ≡ i = omega arith in subst (λ k. is_some (get_or s k None) ≡ true) f (free_none s h 16 (i - h) e (omega arith))
    ])
    ∙ l

-- a slot as an iterator gives its row
shown : OptionIter Row → List Row
shown it = cond (option_iter_done it) [] (option_to_list (option_iter_item it))

none_left : (done : Bool) (o : Option Row) (P : Type 0) → MatchBool done P (None ≡ o) → length (cond done [] (option_to_list o)) ≡ 0
none_left true o P m = refl
none_left false None P m = refl
none_left false (Some r) P m = cc

one_left :
    (done ends : Bool) (o p : Option Row) (x : Bor Row) → ends ≡ true → MatchBool done (Some x ≡ None) (Some x.now ≡ o) →
    cond done [] (option_to_list o) ≡ x.now ∷ cond ends [] (option_to_list p)
one_left true ends o p x e m = cc
one_left false ends o p x e m = rw (e, ← m) refl

shows_none : (s t : OptionIter Row) → option_iter_steps s None t → length (shown s) ≡ 0
unfolding shown
shows_none s t h = none_left (option_iter_done s) (option_iter_item s) _ h.1

shows_some : (s : OptionIter Row) (x : Bor Row) (t : OptionIter Row) → option_iter_steps s (Some x) t → shown s ≡ x.now ∷ shown t
unfolding shown
shows_some s x t h = one_left (option_iter_done s) (option_iter_done t) (option_iter_item s) (option_iter_item t) x h.0 h.1

pub slot_road : (o : Option Row) (it : OptionIter Row) → option_iter_item it ≡ o → option_iter_done it ≡ false → YieldsList option_iter_steps (λ y. y.now) it (option_to_list o)
unfolding shown
slot_road o it e d = subst (YieldsList option_iter_steps (λ (y : Bor Row). y.now) it) (rw (d, e) refl) (YieldsList-from_shown option_iter_steps (λ (y : Bor Row). y.now) shown shows_none shows_some it)

-- the rows of the slots, in the order of the slots
abbrev pub rows_of : Slots → List Row
rows_of s = flat_map option_to_list s

-- the least of numbers, a number at a time
fold_min : (x y : ℕ) (ys : List ℕ) → fold min (min x y) ys ≡ min x (fold min y ys)
fold_min x y [] = refl
fold_min x y (z ∷ ys) = let e : min (min x y) z ≡ min x (min y z) = omega arith in ap (λ n. fold min n ys) e ∙ fold_min x (min y z) ys

lower_least : (x : ℕ) (ys : List ℕ) → lower (Some x) (reduce min ys) ≡ Some (fold min x ys)
lower_least x [] = refl
lower_least x (y ∷ ys) = let e = fold_min x y ys in grind (arith, nat_tests)

pub lowest_least : (q : Row → Bool) (s : Slots) → reduce min (map (λ r. r.own) (filter q (rows_of s))) ≡ lowest q s
lowest_least q [] = refl
lowest_least q (None ∷ s) = lowest_least q s
lowest_least q (Some r ∷ s) =
    elim (cases_Bool (q r)) [
      | inl t ↦ rw t (sym (lower_least r.own (map (λ x. x.own) (filter q (rows_of s)))) ∙ ap (lower (Some r.own)) (lowest_least q s))
      | inr t ↦ rw t (lowest_least q s)
    ]

-- What a place that was found says of the rows, and what a change at it does to them.
use Rattle.std.specs.Prelude.{◌≡◌, ◌≤◌, ℕ, suc, true, cond, List, [], ◌∷◌, ◌++◌, length, take, drop, Some, None, Option, ◌==◌, nat_eq, nat_lt, slice_index_or, slice_set, refl}
use Rattle.std.proofs.Common.{ap, ◌∙◌, inl, inr, arith}
use Rattle.std.specs.Option.{option_map}
use Rattle.std.proofs.lemmas.List.{length-take}
use Rattle.std.proofs.lemmas.Bool.{cases_Bool, lt-ltb, ltb-true, and_parts, and_from}
use Rattle.book.specs.declared.row.Row.{Row}
use Rattle.book.specs.Shelves.{Rising, lookup, insert, replace, remove}
use Rattle.book.proofs.Places.{position_cons, one_less, no_less}
use Rattle.ordered.specs.Places.{rises, index_of, room}

pub rises_rising : (k : ℕ) (rs : List Row) → rises k rs ≡ true → Rising k rs
rises_rising k [] h = tt
rises_rising k (r ∷ rs) h = let p = and_parts _ _ h in (ltb-true _ _ p.0, rises_rising r.own rs p.1)

pub rising_rises : (k : ℕ) (rs : List Row) → Rising k rs → rises k rs ≡ true
rising_rises k [] h = refl
rising_rises k (r ∷ rs) h = and_from _ _ (lt-ltb _ _ h.0) (rising_rises r.own rs h.1)

pub few_taken : (n : ℕ) (rs : List Row) → n ≤ 16 → length (take n rs) ≤ 16
few_taken n rs l = omega (arith, length-take n rs, l)

-- the place in one row more
pub index_cons : (r : Row) (rs : List Row) (k : ℕ) → index_of (r ∷ rs) k ≡ cond (r.own == k) (Some 0) (option_map suc (index_of rs k))
index_cons r rs k = position_cons (λ (x : Row). nat_eq x.own k) r rs

pub index_lookup : (rs : List Row) (k i : ℕ) (d : Row) → Some i ≡ index_of rs k → lookup rs k ≡ Some (slice_index_or rs i d)
index_lookup [] k i d e = cc
index_lookup (r ∷ rs) k i d e =
    let f = e ∙ index_cons r rs k in
    elim (cases_Bool (r.own == k)) [
      | inl t ↦ let g : Some i ≡ Some 0 = rw t at f in let z : i ≡ 0 = cc in rw (t, z) refl
      | inr t ↦ let p = one_less (index_of rs k) i (rw t at f) in rw (t, p.1) (index_lookup rs k p.0 d p.2)
    ]

pub index_absent : (rs : List Row) (k : ℕ) → None ≡ index_of rs k → lookup rs k ≡ None
index_absent [] k e = refl
index_absent (r ∷ rs) k e =
    let f = e ∙ index_cons r rs k in
    elim (cases_Bool (r.own == k)) [
      | inl t ↦ let g : ◌≡◌ {A = Option ℕ} None (Some 0) = rw t at f in cc
      | inr t ↦ rw t (index_absent rs k (no_less (index_of rs k) (rw t at f)))
    ]

pub replace_at : (rs : List Row) (x : Row) (i : ℕ) → Some i ≡ index_of rs x.own → replace rs x ≡ slice_set rs i x
replace_at [] x i e = refl
replace_at (r ∷ rs) x i e =
    let f = e ∙ index_cons r rs x.own in
    elim (cases_Bool (r.own == x.own)) [
      | inl t ↦ let g : Some i ≡ Some 0 = rw t at f in let z : i ≡ 0 = cc in rw (t, z) refl
      | inr t ↦ let p = one_less (index_of rs x.own) i (rw t at f) in rw (t, p.1) (ap (λ (ys : List Row). r ∷ ys) (replace_at rs x p.0 p.2))
    ]

pub remove_at : (rs : List Row) (k i : ℕ) → Some i ≡ index_of rs k → remove rs k ≡ take i rs ++ drop (suc i) rs
remove_at [] k i e = cc
remove_at (r ∷ rs) k i e =
    let f = e ∙ index_cons r rs k in
    elim (cases_Bool (r.own == k)) [
      | inl t ↦ let g : Some i ≡ Some 0 = rw t at f in let z : i ≡ 0 = cc in rw (t, z) refl
      | inr t ↦ let p = one_less (index_of rs k) i (rw t at f) in rw (t, p.1) (ap (λ (ys : List Row). r ∷ ys) (remove_at rs k p.0 p.2))
    ]

pub insert_at : (rs : List Row) (x : Row) → insert rs x ≡ take (room rs x.own) rs ++ (x ∷ drop (room rs x.own) rs)
insert_at [] x = refl
insert_at (r ∷ rs) x =
    elim (cases_Bool (nat_lt x.own r.own)) [
      | inl t ↦ rw t refl
      | inr t ↦ rw t (ap (λ (ys : List Row). r ∷ ys) (insert_at rs x))
    ]

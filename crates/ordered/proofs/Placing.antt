-- A binary search of rows that rise ends at the row, or at the place for a new one.
use Rattle.std.proofs.Common.{◌≡◌, ℕ, zero, suc, ◌<◌, ◌≤◌, Bool, true, false, eqb, ltb, List, [], ◌∷◌, length, get_or, find, Bor, Some, None, Ok, Err, Option, Result, sym, refl, ap, ◌∙◌, inl, inr, arith}
use Rattle.std.specs.List.Sorted.{IsSearchInRange, IsBinarySearchResult, IsNonDecreasingBy}
use Rattle.std.specs.Option.{ok_or, option_map, MatchOption, IsSomeAnd}
use Rattle.std.specs.Ordering.{nat_cmp, ordering_index}
use Rattle.std.proofs.lemmas.Bool.{cases_Bool, eq-eqb, ne_eqb, lt-ltb, le-ltb}
use Rattle.std.proofs.lemmas.Bool.Decides.{nat_tests}
use Rattle.std.proofs.lemmas.Cmp.{ranked}
use Rattle.nonce.specs.Spis.{last_reserved}
use Rattle.book.specs.declared.row.Row.{Row}
use Rattle.book.specs.Shelves.{Rising, first}
use Rattle.ordered.specs.Found.{rises_rising, index_cons}
use Rattle.ordered.specs.Places.{rises, index_of, room}

-- every row of rows that rise from above j is above j, and none is above a later one
above : (j : ℕ) (rs : List Row) (i : ℕ) (d : Row) → Rising j rs → i < length rs → j < (get_or rs i d).own
above j [] i d h l = absurd (omega arith)
above j (r ∷ rs) zero d h l = h.0
above j (r ∷ rs) (suc i) d h l = omega (arith, h.0, above r.own rs i d h.1 (omega arith))

climbs : (j : ℕ) (rs : List Row) (a b : ℕ) (d : Row) → Rising j rs → a ≤ b → b < length rs → (get_or rs a d).own ≤ (get_or rs b d).own
climbs j [] a b d h l m = absurd (omega arith)
climbs j (r ∷ rs) zero zero d h l m = omega arith
climbs j (r ∷ rs) zero (suc b) d h l m = omega (arith, above r.own rs b d h.1 (omega arith))
climbs j (r ∷ rs) (suc a) zero d h l m = absurd (omega arith)
climbs j (r ∷ rs) (suc a) (suc b) d h l m = climbs r.own rs a b d h.1 (omega arith) (omega arith)

-- the row at i has the own SPI
index_at : (j : ℕ) (rs : List Row) (k i : ℕ) → Rising j rs → i < length rs → ((d : Row) → (get_or rs i d).own ≡ k) → index_of rs k ≡ Some i
index_at j [] k i h l e = absurd (omega arith)
index_at j (r ∷ rs) k zero h l e = let t : eqb r.own k ≡ true = eq-eqb _ _ (e r) in index_cons r rs k ∙ rw t refl
index_at j (r ∷ rs) k (suc i) h l e =
    let t = ne_eqb r.own k (λ q. omega (arith, e r, above r.own rs i r h.1 (omega arith))) in
    index_cons r rs k ∙ rw (t, index_at r.own rs k i h.1 (omega arith) e) refl

-- the rows before i are below the own SPI, and the others above it
gap_at :
    (rs : List Row) (k i : ℕ) → i ≤ length rs → ((a : ℕ) (d : Row) → a < i → (get_or rs a d).own < k) →
    ((a : ℕ) (d : Row) → i ≤ a → a < length rs → k < (get_or rs a d).own) → (index_of rs k ≡ None) × (room rs k ≡ i)
gap_at [] k i l b u = (refl, omega arith)
gap_at (r ∷ rs) k zero l b u =
    let f = u 0 r (omega arith) (omega arith) in
    let t = ne_eqb r.own k (λ q. omega arith) in
    let ih = gap_at rs k 0 (omega arith) (λ a d m. absurd (omega arith)) (λ a d m n. u (suc a) d (omega arith) (omega arith)) in
    (index_cons r rs k ∙ rw (t, ih.0) refl, rw (lt-ltb _ _ f) refl)
gap_at (r ∷ rs) k (suc i) l b u =
    let f = b 0 r (omega arith) in
    let t = ne_eqb r.own k (λ q. omega arith) in
    let ih = gap_at rs k i (omega arith) (λ a d m. b (suc a) d (omega arith)) (λ a d m n. u (suc a) d (omega arith) (omega arith)) in
    let w : ltb k r.own ≡ false = le-ltb _ _ (omega arith) in
    (index_cons r rs k ∙ rw (t, ih.0) refl, rw w (omega (arith, ih.1)))

ranks : (rs : List Row) (k : ℕ) → Rising last_reserved rs → IsNonDecreasingBy (λ r. ordering_index (nat_cmp r.own k)) rs
ranks rs k h a b d l m = let c = climbs last_reserved rs a b d h l m in grind (arith, nat_tests)

pub searched :
    (rs : List Row) (k : ℕ) (r : Result ℕ ℕ) → rises last_reserved rs ≡ true → IsSearchInRange r (length rs) → IsBinarySearchResult (λ y. nat_cmp y.own k) rs r →
    r ≡ ok_or (index_of rs k) (room rs k)
searched rs k (Ok i) h l e =
    let f = index_at last_reserved rs k i (rises_rising last_reserved rs h) l (λ d. ranked _ k _ (sym (e d))) in
    sym (ap (λ o. ok_or o (room rs k)) f)
searched rs k (Err i) h l e =
    let p = e (ranks rs k (rises_rising last_reserved rs h)) in
    let g = gap_at rs k i l (λ a d m. ranked _ k _ (sym (p.0 a d (omega arith) m))) (λ a d m n. ranked _ k _ (sym (p.1 a d m n))) in
    rw (g.0, g.1) refl

mapped :
    (found : Option (Bor Row)) (P : Bor Row → ℕ → Type 0) (r : Option ℕ) (y : Row) → option_map (λ x. x.now) found ≡ Some y →
    MatchOption found (r ≡ None) (λ x. IsSomeAnd r (P x)) → ((x : Bor Row) (k : ℕ) → P x k → k ≡ x.now.own) → r ≡ Some y.own
mapped None P r y e m h = cc
mapped (Some x) P None y e m h = absurd m
mapped (Some x) P (Some k) y e m h = let f : x.now ≡ y = cc in ap (λ n. Some n) (h x k m ∙ ap (λ (z : Row). z.own) f)

-- what `map` makes of the first row that passes
pub first_is :
    (q : Row → Bool) (rs : List Row) (found : Option (Bor Row)) (P : Bor Row → ℕ → Type 0) (r : Option ℕ) → option_map (λ x. x.now) found ≡ find q rs →
    MatchOption found (r ≡ None) (λ x. IsSomeAnd r (P x)) → ((x : Bor Row) (k : ℕ) → P x k → k ≡ x.now.own) → r ≡ first q rs
first_is q [] None P r e m h = m
first_is q [] (Some x) P r e m h = cc
first_is q (y ∷ rs) found P r e m h =
    elim (cases_Bool (q y)) [
      | inl t ↦ rw t (mapped found P r y (rw t at e) m h)
      | inr t ↦ rw t (first_is q rs found P r (rw t at e) m h)
    ]

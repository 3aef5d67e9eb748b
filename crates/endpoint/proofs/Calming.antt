-- A walk by `next` that makes each Fresh row Standing: how far it has come, one step, and its end.
use Rattle.std.proofs.Common.{◌≡◌, ℕ, ◌<◌, ◌≤◌, true, false, cond, eqb, ltb, List, [], ◌∷◌, length, is_some, Some, None, Option, sym, refl, ap, ◌∙◌, inl, inr, arith}
use Rattle.std.proofs.lemmas.Bool.{cases_Bool, eq-eqb, ne_eqb, lt-ltb, le-ltb, ltb-false}
use Rattle.nonce.specs.Spis.{last_reserved}
use Rattle.book.specs.declared.row.Row.{Row}
use Rattle.book.specs.Shelves.{Shelf, Rising, has, lookup, replace, next, after}
use Rattle.book.proofs.Lookups.{lookup_own}
use Rattle.book.proofs.Changes.{write_done}
use Rattle.book.proofs.Firsts.{next_some, after_step}
use Rattle.law.specs.Rows.{calmed, in_state, calm, calm_shelf}
use Rattle.endpoint.specs.Calming.{calmed_at}

abbrev calmed_row : Row → Row
calmed_row r = in_state (calmed r.state) r

-- Fresh rows are Standing up to this own SPI, and the rows above it are as they were.
abbrev calm_to : ℕ → List Row → List Row
calm_to k [] = []
calm_to k (r ∷ rs) = cond (ltb k r.own) (r ∷ rs) (calmed_row r ∷ calm_to k rs)

-- a book in which the walk has come to this own SPI
abbrev pub shelf_to : ℕ → Shelf → Shelf
shelf_to k s = record { rows = calm_to k s.rows; most = s.most }

-- below all rows nothing has changed
calm_below : (j k : ℕ) (rs : List Row) → k ≤ j → Rising j rs → calm_to k rs ≡ rs
calm_below j k [] l h = refl
calm_below j k (r ∷ rs) l h = let t : ltb k r.own ≡ true = lt-ltb _ _ (omega (arith, h.0)) in rw t refl

-- the walk goes on as over the rows at its start
next_calm : (k : ℕ) (rs : List Row) → next (calm_to k rs) k ≡ next rs k
next_calm k [] = refl
next_calm k (r ∷ rs) =
    elim (cases_Bool (ltb k r.own)) [
      | inl t ↦ rw (t, t) refl
      | inr t ↦ rw (t, t) (next_calm k rs)
    ]

-- where none is above it, all Fresh rows are Standing
calm_done : (k : ℕ) (rs : List Row) → next rs k ≡ None → calm_to k rs ≡ calm rs
calm_done k [] e = refl
calm_done k (r ∷ rs) e =
    elim (cases_Bool (ltb k r.own)) [
      | inl t ↦ absurd (grind arith)
      | inr t ↦ rw t (ap (λ (ys : List Row). calmed_row r ∷ ys) (calm_done k rs (rw t at e)))
    ]

-- the next row is there as it was, and the walk has come to it once it is Standing in place of Fresh
calm_next :
    (j : ℕ) (rs : List Row) (k n : ℕ) → Rising j rs → next rs k ≡ Some n →
    (x : Row) × (lookup (calm_to k rs) n ≡ Some x) × (replace (calm_to k rs) (calmed_row x) ≡ calm_to n rs)
calm_next j [] k n h e = cc
calm_next j (r ∷ rs) k n h e =
    elim (cases_Bool (ltb k r.own)) [
      | inl t ↦
          let a : r.own ≡ n = grind arith in
          let u : eqb r.own n ≡ true = eq-eqb _ _ a in
          let s : eqb r.own r.own ≡ true = eq-eqb _ _ refl in
          let v : ltb n r.own ≡ false = le-ltb _ _ (omega arith) in
          let w : calm_to n rs ≡ rs = calm_below r.own n rs (omega arith) h.1 in
          (r, rw (t, u) refl, rw (t, s, v, w) refl)
      | inr t ↦
          let f = rw t at e in
          let g = calm_next r.own rs k n h.1 f in
          let l = next_some r.own rs k n h.1 f in
          let m = lookup_own (calm_to k rs) n g.0 g.1 in
          let i = ltb-false _ _ t in
          let u : eqb r.own n ≡ false = ne_eqb _ _ (λ o. omega (arith, l.2)) in
          let s : eqb r.own g.0.own ≡ false = ne_eqb _ _ (λ o. omega (arith, l.2)) in
          let v : ltb n r.own ≡ false = le-ltb _ _ (omega (arith, l.2)) in
          (g.0, rw (t, u) g.1, rw (t, s, v) (ap (λ (ys : List Row). calmed_row r ∷ ys) g.2))
    ]

-- The walk begins below all rows.
pub shelf_start : (s : Shelf) → Rising last_reserved s.rows → s ≡ shelf_to 0 s
shelf_start s h = let e = calm_below last_reserved 0 s.rows (omega arith) h in rw e refl

-- The book was s, and is t now that the walk has come to k: what the next step does, and what is so where there is none.
module _ (s t : Shelf) (k : ℕ) (i : t ≡ shelf_to k s) where
  same_next : (o : Option ℕ) → o ≡ next t.rows k → next s.rows k ≡ o
  same_next o e = sym (e ∙ ap (λ (u : Shelf). next u.rows k) i ∙ next_calm k s.rows)

  pub shelf_step : (n : ℕ) → Rising last_reserved s.rows → Some n ≡ next t.rows k → calmed_at t (lookup t.rows n) ≡ shelf_to n s
  shelf_step n h e =
      let g = calm_next last_reserved s.rows k n h (same_next (Some n) e) in
      let x = calmed_row g.0 in
      let o : n ≡ x.own = sym (lookup_own (calm_to k s.rows) n g.0 g.1) in
      let p : has (calm_to k s.rows) x.own ≡ true = sym (ap (has (calm_to k s.rows)) o) ∙ ap is_some g.1 in
      rw (i, g.1) (ap (λ y. y.1) (write_done (shelf_to k s) x p) ∙ ap (λ ys. record { rows = ys; most = s.most }) g.2)

  -- after it fewer rows are to come
  pub fewer : (n : ℕ) → Rising last_reserved s.rows → Some n ≡ next t.rows k → length (after s.rows n) < length (after s.rows k)
  fewer n h e =
      let f = same_next (Some n) e in
      let g = next_some last_reserved s.rows k n h f in
      omega (arith, ap length (after_step last_reserved s.rows k n g.0 h f g.1))

  pub shelf_done : None ≡ next t.rows k → t ≡ calm_shelf s
  shelf_done e = i ∙ ap (λ ys. record { rows = ys; most = s.most }) (calm_done k s.rows (same_next None e))

-- The rows of a book, as the protocol of two ends sees them: its cells. What is done to rows is done to their cells.
use Rattle.std.proofs.Common.{◌≡◌, ℕ, ◌≤◌, Bool, true, false, cond, not, ◌&&◌, eqb, List, [], ◌∷◌, is_some, Some, None, Option, sym, refl, ap, ◌∙◌, arith, ◌==◌}
use Rattle.std.proofs.lemmas.Bool.Decides.{nat_tests}
use Rattle.book.specs.Shelves as shelf
use Rattle.book.specs.Shelves.{Rising, has}
use Rattle.book.specs.declared.row.Row.{Row}
use Rattle.book.specs.declared.row.RowState.{RowState}
use Rattle.book.specs.declared.row.RowState.TheVariants as state
use Rattle.protocol.specs.Model.{fresh, standing, superseded, closing, Sa, Seed, Cell, opening, live}
use Rattle.protocol.specs.Rows.{lookup, insert, remove, calm_lines, calmed_cell, find, here_or, Found, nowhere, at, Line}
use Rattle.law.specs.Requests.{row_at, found}
use Rattle.book.specs.Rows.{is_opening, kept_octets}
use Rattle.book.proofs.Lookups.{lookup_below}
use Rattle.book.proofs.Firsts.{find_some, above_start}
use Rattle.book.specs.declared.row.Beginner.{Beginner}
use Rattle.book.specs.declared.row.Beginner.TheVariants.{ThisEnd, Peer}
use Rattle.std.proofs.lemmas.Bool.{true≢false, ne_eqb, eq-eqb}
use Rattle.law.specs.Rows.{in_state, calmed, calm}

abbrev pub is_mine : Beginner → Bool
is_mine ThisEnd = true
is_mine Peer = false

-- own SPIs are not reserved, so that a row has a parent where its parent's own SPI is not 0
abbrev pub is_heir : Row → Bool
is_heir r = not (r.parent.own == 0)

abbrev pub seed_of : Row → Seed
seed_of r = record { heir = is_heir r; po = r.parent.own; pp = r.parent.peer; ni = kept_octets r.ni }

abbrev pub sa_of : Row → Sa
sa_of r = record {
  peer = r.peer;
  mine = is_mine r.began;
  heir = is_heir r;
  po = r.parent.own;
  pp = r.parent.peer;
  ni = kept_octets r.ni;
  nr = kept_octets r.nr;
}

abbrev pub cell_by : RowState → Row → Cell
cell_by state.Opening r = opening (seed_of r)
cell_by state.Fresh r = live fresh (sa_of r)
cell_by state.Standing r = live standing (sa_of r)
cell_by state.Superseded r = live superseded (sa_of r)
cell_by state.Closing r = live closing (sa_of r)

abbrev pub cell_of : Row → Cell
cell_of r = cell_by r.state r

abbrev pub line_of : Row → Line
line_of r = record { key = r.own; cell = cell_of r }

abbrev pub lines : List Row → List Line
lines [] = []
lines (r ∷ rs) = line_of r ∷ lines rs

abbrev pub cell_in : Option Row → Option Cell
cell_in None = None
cell_in (Some r) = Some (cell_of r)

pub lines_lookup : (rs : List Row) (k : ℕ) → lookup (lines rs) k ≡ cell_in (shelf.lookup rs k)
lines_lookup [] k = refl
lines_lookup (r ∷ rs) k = let h = lines_lookup rs k in grind (arith, nat_tests)

pub lines_remove : (rs : List Row) (k : ℕ) → lines (shelf.remove rs k) ≡ remove k (lines rs)
lines_remove [] k = refl
lines_remove (r ∷ rs) k = let h = lines_remove rs k in grind (arith, nat_tests)

pub lines_insert :
    (rs : List Row) (x : Row) → has rs x.own ≡ false → lines (shelf.insert rs x) ≡ insert x.own (cell_of x) (lines rs)
lines_insert [] x h = refl
lines_insert (r ∷ rs) x h = let i = lines_insert rs x in grind (arith, nat_tests)

calm_cell : (s : RowState) (r : Row) → cell_by (calmed s) (in_state (calmed s) r) ≡ calmed_cell (cell_by s r)
calm_cell state.Opening r = refl
calm_cell state.Fresh r = refl
calm_cell state.Standing r = refl
calm_cell state.Superseded r = refl
calm_cell state.Closing r = refl

pub lines_calm : (rs : List Row) → lines (calm rs) ≡ calm_lines (lines rs)
lines_calm [] = refl
lines_calm (r ∷ rs) = let h = lines_calm rs in let c = calm_cell r.state r in rw (h, c)

-- a row that is present is rewritten
pub lines_replace :
    (j : ℕ) (rs : List Row) (x : Row) → Rising j rs → has rs x.own ≡ true →
    lines (shelf.replace rs x) ≡ insert x.own (cell_of x) (lines rs)
lines_replace j [] x s h = absurd (true≢false (grind arith))
lines_replace j (r ∷ rs) x s h =
    let i = lines_replace r.own rs x s.1 in
    let b : x.own ≤ r.own → has rs x.own ≡ false = λ l. ap is_some (lookup_below r.own x.own rs l s.1) in
    grind (arith, nat_tests)

abbrev pub found_by : RowState → Row → Found
found_by state.Opening r = nowhere
found_by state.Fresh r = at r.own fresh (sa_of r)
found_by state.Standing r = at r.own standing (sa_of r)
found_by state.Superseded r = at r.own superseded (sa_of r)
found_by state.Closing r = at r.own closing (sa_of r)

abbrev pub found_as : Option Row → Found
found_as None = nowhere
found_as (Some r) = found_by r.state r

-- behind a row, what is found is found there too
found_behind :
    (r : Row) (rs : List Row) (p : ℕ) (q : Option ℕ) → Rising r.own rs → shelf.find rs p ≡ q → row_at (r ∷ rs) q ≡ row_at rs q
found_behind r rs p None s e = refl
found_behind r rs p (Some k) s e =
    let f = find_some r.own rs p k s e in
    let l = above_start r.own rs k f.0 s f.1 in
    let n : eqb r.own k ≡ false = ne_eqb r.own k (λ z. omega arith) in
    rw n

find_cell :
    (s : RowState) (r : Row) (p : ℕ) (f : Found) →
    here_or p r.own (cell_by s r) f
    ≡ cond (eqb r.peer p && not (is_opening s)) (found_by s r) f
find_cell state.Opening r p f = grind (arith, nat_tests)
find_cell state.Fresh r p f = grind (arith, nat_tests)
find_cell state.Standing r p f = grind (arith, nat_tests)
find_cell state.Superseded r p f = grind (arith, nat_tests)
find_cell state.Closing r p f = grind (arith, nat_tests)

found_first :
    (r : Row) (rs : List Row) (p : ℕ) (q : Bool) → Rising r.own rs → find p (lines rs) ≡ found_as (found rs p) →
    cond q (found_by r.state r) (find p (lines rs)) ≡ found_as (row_at (r ∷ rs) (cond q (Some r.own) (shelf.find rs p)))
found_first r rs p true s h = let t : eqb r.own r.own ≡ true = eq-eqb r.own r.own refl in rw t
found_first r rs p false s h = h ∙ ap found_as (sym (found_behind r rs p (shelf.find rs p) s refl))

pub lines_find :
    (j : ℕ) (rs : List Row) (p : ℕ) → Rising j rs → find p (lines rs) ≡ found_as (found rs p)
lines_find j [] p s = refl
lines_find j (r ∷ rs) p s =
    find_cell r.state r p (find p (lines rs))
    ∙ found_first r rs p (eqb r.peer p && not (is_opening r.state)) s.1 (lines_find r.own rs p s.1)

-- A book as a list: rows in ascending order of their keys.
use Rattle.std.specs.Prelude.{ℕ, ◌<◌, cond, List, [], ◌∷◌, Some, None, ◌==◌, nat_lt}
use Rattle.protocol.specs.Model.{St, fresh, standing, superseded, closing, Sa, Cell, opening, live, Book}

pub record Line : Type 0 where
  pub key : ℕ
  pub cell : Cell

abbrev pub lookup : List Line → Book
lookup [] j = None
lookup (r ∷ rs) j = cond (j == r.key) (Some r.cell) (lookup rs j)

abbrev pub insert : ℕ → Cell → List Line → List Line
insert k c [] = record { key = k; cell = c } ∷ []
insert k c (r ∷ rs) =
    cond (nat_lt k r.key) (record { key = k; cell = c } ∷ (r ∷ rs))
    (cond (k == r.key) (record { key = k; cell = c } ∷ rs) (r ∷ insert k c rs))

abbrev pub remove : ℕ → List Line → List Line
remove k [] = []
remove k (r ∷ rs) = cond (k == r.key) rs (r ∷ remove k rs)

abbrev pub above : ℕ → List Line → Type 0
above k [] = Unit {0}
above k (r ∷ rs) = (k < r.key) × above k rs

abbrev pub ordered : List Line → Type 0
ordered [] = Unit {0}
ordered (r ∷ rs) = above r.key rs × ordered rs

-- the live row whose peer key is p
pub data Found : Type 0 where
  nowhere : Found
  at : ℕ → St → Sa → Found

abbrev pub here_or : ℕ → ℕ → Cell → Found → Found
here_or p k (opening d) f = f
here_or p k (live s a) f = cond (a.peer == p) (at k s a) f

abbrev pub find : ℕ → List Line → Found
find p [] = nowhere
find p (r ∷ rs) = here_or p r.key r.cell (find p rs)

-- fresh rows are taken for standing ones
abbrev pub calmed_cell : Cell → Cell
calmed_cell (opening d) = opening d
calmed_cell (live fresh a) = live standing a
calmed_cell (live standing a) = live standing a
calmed_cell (live superseded a) = live superseded a
calmed_cell (live closing a) = live closing a

abbrev pub calm_lines : List Line → List Line
calm_lines [] = []
calm_lines (r ∷ rs) = record { key = r.key; cell = calmed_cell r.cell } ∷ calm_lines rs

-- A book of lines, read as a book.
use Rattle.std.proofs.Common.{◌≡◌, ℕ, ◌<◌, List, [], ◌∷◌, Some, None, refl, arith}
use Rattle.protocol.specs.Model.{St, Sa, Cell, live, put, calm, NoRowFor}
use Rattle.protocol.specs.Rows.{Line, lookup, insert, remove, above, ordered, nowhere, at, find, calm_lines}

pub lookup_insert : (k : ℕ) (c : Cell) (rs : List Line) (j : ℕ) → lookup (insert k c rs) j ≡ put (lookup rs) k (Some c) j
lookup_insert k c [] j = refl
lookup_insert k c (r ∷ rs) j = let ih = lookup_insert k c rs j in grind arith

lookup_above : (k : ℕ) (rs : List Line) → above k rs → lookup rs k ≡ None
lookup_above k [] a = refl
lookup_above k (r ∷ rs) a = let ih = lookup_above k rs a.1 in grind arith

pub lookup_remove : (k : ℕ) (rs : List Line) (j : ℕ) → ordered rs → lookup (remove k rs) j ≡ put (lookup rs) k None j
lookup_remove k [] j o = grind arith
lookup_remove k (r ∷ rs) j o =
    let ih = lookup_remove k rs j o.1 in
    let gone = lookup_above r.key rs o.0 in
    grind arith

pub find_at :
    (p : ℕ) (rs : List Line) (k : ℕ) (s : St) (a : Sa)
    → ordered rs
    → find p rs ≡ at k s a
    → (lookup rs k ≡ Some (live s a)) × (a.peer ≡ p)
find_at p [] k s a o e = grind arith
find_at p (r ∷ rs) k s a o e =
    let ih = find_at p rs k s a o.1 in
    let gone = lookup_above r.key rs o.0 in
    grind arith

pub find_nowhere : (p : ℕ) (rs : List Line) → find p rs ≡ nowhere → (j : ℕ) → NoRowFor p (lookup rs j)
find_nowhere p [] e j = tt
find_nowhere p (r ∷ rs) e j = let ih = λ (w : find p rs ≡ nowhere). find_nowhere p rs w j in grind arith

pub lookup_calm : (rs : List Line) (j : ℕ) → lookup (calm_lines rs) j ≡ calm (lookup rs) j
lookup_calm [] j = refl
lookup_calm (r ∷ rs) j = let ih = lookup_calm rs j in grind arith

above_calm : (k : ℕ) (rs : List Line) → above k rs → above k (calm_lines rs)
above_calm k [] a = tt
above_calm k (r ∷ rs) a = (a.0, above_calm k rs a.1)

pub ordered_calm : (rs : List Line) → ordered rs → ordered (calm_lines rs)
ordered_calm [] o = tt
ordered_calm (r ∷ rs) o = (above_calm r.key rs o.0, ordered_calm rs o.1)

above_insert : (x k : ℕ) (c : Cell) (rs : List Line) → x < k → above x rs → above x (insert k c rs)
above_insert x k c [] l a = (l, tt)
above_insert x k c (r ∷ rs) l a = let ih = above_insert x k c rs l a.1 in grind arith

above_less : (x y : ℕ) (rs : List Line) → x < y → above y rs → above x rs
above_less x y [] l a = tt
above_less x y (r ∷ rs) l a = (omega arith, above_less x y rs l a.1)

pub ordered_insert : (k : ℕ) (c : Cell) (rs : List Line) → ordered rs → ordered (insert k c rs)
ordered_insert k c [] o = (tt, tt)
ordered_insert k c (r ∷ rs) o =
    let ih = ordered_insert k c rs o.1 in
    let up = λ (l : r.key < k). above_insert r.key k c rs l o.0 in
    let down = λ (l : k < r.key). above_less k r.key rs l o.0 in
    let same : k ≡ r.key → above k rs = λ e. rw e o.0 in
    grind arith

above_remove : (x k : ℕ) (rs : List Line) → above x rs → above x (remove k rs)
above_remove x k [] a = tt
above_remove x k (r ∷ rs) a = let ih = above_remove x k rs a.1 in grind arith

pub ordered_remove : (k : ℕ) (rs : List Line) → ordered rs → ordered (remove k rs)
ordered_remove k [] o = tt
ordered_remove k (r ∷ rs) o =
    let ih = ordered_remove k rs o.1 in
    let up = above_remove r.key k rs o.0 in
    grind arith

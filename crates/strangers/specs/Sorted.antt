-- Rows in any order, and the same by rising own SPI.
use Rattle.std.specs.Prelude.{◌≡◌, ℕ, ◌<◌, Bool, true, false, cond, not, ◌&&◌, List, [], ◌∷◌, length, is_some, Some, Option, ◌==◌, nat_lt, refl}
use Rattle.std.proofs.Common.{ap, ◌∙◌, arith}
use Rattle.std.proofs.lemmas.Bool.{lt-ltb, ltb-true, and_parts, and_from, not-true}
use Rattle.nonce.specs.Spis.{last_reserved}
use Rattle.book.specs.declared.row.Row.{Row}
use Rattle.book.specs.Shelves.{Rising, lookup, has, insert}
use Rattle.book.proofs.Lookups.{lookup_insert, rising_insert, length_insert}

-- the rows by rising own SPI
abbrev pub sorted : List Row → List Row
sorted [] = []
sorted (r ∷ rs) = insert (sorted rs) r

-- no two rows have one own SPI, and none has a reserved one
abbrev pub apart : List Row → Bool
apart [] = true
apart (r ∷ rs) = nat_lt last_reserved r.own && (not (has rs r.own) && apart rs)

pub apart_parts : (r : Row) (rs : List Row) → apart (r ∷ rs) ≡ true → (last_reserved < r.own) × (has rs r.own ≡ false) × (apart rs ≡ true)
apart_parts r rs a =
    let p = and_parts _ _ a in
    let q = and_parts _ _ p.1 in
    (ltb-true _ _ p.0, not-true _ q.0, q.1)

pub apart_from : (r : Row) (rs : List Row) → last_reserved < r.own → has rs r.own ≡ false → apart rs ≡ true → apart (r ∷ rs) ≡ true
apart_from r rs l h a = and_from _ _ (lt-ltb _ _ l) (and_from _ _ (ap not h) a)

-- what is looked up in them is the same in either order
pub lookup_sorted : (rs : List Row) (k : ℕ) → apart rs ≡ true → lookup (sorted rs) k ≡ lookup rs k
lookup_sorted [] k a = refl
lookup_sorted (r ∷ rs) k a =
    let p = apart_parts r rs a in
    let no : has (sorted rs) r.own ≡ false = ap is_some (lookup_sorted rs r.own p.2) ∙ p.1 in
    lookup_insert (sorted rs) r k no ∙ ap (λ (o : Option Row). cond (r.own == k) (Some r) o) (lookup_sorted rs k p.2)

pub has_sorted : (rs : List Row) (k : ℕ) → apart rs ≡ true → has (sorted rs) k ≡ has rs k
has_sorted rs k a = ap is_some (lookup_sorted rs k a)

pub rising_sorted : (rs : List Row) → apart rs ≡ true → Rising last_reserved (sorted rs)
rising_sorted [] a = tt
rising_sorted (r ∷ rs) a =
    let p = apart_parts r rs a in
    rising_insert last_reserved (sorted rs) r p.0 (has_sorted rs r.own p.2 ∙ p.1) (rising_sorted rs p.2)

pub length_sorted : (rs : List Row) → length (sorted rs) ≡ length rs
length_sorted [] = refl
length_sorted (r ∷ rs) = omega (arith, length_insert (sorted rs) r, length_sorted rs)

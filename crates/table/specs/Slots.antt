-- Slots, each of which may hold a row.
use Rattle.std.specs.Prelude.{ℕ, zero, suc, ◌+◌, ◌%◌, Bool, true, false, cond, not, ◌&&◌, List, [], ◌∷◌, position, count_by, is_some, Some, None, Option, ◌==◌, nat_lt, slice_index_or}
use Rattle.nonce.specs.Spis.{last_reserved}
use Rattle.book.specs.declared.row.Row.{Row}
use Rattle.book.specs.Shelves.{insert}

abbrev pub Slots : Type 0
Slots = List (Option Row)

-- the rows, by rising own SPI
abbrev pub sorted_rows : Slots → List Row
sorted_rows [] = []
sorted_rows (None ∷ s) = sorted_rows s
sorted_rows (Some r ∷ s) = insert (sorted_rows s) r

-- how many slots hold a row
abbrev pub used : Slots → ℕ
used s = count_by is_some s

-- whether a slot holds the row of an own SPI
abbrev pub holds : Option Row → ℕ → Bool
holds None k = false
holds (Some r) k = r.own == k

-- the first slot that holds the row of an own SPI: the row, and the place
abbrev pub seek : Slots → ℕ → Option Row
seek [] k = None
seek (o ∷ s) k = cond (holds o k) o (seek s k)

abbrev pub place_in : Slots → ℕ → Option ℕ
place_in s k = position (λ o. holds o k) s

-- no two rows have one own SPI, and none has a reserved one
abbrev pub apart : Slots → Bool
apart [] = true
apart (None ∷ s) = apart s
apart (Some r ∷ s) = nat_lt last_reserved r.own && (not (is_some (seek s r.own)) && apart s)

-- the hashed place of an own SPI
abbrev pub home : ℕ → ℕ
home k = k % 16

-- where the row of an own SPI is found: in its hashed place at the first look, else by a scan
abbrev pub place_of : Slots → ℕ → Option ℕ
place_of s k = cond (holds (slice_index_or s (home k) None) k) (Some (home k)) (place_in s k)

-- 1 where a row of an own SPI is in another place than its hashed one, and of all slots: how many rows are
abbrev pub astray : ℕ → ℕ → ℕ
astray k i = cond (home k == i) 0 1

abbrev pub stray_in : ℕ → Option Row → ℕ
stray_in i None = 0
stray_in i (Some r) = astray r.own i

-- of the slots from place i on
abbrev pub strays_from : ℕ → Slots → ℕ
strays_from i [] = 0
strays_from i (o ∷ s) = stray_in i o + strays_from (i + 1) s

-- the first free one of n places from i on, going on at the front
unfoldable pub free_from : Slots → ℕ → ℕ → Option ℕ
free_from s i zero = None
free_from s i (suc n) = cond (is_some (slice_index_or s (i % 16) None)) (free_from s (i + 1) n) (Some (i % 16))

-- the own SPI of the row in a slot, where it passes a test
abbrev pub mine : (Row → Bool) → Option Row → Option ℕ
mine q None = None
mine q (Some r) = cond (q r) (Some r.own) None

-- the lower of two numbers, of which either may be absent
abbrev pub lower : Option ℕ → Option ℕ → Option ℕ
lower None o = o
lower (Some m) None = Some m
lower (Some m) (Some n) = cond (nat_lt n m) (Some n) (Some m)

-- the lowest own SPI of a row that passes a test
abbrev pub lowest : (Row → Bool) → Slots → Option ℕ
lowest q [] = None
lowest q (o ∷ s) = lower (mine q o) (lowest q s)

-- Rows in places.
use Rattle.std.specs.Prelude.{ℕ, suc, Bool, true, cond, ◌&&◌, List, [], ◌∷◌, position, Option, nat_eq, nat_lt}
use Rattle.book.specs.declared.row.Row.{Row}

-- whether own SPIs rise strictly, from above k
abbrev pub rises : ℕ → List Row → Bool
rises k [] = true
rises k (r ∷ rs) = nat_lt k r.own && rises r.own rs

-- the place of the row of an own SPI
abbrev pub index_of : List Row → ℕ → Option ℕ
index_of rs k = position (λ r. nat_eq r.own k) rs

-- how many rows lie before the place for an own SPI
abbrev pub room : List Row → ℕ → ℕ
room [] k = 0
room (r ∷ rs) k = cond (nat_lt k r.own) 0 (suc (room rs k))

-- SPIs, and which of them are reserved.
use Rattle.std.specs.Prelude.{ℕ, pred, Bool, nat_lt}

-- the lowest that is not reserved
abbrev pub lowest_spi : ℕ
lowest_spi = 256

-- the highest that is reserved
abbrev pub last_reserved : ℕ
last_reserved = pred lowest_spi

abbrev pub is_reserved : ℕ → Bool
is_reserved spi = nat_lt spi lowest_spi

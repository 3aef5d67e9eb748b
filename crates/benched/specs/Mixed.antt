-- A number made of many: how the benchmark tells that both sides answered the same.
use Rattle.std.specs.Prelude.{ℕ, ◌+◌, ◌-◌, ◌*◌, ◌%◌, ◌^◌, List, length, fold, slice_index}
use Rattle.std.specs.List.{range_with_len}

-- a number folded into those before, as a number of 64 bits
abbrev pub mixed : ℕ → ℕ → ℕ
mixed before number = (before * 31 + number) % 2 ^ 64

-- what is made of the numbers f 0, f 1 and so on, so many of them
abbrev pub repeated : ℕ → (ℕ → ℕ) → ℕ
repeated times f = fold (λ all i. mixed all (f i)) 0 (range_with_len 0 times)

-- the last octet; 0 where there is none
abbrev pub last : List ℕ → ℕ
last s = slice_index s (length s - 1)

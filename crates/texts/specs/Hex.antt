-- Octets as hexadecimal digits. A text is the list of its characters' codes.
use Rattle.std.specs.Prelude.{ℕ, ◌+◌, ◌-◌, ◌*◌, ◌/◌, ◌%◌, Bool, cond, ◌&&◌, List, [], ◌∷◌, Some, None, Option, nat_le, nat_lt}

abbrev pub between : ℕ → ℕ → ℕ → Bool
between low high c = nat_le low c && nat_le c high

-- the value of a digit: 0 to 9, a to f or A to F
abbrev pub digit_value : ℕ → Option ℕ
digit_value c =
    cond (between 48 57 c) (Some (c - 48))
    (cond (between 97 102 c) (Some (c - 87)) (cond (between 65 70 c) (Some (c - 55)) None))

abbrev pub pair_value : Option ℕ → Option ℕ → Option ℕ
pair_value None l = None
pair_value (Some h) None = None
pair_value (Some h) (Some l) = Some (16 * h + l)

abbrev pub before : Option ℕ → Option (List ℕ) → Option (List ℕ)
before None xs = None
before (Some x) None = None
before (Some x) (Some xs) = Some (x ∷ xs)

-- the octets that a text writes, two digits for each
abbrev pub from_hex : List ℕ → Option (List ℕ)
from_hex [] = Some []
from_hex (h ∷ []) = None
from_hex (h ∷ l ∷ rest) = before (pair_value (digit_value h) (digit_value l)) (from_hex rest)

-- the digit of a number below 16
abbrev pub digit_char : ℕ → ℕ
digit_char d = cond (nat_lt d 10) (48 + d) (87 + d)

-- octets as text
abbrev pub hex_text : List ℕ → List ℕ
hex_text [] = []
hex_text (x ∷ xs) = digit_char (x / 16) ∷ digit_char (x % 16) ∷ hex_text xs

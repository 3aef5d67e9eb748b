-- Numbers as octets, the most significant first.
use Rattle.std.specs.Prelude.{ℕ, ◌+◌, ◌*◌, ◌/◌, ◌%◌, cond, List, [], ◌∷◌, length, Some, None, Option, nat_le, slice_index}

-- the octets of a number of 16, 32 or 64 bits
abbrev pub be16 : ℕ → List ℕ
be16 n = n / 256 % 256 ∷ n % 256 ∷ []

abbrev pub be32 : ℕ → List ℕ
be32 n = n / 16777216 % 256 ∷ n / 65536 % 256 ∷ n / 256 % 256 ∷ n % 256 ∷ []

abbrev pub be64 : ℕ → List ℕ
be64 n =
    n / 72057594037927936 % 256 ∷ n / 281474976710656 % 256 ∷ n / 1099511627776 % 256 ∷ n / 4294967296 % 256
    ∷ n / 16777216 % 256 ∷ n / 65536 % 256 ∷ n / 256 % 256 ∷ n % 256 ∷ []

-- the number in the two, four or eight octets from place i on
abbrev pub half : List ℕ → ℕ → ℕ
half s i = slice_index s i * 256 + slice_index s (i + 1)

abbrev pub word : List ℕ → ℕ → ℕ
word s i = slice_index s i * 16777216 + slice_index s (i + 1) * 65536 + slice_index s (i + 2) * 256 + slice_index s (i + 3)

abbrev pub long : List ℕ → ℕ → ℕ
long s i =
    slice_index s i * 72057594037927936 + slice_index s (i + 1) * 281474976710656 + slice_index s (i + 2) * 1099511627776
    + slice_index s (i + 3) * 4294967296 + slice_index s (i + 4) * 16777216 + slice_index s (i + 5) * 65536
    + slice_index s (i + 6) * 256 + slice_index s (i + 7)

-- x, where s has w octets from place i on
abbrev pub within : {X : Type 0} → List ℕ → ℕ → ℕ → X → Option X
within s i w x = cond (nat_le (i + w) (length s)) (Some x) None

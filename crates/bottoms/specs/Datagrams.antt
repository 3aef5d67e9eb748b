-- Datagrams, and lists of them.
use Rattle.std.specs.Prelude.{ℕ, Bool, true, ◌&&◌, List, [], ◌∷◌, ◌++◌, map, length, drop, Some, None, Option, nat_le, nat_lt}
use Rattle.arrayvec.specs.ArrayVec.{ArrayVec}

-- the octets of a datagram
abbrev pub octets_of : ArrayVec ℕ → List ℕ
octets_of d = d.items

-- what a lane holds
abbrev pub lane_list : ArrayVec (ArrayVec ℕ) → List (List ℕ)
lane_list l = map octets_of l.items

-- whether octets have the length of a datagram
abbrev pub is_sized : ℕ → List ℕ → Bool
is_sized longest d = nat_le 1 (length d) && nat_le (length d) longest

abbrev pub all_sized : ℕ → List (List ℕ) → Bool
all_sized longest [] = true
all_sized longest (d ∷ ds) = is_sized longest d && all_sized longest ds

-- whether a datagram is added: it has its length, and fewer than 32 are there
abbrev pub admitted : ℕ → List (List ℕ) → List ℕ → Bool
admitted longest ds d = is_sized longest d && nat_lt (length ds) 32

-- whether a buffer gets a datagram: it is as long as the longest may be, and one is there
abbrev pub served : ℕ → List (List ℕ) → List ℕ → Bool
served longest ds buffer = nat_le longest (length buffer) && nat_lt 0 (length ds)

-- The first is taken: what is answered, what a buffer then holds, and what is left.
abbrev pub first_of : List (List ℕ) → List ℕ → Option ℕ × List ℕ × List (List ℕ)
first_of [] was = (None, was, [])
first_of (d ∷ ds) was = (Some (length d), d ++ drop (length d) was, ds)

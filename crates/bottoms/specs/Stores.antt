-- What a channel holds for its two ends, and how it changes.
use Rattle.std.specs.Prelude.{ℕ, Bool, cond, ◌&&◌, List, [], ◌∷◌, ◌++◌, None, Ok, Err, Option, Result, nat_le}
use Rattle.nonce.specs.declared.side.Side.{Side}
use Rattle.nonce.specs.declared.side.Side.TheVariants.{A, B}
use Rattle.bottoms.specs.Datagrams.{lane_list, admitted, served, first_of}
use Rattle.bottoms.specs.declared.lanes.Lanes.{Lanes}
use Rattle.bottoms.specs.declared.refusal.MakeRefusal.{MakeRefusal}
use Rattle.bottoms.specs.declared.refusal.MakeRefusal.TheVariants.{Longest}

-- the datagrams for each end, in the order in which they come
pub record Store : Type 0 where
  pub longest : ℕ
  pub a : List (List ℕ)
  pub b : List (List ℕ)

abbrev pub list_at : Store → Side → List (List ℕ)
list_at s A = s.a
list_at s B = s.b

abbrev pub with_list : Store → Side → List (List ℕ) → Store
with_list s A ds = record { longest = s.longest; a = ds; b = s.b }
with_list s B ds = record { longest = s.longest; a = s.a; b = ds }

-- whether a datagram is taken: 1 to longest octets, where fewer than 32 are there
abbrev pub admits : Store → Side → List ℕ → Bool
admits s to d = admitted s.longest (list_at s to) d

abbrev pub added_last : Store → Side → List ℕ → Store
added_last s to d = with_list s to (list_at s to ++ (d ∷ []))

abbrev pub added_first : Store → Side → List ℕ → Store
added_first s to d = with_list s to (d ∷ list_at s to)

-- whether a buffer gets a datagram
abbrev pub serves : Store → Side → List ℕ → Bool
serves s side buffer = served s.longest (list_at s side) buffer

-- A receive: what is answered, what the buffer then holds, and what is left.
abbrev pub with_left : Store → Side → Option ℕ × List ℕ × List (List ℕ) → Option ℕ × List ℕ × Store
with_left s side t = (t.0, t.1, with_list s side t.2)

abbrev pub received : Store → Side → List ℕ → Option ℕ × List ℕ × Store
received s side was = cond (serves s side was) (with_left s side (first_of (list_at s side) was)) (None, was, s)

-- making it, with 32 to 256 octets as the longest
abbrev pub empty : ℕ → Store
empty longest = record { longest = longest; a = []; b = [] }

abbrev pub in_range : ℕ → Bool
in_range longest = nat_le 32 longest && nat_le longest 256

abbrev pub fresh : ℕ → Result Store MakeRefusal
fresh longest = cond (in_range longest) (Ok (empty longest)) (Err Longest)

abbrev pub store_of : Lanes → Store
store_of l = record { longest = l.longest; a = lane_list l.lists.a; b = lane_list l.lists.b }

-- The sizes of datagrams.
use Rattle.std.specs.Prelude.{ℕ, ◌≤◌, List, length}

-- the octets have the length of a datagram
abbrev pub IsSized : ℕ → List ℕ → Type 0
IsSized longest d = (1 ≤ length d) × (length d ≤ longest)

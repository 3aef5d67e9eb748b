-- What a channel means. Datagrams are lists of octets.
use Rattle.std.specs.Prelude.{◌≡◌, ℕ, ◌<◌, ◌≤◌, ◌⊎◌, List, [], ◌∷◌, ◌++◌, length}
use Rattle.nonce.specs.declared.side.Side.{Side}

-- A datagram has at most longest octets. May says which may still come to an end. While the depth is above 0 these are
-- those that wait there, each as often as it is listed; at depth 0 the lists say nothing.
pub record Meaning : Type 1 where
  pub longest : ℕ
  pub depth : ℕ
  pub waiting : Side → List (List ℕ)
  pub may : Side → List ℕ → Type 0

-- d stands in ds
abbrev pub In : List ℕ → List (List ℕ) → Type 0
In d [] = ⊥
In d (x ∷ xs) = (x ≡ d) ⊎ In d xs

-- rest is ds without one d
pub record Without (ds : List (List ℕ)) (d : List ℕ) (rest : List (List ℕ)) : Type 0 where
  pub front : List (List ℕ)
  pub back : List (List ℕ)
  pub was : ds ≡ front ++ (d ∷ back)
  pub left : rest ≡ front ++ back

-- the octets have the length of a datagram
abbrev pub Within : Meaning → List ℕ → Type 0
Within m d = (1 ≤ length d) × (length d ≤ m.longest)

-- what holds of every channel
pub record Sound (m : Meaning) : Type 0 where
  pub most : m.longest ≤ 256
  pub sized : (e : Side) (d : List ℕ) → m.may e d → Within m d
  pub listed : (e : Side) (d : List ℕ) → 0 < m.depth → m.may e d → In d (m.waiting e)
  pub comes : (e : Side) (d : List ℕ) → 0 < m.depth → In d (m.waiting e) → m.may e d

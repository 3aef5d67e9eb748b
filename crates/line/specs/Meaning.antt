-- What a send and a receive of a whole datagram do to the meaning of a channel.
use Rattle.std.specs.Prelude.{◌≡◌, ℕ, ◌<◌, ◌≤◌, Bool, true, false, ◌⊎◌, List, [], length, take, Some, None, Option}
use Rattle.nonce.specs.declared.side.Side.{Side}
use Rattle.nonce.specs.Sides.{other}
use Rattle.channel.specs.Meaning.{Meaning, Without, Within}
use Rattle.channel.specs.declared.sent.Sent.{Sent as Taking}
use Rattle.channel.specs.declared.sent.Sent.TheVariants.{Taken, NotTaken}

-- nothing has changed
pub record Same (m n : Meaning) : Type 0 where
  pub longest : n.longest ≡ m.longest
  pub less : (e : Side) (d : List ℕ) → n.may e d → m.may e d
  pub depth : n.depth ≡ m.depth
  pub waiting : (e : Side) → n.waiting e ≡ m.waiting e

-- the answer of a send
abbrev pub is_taken : Taking → Bool
is_taken Taken = true
is_taken NotTaken = false

pub record Sent (m n : Meaning) (end : Side) (d : List ℕ) (taken : Bool) : Type 0 where
  pub longest : n.longest ≡ m.longest
  -- only what could come before may come, and d if it was taken
  pub here : (x : List ℕ) → n.may end x → m.may end x ⊎ ((taken ≡ true) × (d ≡ x))
  pub there : (x : List ℕ) → n.may (other end) x → m.may (other end) x
  -- within the depth d is taken and added once
  pub adds :
      Within m d
      → length (m.waiting end) < m.depth
      → (taken ≡ true)
      × (n.depth ≡ m.depth)
      × Without (n.waiting end) d (m.waiting end)
      × (n.waiting (other end) ≡ m.waiting (other end))

-- what came could come
abbrev pub CouldCome : Meaning → Side → Option (List ℕ) → Type 0
CouldCome m end None = Unit {0}
CouldCome m end (Some d) = m.may end d

abbrev pub removes : List (List ℕ) → Option (List ℕ) → List (List ℕ) → Type 0
removes ds None rest = ⊥
removes ds (Some d) rest = Without ds d rest

-- a receive into a buffer that is long enough
pub record Got (m n : Meaning) (end : Side) (r : Option (List ℕ)) : Type 0 where
  pub longest : n.longest ≡ m.longest
  pub only : (e : Side) (x : List ℕ) → n.may e x → m.may e x
  pub gives : CouldCome m end r
  pub none : 0 < m.depth → m.waiting end ≡ [] → (r ≡ None) × Same m n
  pub one :
      0 < length (m.waiting end)
      → length (m.waiting end) ≤ m.depth
      → removes (m.waiting end) r (n.waiting end)
      × (n.depth ≡ m.depth)
      × (n.waiting (other end) ≡ m.waiting (other end))

-- the datagram that came into a buffer, which holds is, by the answer of a receive
abbrev pub came : List ℕ → Option ℕ → Option (List ℕ)
came is None = None
came is (Some k) = Some (take k is)

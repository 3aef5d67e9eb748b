-- What sending and receiving do to the meaning of a channel.
use Rattle.std.specs.Prelude.{◌≡◌, ℕ, ◌<◌, ◌≤◌, ◌⊎◌, List, length, take, drop, Option, MatchOption}
use Rattle.std.specs.Option.{option_map}
use Rattle.nonce.specs.declared.side.Side.{Side}
use Rattle.nonce.specs.Sides.{other}
use Rattle.channel.specs.Meaning.{Meaning, Within, Without}
use Rattle.channel.specs.declared.sent.Sent.{Sent}
use Rattle.channel.specs.declared.sent.Sent.TheVariants.{Taken}

-- the octets were taken, and wait once more at the side
pub record Added (before after : Meaning) (side : Side) (octets : List ℕ) (answer : Sent) : Type 0 where
  pub taken : answer ≡ Taken
  pub depth : after.depth ≡ before.depth
  pub here : Without (after.waiting side) octets (before.waiting side)
  pub there : after.waiting (other side) ≡ before.waiting (other side)

pub record SentAs (before after : Meaning) (side : Side) (octets : List ℕ) (answer : Sent) : Type 0 where
  pub longest : after.longest ≡ before.longest
  -- only what could come before may come, and the octets if they were taken
  pub here : (d : List ℕ) → after.may side d → before.may side d ⊎ ((answer ≡ Taken) × (octets ≡ d))
  pub there : (d : List ℕ) → after.may (other side) d → before.may (other side) d
  -- where fewer than the depth wait
  pub adds : Within before octets → length (before.waiting side) < before.depth → Added before after side octets answer

-- what came into a buffer that holds is: the octets of this number at its front, or nothing
abbrev pub came_in : List ℕ → Option ℕ → Option (List ℕ)
came_in is answer = option_map (λ k. take k is) answer

-- a datagram of k octets came, into a buffer that held was and holds is
pub record Came (before : Meaning) (side : Side) (was is : List ℕ) (k : ℕ) : Type 0 where
  pub fits : k ≤ length was
  pub could : before.may side (take k is)
  pub behind : drop k is ≡ drop k was

-- a datagram came that waited at the side, where it waits once less
pub record Removed (before after : Meaning) (side : Side) (is : List ℕ) (answer : Option ℕ) : Type 0 where
  pub here : MatchOption answer ⊥ (λ k. Without (before.waiting side) (take k is) (after.waiting side))
  pub depth : after.depth ≡ before.depth
  pub there : after.waiting (other side) ≡ before.waiting (other side)

pub record ReceivedAs (before after : Meaning) (side : Side) (was is : List ℕ) (answer : Option ℕ) : Type 0 where
  pub longest : after.longest ≡ before.longest
  -- nothing new may come
  pub only : (e : Side) (d : List ℕ) → after.may e d → before.may e d
  -- a datagram that could come, and what lay behind it; or nothing, and the buffer stays
  pub gives : MatchOption answer (is ≡ was) (Came before side was is)
  -- where 1 to depth wait, and the buffer is large enough
  pub removes :
      before.longest ≤ length was → 0 < length (before.waiting side) → length (before.waiting side) ≤ before.depth →
      Removed before after side is answer

-- A datagram that is sent over a channel of some depth, and comes.
use Rattle.std.specs.Prelude.{◌≡◌, ℕ, ◌<◌, ◌≤◌, List, [], ◌++◌, length, drop, Some, None, Option}
use Rattle.nonce.specs.declared.side.Side.{Side}
use Rattle.nonce.specs.Sides.{other}
use Rattle.channel.specs.Meaning.{Meaning, Within}
use Rattle.channel.specs.Behaviour.{Behaviour, Sends, Receives}
use Rattle.channel.specs.declared.sent.Sent.{Sent}
use Rattle.channel.specs.declared.sent.Sent.TheVariants.{Taken, NotTaken}

-- what follows on an answer to a send
abbrev pub After : Sent → Type 0 → Type 0 → Type 0
After Taken P Q = P
After NotTaken P Q = Q

-- A send and, if it was taken, a receive; what the channel was between them.
pub record Looped {C : Type 0} (behaviour : Behaviour C) (before after : C) (side : Side) (octets was is : List ℕ) (answer : Option ℕ) : Type 0 where
  pub between : C
  pub sent : Sent
  pub sends : Sends behaviour before between side octets sent
  pub receives : After sent (Receives behaviour between after side was is answer) ((answer ≡ None) × (is ≡ was) × (after ≡ between))

-- nothing waits at the side, and the octets and the buffer have a fitting length
pub record Ready (m : Meaning) (side : Side) (octets was : List ℕ) : Type 0 where
  pub deep : 0 < m.depth
  pub idle : m.waiting side ≡ []
  pub within : Within m octets
  pub wide : m.longest ≤ length was

-- the octets came, and what waits is as before
pub record Returned (before after : Meaning) (side : Side) (octets was is : List ℕ) (answer : Option ℕ) : Type 0 where
  pub came : answer ≡ Some (length octets)
  pub buffer : is ≡ octets ++ drop (length octets) was
  pub longest : after.longest ≡ before.longest
  pub depth : after.depth ≡ before.depth
  pub here : after.waiting side ≡ []
  pub there : after.waiting (other side) ≡ before.waiting (other side)

-- What a channel is to those who use it.
use Rattle.std.specs.Prelude.{◌≡◌, ℕ, ◌<◌, ◌≤◌, List, [], length, None, Option}
use Rattle.nonce.specs.declared.side.Side.{Side}
use Rattle.channel.specs.Meaning.{Meaning, Within}
use Rattle.channel.specs.Effects.{SentAs, ReceivedAs, came_in}
use Rattle.channel.specs.declared.sent.Sent.{Sent}
use Rattle.channel.specs.declared.sent.Sent.TheVariants.{NotTaken}

-- Which datagrams may still come, and what a send and a receive do. What is known of one channel beyond the rules of every
-- channel stands in the last two: which of the waiting datagrams is given, and what becomes of those that are taken.
pub record Behaviour (C : Type 0) : Type 1 where
  pub meaning : C → Meaning
  -- octets are sent to a side: what is answered, and what the channel is then
  pub sends : C → Side → List ℕ → Sent → C → Type 0
  -- a datagram or nothing is given at a side, to a buffer that is long enough, and what the channel is then
  pub gives : C → Side → Option (List ℕ) → C → Type 0

-- octets are sent to a side, by all that a channel promises of it
pub record Sends {C : Type 0} (behaviour : Behaviour C) (c c' : C) (to : Side) (octets : List ℕ) (answer : Sent) : Type 0 where
  pub effect : SentAs (behaviour.meaning c) (behaviour.meaning c') to octets answer
  pub unfit : (Within (behaviour.meaning c) octets → ⊥) → (answer ≡ NotTaken) × (c' ≡ c)
  pub exactly : behaviour.sends c to octets answer c'

-- a buffer receives at a side, by all that a channel promises of it
pub record Receives {C : Type 0} (behaviour : Behaviour C) (c c' : C) (at : Side) (was is : List ℕ) (answer : Option ℕ) : Type 0 where
  pub effect : ReceivedAs (behaviour.meaning c) (behaviour.meaning c') at was is answer
  pub short : length was < (behaviour.meaning c).longest → (answer ≡ None) × (c' ≡ c)
  pub idle : 0 < (behaviour.meaning c).depth → (behaviour.meaning c).waiting at ≡ [] → (answer ≡ None) × (c' ≡ c)
  pub exactly : (behaviour.meaning c).longest ≤ length was → behaviour.gives c at (came_in is answer) c'

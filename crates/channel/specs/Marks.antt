-- The mark, and what a channel of marked datagrams means.
use Rattle.std.specs.Prelude.{◌≡◌, ℕ, ◌-◌, ◌≤◌, Bool, true, cond, ◌&&◌, List, [], ◌∷◌, ◌++◌, map, length, take, drop, replicate, Some, None, Option, MatchOption, ◌==◌, nat_lt, slice_index}
use Rattle.nonce.specs.declared.side.Side.{Side}
use Rattle.nonce.specs.declared.side.Side.TheVariants.{A, B}
use Rattle.channel.specs.Meaning.{Meaning}
use Rattle.channel.specs.Effects.{ReceivedAs}

-- four zero octets before the message
abbrev pub mark : List ℕ → List ℕ
mark d = 0 ∷ 0 ∷ 0 ∷ 0 ∷ d

-- whether a datagram has the mark and something behind it
abbrev pub is_marked : List ℕ → Bool
is_marked d =
    nat_lt 4 (length d) && (slice_index d 0 == 0 && (slice_index d 1 == 0 && (slice_index d 2 == 0 && slice_index d 3 == 0)))

abbrev pub all_marked : List (List ℕ) → Bool
all_marked [] = true
all_marked (d ∷ ds) = is_marked d && all_marked ds

-- What a channel means above one that means m. Its depth is that below while all that waits there is marked.
abbrev pub marked : Meaning → Meaning
marked m = record {
  longest = m.longest - 4;
  depth = cond (all_marked (m.waiting A) && all_marked (m.waiting B)) m.depth 0;
  waiting = λ e. map (drop 4) (m.waiting e);
  may = λ e d. (1 ≤ length d) × m.may e (mark d);
}

-- what is answered to a datagram that came below, and what a buffer then holds
abbrev pub passed : List ℕ → List ℕ → Option ℕ × List ℕ
passed d was = cond (is_marked d) (Some (length d - 4), drop 4 d ++ drop (length d - 4) was) (None, was)

-- A receive is one below, into a room of 256 octets, and passes on what came there.
pub record Unmarks (before after : Meaning) (side : Side) (was is : List ℕ) (answer : Option ℕ) : Type 0 where
  pub room : List ℕ
  pub came : Option ℕ
  pub below : ReceivedAs before after side (replicate 256 0) room came
  pub passes : MatchOption came ((answer ≡ None) × (is ≡ was)) (λ k. (answer, is) ≡ passed (take k room) was)

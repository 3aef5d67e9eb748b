-- What a marker over a channel does, by what the channel below does.
use Rattle.std.specs.Prelude.{◌≡◌, ℕ, cond, List, drop, Some, None, Option}
use Rattle.nonce.specs.declared.side.Side.{Side}
use Rattle.channel.specs.Meaning.{Within}
use Rattle.channel.specs.Marks.{mark, is_marked, marked}
use Rattle.channel.specs.Behaviour.{Behaviour}
use Rattle.channel.specs.declared.marker.Marker.{Marker}
use Rattle.channel.specs.declared.sent.Sent.{Sent}
use Rattle.channel.specs.declared.sent.Sent.TheVariants.{NotTaken}

-- a send through a mark: what fits is sent below, and answered as there
pub record SendsMarked {C : Type 0} (below : Behaviour C) (c : C) (to : Side) (octets : List ℕ) (answer : Sent) (c' : C) : Type 0 where
  pub fits : Within (marked (below.meaning c)) octets → below.sends c to (mark octets) answer c'
  pub unfit : (Within (marked (below.meaning c)) octets → ⊥) → (answer ≡ NotTaken) × (c' ≡ c)

-- what is behind the mark of a datagram; nothing, where it is not marked
abbrev pub unmarked : Option (List ℕ) → Option (List ℕ)
unmarked None = None
unmarked (Some d) = cond (is_marked d) (Some (drop 4 d)) None

-- a receive through a mark: what is given below, without its mark
pub record GivesMarked {C : Type 0} (below : Behaviour C) (c : C) (at : Side) (came : Option (List ℕ)) (c' : C) : Type 0 where
  pub given : Option (List ℕ)
  pub gives : below.gives c at given c'
  pub read : came ≡ unmarked given

abbrev pub marker_over : {C : Type 0} → Behaviour C → Behaviour (Marker C)
marker_over below = record {
  meaning = λ m. marked (below.meaning m.below);
  sends = λ m to d t n. SendsMarked below m.below to d t n.below;
  gives = λ m at came n. GivesMarked below m.below at came n.below;
}

-- What a channel that keeps the newest means, and that it keeps the rules of a channel.
use Rattle.std.specs.Prelude.{◌≡◌, ℕ, ◌≤◌, cond, ◌&&◌, List, [], length, Some, None, Option, nat_le, refl}
use Rattle.std.specs.Option.{ForSome, option_map}
use Rattle.std.proofs.Common.{subst, arith}
use Rattle.arrayvec.specs.ArrayVec.{ArrayVec}
use Rattle.nonce.specs.declared.side.Side.{Side}
use Rattle.nonce.specs.declared.side.Side.TheVariants.{A, B}
use Rattle.nonce.specs.declared.both.Both.{Both}
use Rattle.nonce.specs.Both.{at, with_at}
use Rattle.channel.specs.Behaviour.{Behaviour}
use Rattle.channel.specs.Meaning.{Meaning, Sound}
use Rattle.channel.specs.declared.sent.Sent.{Sent}
use Rattle.channel.specs.declared.sent.Sent.TheVariants.{Taken, NotTaken}
use Rattle.strangers.specs.Sizes.{IsSized}
use Rattle.strangers.specs.declared.newest.Newest.{Newest}

abbrev pub Kept : Type 0
Kept = Both (Option (ArrayVec ℕ))

-- the newest datagram for an end, if one was sent there
abbrev pub newest_at : Kept → Side → Option (List ℕ)
newest_at kept side = option_map (λ d. d.items) (at kept side)

-- the longest, and the newest for each end
pub record State : Type 0 where
  pub longest : ℕ
  pub a : Option (List ℕ)
  pub b : Option (List ℕ)

abbrev pub state_of : Newest → State
state_of c = record { longest = c.longest; a = newest_at c.kept A; b = newest_at c.kept B }

-- making it, with at most 256 octets as the longest
abbrev pub made : ℕ → Option State
made longest = cond (nat_le longest 256) (Some (record { longest = longest; a = None; b = None })) None

-- What is kept may come, any number of times. Since it may be replaced, there is no depth.
abbrev pub keeping : ℕ → Kept → Meaning
keeping longest kept = record {
  longest = longest;
  depth = 0;
  waiting = λ _. [];
  may = λ side d. newest_at kept side ≡ Some d;
}

abbrev pub means : Newest → Meaning
means c = keeping c.longest c.kept

-- a send: what has the length of a datagram is kept, and what was kept for that end is gone
abbrev pub with_newest : State → Side → List ℕ → State
with_newest s A d = record { longest = s.longest; a = Some d; b = s.b }
with_newest s B d = record { longest = s.longest; a = s.a; b = Some d }

abbrev pub newest_sent : State → Side → List ℕ → Sent × State
newest_sent s to d = cond (nat_le 1 (length d) && nat_le (length d) s.longest) (Taken, with_newest s to d) (NotTaken, s)

-- a receive gives what is kept, and keeps it
abbrev pub newest_given : State → Side → Option (List ℕ) × State
newest_given s A = (s.a, s)
newest_given s B = (s.b, s)

abbrev pub behaves : Behaviour Newest
behaves = record {
  meaning = means;
  sends = λ c to d t c'. (t, state_of c') ≡ newest_sent (state_of c) to d;
  gives = λ c side came c'. (came, state_of c') ≡ newest_given (state_of c) side;
}

-- what is kept has the length of a datagram
kept_sized : (longest : ℕ) (o : Option (ArrayVec ℕ)) (d : List ℕ) → ForSome o (λ x. IsSized longest x.items) → option_map (λ x. x.items) o ≡ Some d → IsSized longest d
kept_sized longest None d h e = cc
kept_sized longest (Some x) d h e = let f : x.items ≡ d = cc in subst (IsSized longest) f (h x refl)

pub newest_sound : (c : Newest) → Sound (means c)
newest_sound c = record {
  most = c.most;
  sized = λ e d m. kept_sized c.longest (at c.kept e) d (c.sizes e) m;
  listed = λ e d l m. absurd (omega (arith, l));
  comes = λ e d l m. absurd (omega (arith, l));
}

pub newest_fits : (c : Newest) (side : Side) (d : List ℕ) → newest_at c.kept side ≡ Some d → length d ≤ c.longest
newest_fits c side d e = (kept_sized c.longest (at c.kept side) d (c.sizes side) e).1

-- with another datagram for an end
one_sized : (longest : ℕ) (x : ArrayVec ℕ) → IsSized longest x.items → ForSome (Some x) (λ y. IsSized longest y.items)
one_sized longest x h y e = let f : x ≡ y = cc in subst (λ (z : ArrayVec ℕ). IsSized longest z.items) f h

pub kept_more : (c : Newest) (to : Side) (x : ArrayVec ℕ) → IsSized c.longest x.items → (side : Side) → ForSome (at (with_at c.kept to (Some x)) side) (λ y. IsSized c.longest y.items)
kept_more c A x h A = one_sized c.longest x h
kept_more c A x h B = c.sizes B
kept_more c B x h A = c.sizes A
kept_more c B x h B = one_sized c.longest x h

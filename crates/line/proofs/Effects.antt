-- What a channel's send and receive ensure, said as the line wants it.
use Rattle.std.proofs.Common.{◌≡◌, ℕ, ◌<◌, ◌≤◌, true, List, [], length, Some, None, Option, ap, subst, inl, inr, ⊎_elim}
use Rattle.nonce.specs.declared.side.Side.{Side}
use Rattle.channel.specs.Meaning.{Meaning}
use Rattle.channel.specs.Effects.{SentAs, Removed, ReceivedAs}
use Rattle.channel.specs.declared.sent.Sent.{Sent as Taking}
use Rattle.channel.specs.declared.sent.Sent.TheVariants.{Taken}
use Rattle.line.specs.Meaning.{Same, is_taken, Sent, CouldCome, removes, Got, came}

taken_is : (a : Taking) → a ≡ Taken → is_taken a ≡ true
taken_is a e = ap is_taken e

-- a send
pub sent_as : (m n : Meaning) (end : Side) (d : List ℕ) (a : Taking) → SentAs m n end d a → Sent m n end d (is_taken a)
sent_as m n end d a h =
    record {
      longest = h.longest;
      here = λ x y. ⊎_elim inl (λ z. inr (taken_is a z.0, z.1)) (h.here x y);
      there = h.there;
      adds = λ f l. let z = h.adds f l in (taken_is a z.taken, z.depth, z.here, z.there);
    }

-- what a call leaves as it was
pub same_state : {C : Type 0} (meaning : C → Meaning) (c c' : C) → c' ≡ c → Same (meaning c) (meaning c')
same_state meaning c c' e =
    record {
      longest = ap (λ x. (meaning x).longest) e;
      less = λ s d. subst (λ x. (meaning x).may s d) e;
      depth = ap (λ x. (meaning x).depth) e;
      waiting = λ s. ap (λ x. (meaning x).waiting s) e;
    }

gives : (m n : Meaning) (end : Side) (was is : List ℕ) (a : Option ℕ) → ReceivedAs m n end was is a → CouldCome m end (came is a)
gives m n end was is None h = tt
gives m n end was is (Some k) h = h.gives.could

removed : (m n : Meaning) (end : Side) (is : List ℕ) (a : Option ℕ) → Removed m n end is a → removes (m.waiting end) (came is a) (n.waiting end)
removed m n end is None h = h.here
removed m n end is (Some k) h = h.here

-- A receive into a buffer that the longest datagram fits into: what came is the front of what the buffer then holds.
pub received_as :
    {C : Type 0} (meaning : C → Meaning) (c c' : C) (end : Side) (was is : List ℕ) (a : Option ℕ)
    → (meaning c).longest ≤ length was
    → ReceivedAs (meaning c) (meaning c') end was is a
    → (0 < (meaning c).depth → (meaning c).waiting end ≡ [] → (a ≡ None) × (c' ≡ c))
    → Got (meaning c) (meaning c') end (came is a)
received_as meaning c c' end was is a room h idle =
    record {
      longest = h.longest;
      only = h.only;
      gives = gives (meaning c) (meaning c') end was is a h;
      none = λ l e. let z = idle l e in (ap (came is) z.0, same_state meaning c c' z.1);
      one = λ l b. let z = h.removes room l b in (removed (meaning c) (meaning c') end is a z, z.depth, z.there);
    }

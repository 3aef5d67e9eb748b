-- What a call of an end does to the end and to any channel, of which c is the state before and c' after.
use Rattle.std.specs.Prelude.{◌≡◌, ℕ, ◌<◌, ◌≤◌, List, [], length, IfSome, Some, None, Ok, Err, MatchBool, Option, Result, MatchOption}
use Rattle.nonce.specs.Nonces.{nonce_long}
use Rattle.nonce.specs.declared.side.Side.{Side}
use Rattle.nonce.specs.Sides.{other}
use Rattle.channel.specs.Behaviour.{Behaviour, Sends}
use Rattle.channel.specs.Meaning.{Meaning, Without}
use Rattle.channel.specs.declared.sent.Sent.{Sent}
use Rattle.channel.specs.declared.sent.Sent.TheVariants.{Taken}
use Rattle.calls.specs.declared.answers.Delivered.{Delivered}
use Rattle.calls.specs.declared.answers.Delivered.TheVariants.{Done, Again}
use Rattle.calls.specs.declared.refusals.AskRefusal.{AskRefusal}
use Rattle.calls.specs.declared.refusals.DeliverRefusal.{DeliverRefusal}
use Rattle.calls.specs.declared.refusals.DeliverRefusal.TheVariants.{NonceLength}
use Rattle.calls.specs.declared.refusals.ResendRefusal.{ResendRefusal}
use Rattle.law.specs.Ends.{End}
use Rattle.law.specs.Asks.{Asked, resend_asked}
use Rattle.law.specs.Deliveries.{Heard, refused, again, done, heard}

-- a datagram that waited at the side came, and waits once less
pub record TakenOut (before after : Meaning) (at : Side) (came : Option (List ℕ)) : Type 0 where
  pub here : MatchOption came ⊥ (λ d. Without (before.waiting at) d (after.waiting at))
  pub depth : after.depth ≡ before.depth
  pub there : after.waiting (other at) ≡ before.waiting (other at)

-- a datagram or nothing is taken at a side, by the promises of the channel's receive into a buffer that is long enough
pub record Comes {C : Type 0} (behaviour : Behaviour C) (c c' : C) (at : Side) (came : Option (List ℕ)) : Type 0 where
  pub longest : (behaviour.meaning c').longest ≡ (behaviour.meaning c).longest
  pub only : (e : Side) (d : List ℕ) → (behaviour.meaning c').may e d → (behaviour.meaning c).may e d
  pub could : IfSome came ((behaviour.meaning c).may at)
  pub removes :
      0 < length ((behaviour.meaning c).waiting at) → length ((behaviour.meaning c).waiting at) ≤ (behaviour.meaning c).depth →
      TakenOut (behaviour.meaning c) (behaviour.meaning c') at came
  pub idle : 0 < (behaviour.meaning c).depth → (behaviour.meaning c).waiting at ≡ [] → (came ≡ None) × (c' ≡ c)
  pub exactly : behaviour.gives c at came c'

-- Create, rekey, delete and check, by what is asked: a refusal leaves all as it was, else the request is sent to the peer.
abbrev pub Asks : {C : Type 0} → Behaviour C → End → C → Asked → Result Sent AskRefusal → End → C → Type 0
Asks behaviour e c (Err f) r e' c' = (r ≡ Err f) × (e' ≡ e) × (c' ≡ c)
Asks behaviour e c (Ok d) r e' c' =
    (s : Sent) × (r ≡ Ok s) × (e' ≡ d.end) × Sends behaviour c c' (other e.side) d.says s

-- resend, by the octets that are to be sent
abbrev pub Resent : {C : Type 0} → Behaviour C → End → C → Result (List ℕ) ResendRefusal → Result Sent ResendRefusal → End → C → Type 0
Resent behaviour e c (Err f) r e' c' = (r ≡ Err f) × (e' ≡ e) × (c' ≡ c)
Resent behaviour e c (Ok o) r e' c' = (s : Sent) × (r ≡ Ok s) × (e' ≡ e) × Sends behaviour c c' (other e.side) o s

abbrev pub Resends : {C : Type 0} → Behaviour C → End → C → Result Sent ResendRefusal → End → C → Type 0
Resends behaviour e c r e' c' = Resent behaviour e c (resend_asked e.outstanding) r e' c'

-- what goes out with something that was done, if anything
abbrev pub Replies : {C : Type 0} → Behaviour C → Side → C → Option (List ℕ) → Sent → C → Type 0
Replies behaviour s c None t c' = (t ≡ Taken) × (c' ≡ c)
Replies behaviour s c (Some o) t c' = Sends behaviour c c' (other s) o t

-- what is heard is acted on
abbrev pub Acts : {C : Type 0} → Behaviour C → End → C → Heard → Result Delivered DeliverRefusal → End → C → Type 0
Acts behaviour e c (refused f) r e' c' = (r ≡ Err f) × (e' ≡ e) × (c' ≡ c)
Acts behaviour e c (again o) r e' c' =
    (s : Sent) × (r ≡ Ok (Again s)) × (e' ≡ e) × Sends behaviour c c' (other e.side) o s
Acts behaviour e c (done d o) r e' c' =
    (s : Sent) × (r ≡ Ok (Done s)) × (e' ≡ d) × Replies behaviour e.side c o s c'

-- one datagram, or nothing, is taken from the channel, and the end acts on it
pub record Takes {C : Type 0} (behaviour : Behaviour C) (e : End) (c : C) (nonce : List ℕ) (r : Result Delivered DeliverRefusal) (e' : End) (c' : C) : Type 0 where
  pub came : Option (List ℕ)
  pub between : C
  pub comes : Comes behaviour c between e.side came
  pub acts : Acts behaviour e between (heard e nonce came) r e' c'

-- deliver: a nonce of a wrong length is refused before anything is taken
abbrev pub Delivers : {C : Type 0} → Behaviour C → End → C → List ℕ → Result Delivered DeliverRefusal → End → C → Type 0
Delivers behaviour e c nonce r e' c' =
    MatchBool (nonce_long nonce) (Takes behaviour e c nonce r e' c') ((r ≡ Err NonceLength) × (e' ≡ e) × (c' ≡ c))

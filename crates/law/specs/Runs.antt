-- Two ends over one channel, and the runs of calls on them.
use Rattle.std.specs.Prelude.{◌≡◌, ℕ, ◌^◌, ◌<◌, ◌≤◌, ◌⊎◌, List, [], ◌∷◌}
use Rattle.nonce.specs.declared.side.Side.{Side}
use Rattle.nonce.specs.declared.side.Side.TheVariants.{A, B}
use Rattle.nonce.specs.Sides.{other}
use Rattle.nonce.specs.Spis.{lowest_spi}
use Rattle.channel.specs.Behaviour.{Behaviour}
use Rattle.calls.specs.declared.moves.Call.{Call}
use Rattle.calls.specs.declared.moves.Call.TheVariants.{Create, Rekey, Delete, Check, Resend, Deliver}
use Rattle.calls.specs.declared.moves.Move.{Move}
use Rattle.calls.specs.declared.answers.Answer.{Answer}
use Rattle.calls.specs.declared.answers.Answer.TheVariants.{Asked, Resent, Heard}
use Rattle.calls.specs.declared.making.Making.{Making}
use Rattle.law.specs.Ends.{End, made_end}
use Rattle.law.specs.Asks as asks
use Rattle.law.specs.Effects.{Asks, Resends, Delivers}

-- both ends, and the channel
pub record World (C : Type 0) : Type 0 where
  pub a : End
  pub b : End
  pub channel : C

abbrev pub at : {C : Type 0} → Side → World C → End
at A w = w.a
at B w = w.b

-- what a call of an end does to it and to the channel
abbrev pub AskedAs : {C : Type 0} → Behaviour C → End → C → asks.Asked → Answer → End → C → Type 0
AskedAs behaviour e c d (Asked r) e' c' = Asks behaviour e c d r e' c'
AskedAs behaviour e c d (Resent r) e' c' = ⊥
AskedAs behaviour e c d (Heard r) e' c' = ⊥

abbrev pub ResentAs : {C : Type 0} → Behaviour C → End → C → Answer → End → C → Type 0
ResentAs behaviour e c (Asked r) e' c' = ⊥
ResentAs behaviour e c (Resent r) e' c' = Resends behaviour e c r e' c'
ResentAs behaviour e c (Heard r) e' c' = ⊥

abbrev pub HeardAs : {C : Type 0} → Behaviour C → End → C → List ℕ → Answer → End → C → Type 0
HeardAs behaviour e c n (Asked r) e' c' = ⊥
HeardAs behaviour e c n (Resent r) e' c' = ⊥
HeardAs behaviour e c n (Heard r) e' c' = Delivers behaviour e c n r e' c'

abbrev pub Called : {C : Type 0} → Behaviour C → End → C → Call (List ℕ) → Answer → End → C → Type 0
Called behaviour e c (Create n) r e' c' = AskedAs behaviour e c (asks.create_asked e n) r e' c'
Called behaviour e c (Rekey own n) r e' c' = AskedAs behaviour e c (asks.rekey_asked e own n) r e' c'
Called behaviour e c (Delete own) r e' c' = AskedAs behaviour e c (asks.delete_asked e own) r e' c'
Called behaviour e c Check r e' c' = AskedAs behaviour e c (asks.check_asked e) r e' c'
Called behaviour e c Resend r e' c' = ResentAs behaviour e c r e' c'
Called behaviour e c (Deliver n) r e' c' = HeardAs behaviour e c n r e' c'

-- a call on one side, with its answer, leads from one world to another: the other end stays as it is
pub record Step {C : Type 0} (behaviour : Behaviour C) (v : World C) (m : Move (List ℕ)) (r : Answer) (w : World C) : Type 0 where
  pub this : Called behaviour (at m.side v) v.channel m.call r (at m.side w) w.channel
  pub that : at (other m.side) w ≡ at (other m.side) v

-- calls one after the other, each with its answer
abbrev pub Run : {C : Type 0} → Behaviour C → World C → List (Move (List ℕ)) → List Answer → World C → Type 0
Run behaviour v [] [] w = v ≡ w
Run behaviour v [] (r ∷ rs) w = ⊥
Run behaviour v (m ∷ ms) [] w = ⊥
Run {C} behaviour v (m ∷ ms) (r ∷ rs) w = (u : World C) × Step behaviour v m r u × Run behaviour u ms rs w

-- the numbers of a making fit their fields, and no first SPI is reserved
pub record Fit (m : Making) : Type 0 where
  pub initiator : m.initiator < 2 ^ 64
  pub responder : m.responder < 2 ^ 64
  pub id_a : m.a.id < 2 ^ 32
  pub id_b : m.b.id < 2 ^ 32
  pub spi_a : m.a.spi < 2 ^ 32
  pub spi_b : m.b.spi < 2 ^ 32
  pub least_a : lowest_spi ≤ m.a.spi
  pub least_b : lowest_spi ≤ m.b.spi

-- nothing may come from a channel
abbrev pub Clean : {C : Type 0} → Behaviour C → C → Type 0
Clean behaviour c = (e : Side) (d : List ℕ) → (behaviour.meaning c).may e d → ⊥

-- both ends as they are made, over a channel from which nothing may come
pub record Start {C : Type 0} (behaviour : Behaviour C) (v : World C) : Type 0 where
  pub making : Making
  pub most_a : ℕ
  pub most_b : ℕ
  pub fit : Fit making
  pub a : v.a ≡ made_end making A most_a
  pub b : v.b ≡ made_end making B most_b
  pub clean : Clean behaviour v.channel

-- at some moment of the run
abbrev pub ever : {C : Type 0} (behaviour : Behaviour C) → (World C → Type 0) → (v : World C) (ms : List (Move (List ℕ))) (rs : List Answer) (w : World C) → Run behaviour v ms rs w → Type 0
ever behaviour F v [] [] w h = F v
ever behaviour F v [] (r ∷ rs) w h = ⊥
ever behaviour F v (m ∷ ms) [] w h = ⊥
ever behaviour F v (m ∷ ms) (r ∷ rs) w h = F v ⊎ ever behaviour F h.0 ms rs w h.2

-- Two ends and a channel: what a call does.
use Rattle.std.specs.Prelude.{◌≡◌, ℕ, suc, ◌<◌, ◌≤◌, Bool, true, false, List, [], ◌∷◌, Some, None, Option, ◌≢◌}
use Rattle.wire.specs.declared.message.Request.{Request}
use Rattle.wire.specs.declared.message.Response.{Response}
use Rattle.protocol.specs.Model.{Nonce, Ask}
use Rattle.protocol.specs.Node.{Bar, sense, Out, idle, asked, Node}
use Rattle.nonce.specs.declared.side.Side.{Side}
use Rattle.nonce.specs.declared.side.Side.TheVariants.{A, B}
use Rattle.nonce.specs.Sides.{other}
use Rattle.nonce.specs.Spis.{lowest_spi}
use Rattle.channel.specs.Meaning.{Meaning}
use Rattle.line.specs.Meaning.{Same, Sent, Got}
use Rattle.line.specs.Calls.{Want, Allowed, ask, settle, taken_as, wire, answer_wire, Msg, request, response, Coding}

pub data Call : Type 0 where
  asking : Want → Call
  resend : Call
  deliver : Nonce → Call

-- done, with whether the channel took what was sent; a stored reply sent again, likewise; refused; nothing came; not counted
pub data Answer : Type 0 where
  did again : Bool → Answer
  stopped nothing unused : Answer

abbrev pub OtherId : Out → ℕ → Type 0
OtherId idle i = Unit {0}
OtherId (asked j a) i = j ≡ i → ⊥

-- a message that does not count
abbrev pub Uncounted : Node → Option Msg → Type 0
Uncounted P None = Unit {0}
Uncounted P (Some (request i q)) = (i ≢ P.exp) × (suc i ≡ P.exp → P.reply ≡ None)
Uncounted P (Some (response i r)) = OtherId P.out i

-- what a call does to the end P of the side s and to the channel, of which c is the state
pub data Did {C : Type 0} (K : Coding) (meaning : C → Meaning) (s : Side) (P : Node) (c : C) : Call → Answer → Node → C → Type 0 where
  refuses : {x : Call} {c' : C} → Same (meaning c) (meaning c') → Did K meaning s P c x stopped P c'
  asks :
      {w : Want} {t : Bool} {P' : Node} {c' : C} (i : ℕ) (a : Ask)
      → Allowed K P w
      → ask P w ≡ Some P'
      → P'.out ≡ asked i a
      → Sent (meaning c) (meaning c') (other s) (K.enc s (request i (wire a))) t
      → Did K meaning s P c (asking w) (did t) P' c'
  resends :
      {t : Bool} {c' : C} (i : ℕ) (a : Ask)
      → P.out ≡ asked i a
      → Sent (meaning c) (meaning c') (other s) (K.enc s (request i (wire a))) t
      → Did K meaning s P c resend (did t) P c'
  gets_none : {n : Nonce} {c' : C} → Got (meaning c) (meaning c') s None → Did K meaning s P c (deliver n) nothing P c'
  ignores :
      {n : Nonce} {c' : C} (d : List ℕ)
      → Got (meaning c) (meaning c') s (Some d)
      → Uncounted P (K.dec (other s) d)
      → Did K meaning s P c (deliver n) unused P c'
  repeats :
      {n : Nonce} {t : Bool} {c' : C} (u : C) (d : List ℕ) (i : ℕ) (q : Request Nonce) (r : Response Nonce)
      → Got (meaning c) (meaning u) s (Some d)
      → K.dec (other s) d ≡ Some (request i q)
      → suc i ≡ P.exp
      → P.reply ≡ Some r
      → Sent (meaning u) (meaning c') (other s) (K.enc s (response i r)) t
      → Did K meaning s P c (deliver n) (again t) P c'
  answers :
      {n : Nonce} {t : Bool} {P' : Node} {c' : C} (u : C) (d : List ℕ) (i : ℕ) (q : Request Nonce) (bar : Option Bar) (r : Response Nonce)
      → Got (meaning c) (meaning u) s (Some d)
      → K.dec (other s) d ≡ Some (request i q)
      → i ≡ P.exp
      → K.fine n ≡ true
      → (bar ≡ None → P.spi < K.top)
      → P' ≡ answer_wire P n bar q
      → P'.reply ≡ Some r
      → Sent (meaning u) (meaning c') (other s) (K.enc s (response i r)) t
      → Did K meaning s P c (deliver n) (did t) P' c'
  settles :
      {n : Nonce} {P' : Node} {c' : C} (d : List ℕ) (i : ℕ) (a : Ask) (r : Response Nonce)
      → Got (meaning c) (meaning c') s (Some d)
      → K.dec (other s) d ≡ Some (response i r)
      → P.out ≡ asked i a
      → P' ≡ settle P a (taken_as P.rows (sense r))
      → P'.out ≡ idle
      → Did K meaning s P c (deliver n) (did true) P' c'
  follows :
      {n : Nonce} {t : Bool} {P' : Node} {c' : C} (u : C) (d : List ℕ) (i : ℕ) (a : Ask) (r : Response Nonce) (j : ℕ) (b : Ask)
      → Got (meaning c) (meaning u) s (Some d)
      → K.dec (other s) d ≡ Some (response i r)
      → P.out ≡ asked i a
      → P' ≡ settle P a (taken_as P.rows (sense r))
      → P'.out ≡ asked j b
      → Sent (meaning u) (meaning c') (other s) (K.enc s (request j (wire b))) t
      → Did K meaning s P c (deliver n) (did t) P' c'

pub record World (C : Type 0) : Type 0 where
  pub a : Node
  pub b : Node
  pub ch : C

pub record Move : Type 0 where
  pub side : Side
  pub call : Call

-- a call on one side: the other end stays
pub record One {C : Type 0} (K : Coding) (meaning : C → Meaning) (s : Side) (P Q : Node) (c : C) (x : Call) (r : Answer) (P' Q' : Node) (c' : C) : Type 0 where
  pub this : Did K meaning s P c x r P' c'
  pub that : Q' ≡ Q

abbrev pub StepOn : {C : Type 0} → Coding → (C → Meaning) → Side → World C → Call → Answer → World C → Type 0
StepOn K meaning A v x r w = One K meaning A v.a v.b v.ch x r w.a w.b w.ch
StepOn K meaning B v x r w = One K meaning B v.b v.a v.ch x r w.b w.a w.ch

abbrev pub Step : {C : Type 0} → Coding → (C → Meaning) → World C → Move → Answer → World C → Type 0
Step K meaning v m r w = StepOn K meaning m.side v m.call r w

abbrev pub Run : {C : Type 0} → Coding → (C → Meaning) → World C → List Move → List Answer → World C → Type 0
Run K meaning v [] [] w = v ≡ w
Run K meaning v [] (r ∷ rs) w = ⊥
Run K meaning v (x ∷ xs) [] w = ⊥
Run {C} K meaning v (x ∷ xs) (r ∷ rs) w = (u : World C) × Step K meaning v x r u × Run K meaning u xs rs w

-- an end as it is made
abbrev pub made_end : Bool → ℕ → ℕ → ℕ → Node
made_end w spi next exp =
    record { first = w; rows = []; spi = spi; next = next; exp = exp; reply = None; out = idle }

-- both ends as they are made, and nothing may come
pub record Start {C : Type 0} (K : Coding) (meaning : C → Meaning) (v : World C) : Type 0 where
  pub id_a : ℕ
  pub id_b : ℕ
  pub within_a : id_a ≤ K.top
  pub within_b : id_b ≤ K.top
  pub spi_a : ℕ
  pub spi_b : ℕ
  pub room_a : spi_a ≤ K.top
  pub room_b : spi_b ≤ K.top
  pub least_a : lowest_spi ≤ spi_a
  pub least_b : lowest_spi ≤ spi_b
  pub a_made : v.a ≡ made_end true spi_a id_a id_b
  pub b_made : v.b ≡ made_end false spi_b id_b id_a
  pub clean : (e : Side) (d : List ℕ) → (meaning v.ch).may e d → ⊥

-- What holds of two ends and of what may come to each.
use Rattle.std.specs.Prelude.{◌≡◌, ℕ, suc, ◌<◌, ◌≤◌, List, Some, None, Option}
use Rattle.wire.specs.declared.message.Request.{Request}
use Rattle.wire.specs.declared.message.Response.{Response}
use Rattle.protocol.specs.Model.{Nonce, Ask, create, rekey, delete, check, Reply, made, no_such, refused, done, Link, quiet, sent, answered, plain}
use Rattle.protocol.specs.Rows.{ordered}
use Rattle.protocol.specs.Node.{stored, Out, idle, asked, Node, InStep}
use Rattle.nonce.specs.declared.side.Side.{Side}
use Rattle.nonce.specs.Sides.{other}
use Rattle.nonce.specs.Spis.{lowest_spi}
use Rattle.line.specs.Calls.{wire, Msg, request, response, GoodReply, Coding, Good}

-- the outstanding request is the one with this ID and these words
abbrev pub AsksNow : Out → ℕ → Request Nonce → Type 0
AsksNow idle i q = ⊥
AsksNow (asked j a) i q = (j ≡ i) × (q ≡ wire a)

-- an end that waits for this ID: the peer has answered it, with this reply
abbrev pub SettlesBy : Out → ℕ → ℕ → Option (Response Nonce) → Response Nonce → Type 0
SettlesBy idle i e said r = Unit {0}
SettlesBy (asked j a) i e said r = j ≡ i → (e ≡ suc i) × (said ≡ Some r)

-- a message from P that may come to Q
abbrev pub OnWay : Node → Node → Msg → Type 0
OnWay P Q (request i q) = (i < P.next) × (i ≡ Q.exp → AsksNow P.out i q)
OnWay P Q (response i r) = (i < Q.next) × SettlesBy Q.out i P.exp P.reply r

abbrev pub Line : Coding → Side → Node → Node → (List ℕ → Type 0) → Type 0
Line K s P Q may = (d : List ℕ) → may d → (m : Msg) × (d ≡ K.enc s m) × OnWay P Q m × Good K m

-- a rekey has an ID left for its delete
abbrev pub spare : ℕ → ℕ → Ask → Type 0
spare top next (create o d) = Unit {0}
spare top next (rekey o d c) = next < top
spare top next (delete x) = Unit {0}
spare top next check = Unit {0}

abbrev pub OutSane : Coding → ℕ → Out → Type 0
OutSane K next idle = Unit {0}
OutSane K next (asked i a) = Good K (request i (wire a)) × spare K.top next a

-- no SPI that was given out is reserved
abbrev pub high : Reply → Type 0
high (made k n) = lowest_spi ≤ k
high no_such = Unit {0}
high refused = Unit {0}
high done = Unit {0}

abbrev pub GoodStored : Coding → Option (Response Nonce) → Type 0
GoodStored K None = Unit {0}
GoodStored K (Some r) = GoodReply K.top K.fine r

-- what an end holds can be encoded
pub record Sane (K : Coding) (P : Node) : Type 0 where
  pub spi : P.spi ≤ K.top
  pub least : lowest_spi ≤ P.spi
  pub next : P.next ≤ K.top
  pub out : OutSane K P.next P.out
  pub reply : GoodStored K P.reply
  pub made_high : high (stored P.reply)

-- the ends P, of the side s, and Q, and what may come to each
pub record Between (K : Coding) (s : Side) (P Q : Node) (to_p to_q : List ℕ → Type 0) : Type 0 where
  pub p_steps : InStep P Q
  pub q_steps : InStep Q P
  pub p_sane : Sane K P
  pub q_sane : Sane K Q
  pub p_rows : ordered P.rows
  pub q_rows : ordered Q.rows
  pub from_p : Line K s P Q to_q
  pub from_q : Line K (other s) Q P to_p

-- a reply fits its request, and a create has no parent
abbrev pub FitAsk : Ask → Type 0
FitAsk (create o d) = d ≡ plain d.ni
FitAsk (rekey o d c) = Unit {0}
FitAsk (delete x) = Unit {0}
FitAsk check = Unit {0}

abbrev pub FitReply : Ask → Reply → Type 0
FitReply (create o d) (made k n) = Unit {0}
FitReply (create o d) no_such = ⊥
FitReply (create o d) refused = Unit {0}
FitReply (create o d) done = ⊥
FitReply (rekey o d c) (made k n) = Unit {0}
FitReply (rekey o d c) no_such = Unit {0}
FitReply (rekey o d c) refused = Unit {0}
FitReply (rekey o d c) done = ⊥
FitReply (delete x) r = Unit {0}
FitReply check r = Unit {0}

abbrev pub fits : Link → Type 0
fits quiet = Unit {0}
fits (sent a) = FitAsk a
fits (answered a r) = FitAsk a × FitReply a r

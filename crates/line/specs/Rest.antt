-- Over a channel that holds two messages for each end, both ends come to rest.
use Rattle.std.specs.Prelude.{◌≡◌, ℕ, suc, ◌+◌, ◌<◌, ◌≤◌, Bool, true, false, cond, ◌⊎◌, List, [], ◌∷◌, length, Some, None, Option, ◌==◌}
use Rattle.wire.specs.declared.message.Request.{Request}
use Rattle.wire.specs.declared.message.Request.TheVariants as requests
use Rattle.wire.specs.declared.message.Response.{Response}
use Rattle.protocol.specs.Model.{Nonce, Link, quiet, sent, answered}
use Rattle.protocol.specs.Node.{Out, idle, asked, Node, link_of}
use Rattle.nonce.specs.declared.side.Side.{Side}
use Rattle.nonce.specs.declared.side.Side.TheVariants.{A, B}
use Rattle.nonce.specs.Sides.{other}
use Rattle.channel.specs.Meaning.{Meaning}
use Rattle.line.specs.Calls.{wire, Msg, request, response, Coding, Good}
use Rattle.line.specs.World.{Call, asking, resend, deliver, Answer, did, again, stopped, nothing, unused, Move}

-- what waits is x and y, each once, where they are there
abbrev pub waits : List (List ℕ) → Option (List ℕ) → Option (List ℕ) → Type 0
waits ws None None = ws ≡ []
waits ws None (Some y) = ws ≡ y ∷ []
waits ws (Some x) None = ws ≡ x ∷ []
waits ws (Some x) (Some y) = (ws ≡ x ∷ (y ∷ [])) ⊎ (ws ≡ y ∷ (x ∷ []))

abbrev pub coded : Coding → Side → Option Msg → Option (List ℕ)
coded K s None = None
coded K s (Some m) = Some (K.enc s m)

-- a request that the peer, which expects e, has not answered
abbrev pub due_of : Out → ℕ → Option Msg
due_of idle e = None
due_of (asked i a) e = cond (e == i) (Some (request i (wire a))) None

-- a reply of the peer, which expects e, that has not been settled
abbrev pub owed_to : Out → ℕ → Option (Response Nonce) → Option Msg
owed_to idle e r = None
owed_to (asked i a) e None = None
owed_to (asked i a) e (Some r) = cond (e == suc i) (Some (response i r)) None

abbrev pub due : Node → Node → Option Msg
due P Q = due_of P.out Q.exp

abbrev pub owed : Node → Node → Option Msg
owed P Q = owed_to Q.out P.exp P.reply

-- what waits for each end: x and y from the end of the side s, v and w from the other
pub record Held (K : Coding) (wide : ℕ) (s : Side) (m : Meaning) (x y v w : Option Msg) : Type 0 where
  pub deep : 2 ≤ m.depth
  pub long : wide ≤ m.longest
  pub there : waits (m.waiting (other s)) (coded K s x) (coded K s y)
  pub here : waits (m.waiting s) (coded K (other s) v) (coded K (other s) w)

-- exactly the unanswered requests and the unsettled replies wait
abbrev pub Holding : Coding → ℕ → Side → Node → Node → Meaning → Type 0
Holding K wide s P Q m = Held K wide s m (due P Q) (owed P Q) (due Q P) (owed Q P)

-- every message fits
abbrev pub Short : Coding → ℕ → Type 0
Short K wide = (s : Side) (m : Msg) → Good K m → (1 ≤ length (K.enc s m)) × (length (K.enc s m) ≤ wide)

-- how many deliveries a request still wants
abbrev pub heavy : Request Nonce → ℕ
heavy (requests.Create o n) = 0
heavy (requests.Rekey x o n) = 2
heavy (requests.Delete x) = 0
heavy requests.Empty = 0

abbrev pub weight : Link → ℕ
weight quiet = 0
weight (sent a) = 2 + heavy (wire a)
weight (answered a r) = 1 + heavy (wire a)

abbrev pub total : Node → Node → ℕ
total P Q = weight (link_of P Q) + weight (link_of Q P)

-- rounds since the last ask that was taken, and whether a delivery to A has begun the next
pub record Tally : Type 0 where
  pub rounds : ℕ
  pub half : Bool

abbrev pub delivered : Tally → Side → Tally
delivered t A = record { rounds = t.rounds; half = true }
delivered t B = record { rounds = cond t.half (suc t.rounds) t.rounds; half = false }

abbrev pub tallied : Tally → Side → Call → Answer → Tally
tallied t s (asking w) (did b) = record { rounds = 0; half = false }
tallied t s (asking w) (again b) = t
tallied t s (asking w) stopped = t
tallied t s (asking w) nothing = t
tallied t s (asking w) unused = t
tallied t s resend r = t
tallied t s (deliver n) (did b) = delivered t s
tallied t s (deliver n) (again b) = delivered t s
tallied t s (deliver n) stopped = t
tallied t s (deliver n) nothing = delivered t s
tallied t s (deliver n) unused = delivered t s

abbrev pub tally : Tally → List Move → List Answer → Tally
tally t [] rs = t
tally t (x ∷ xs) [] = t
tally t (x ∷ xs) (r ∷ rs) = tally (tallied t x.side x.call r) xs rs

-- the rounds that have followed the last ask that was taken
abbrev pub rounds_since_ask : List Move → List Answer → ℕ
rounds_since_ask xs rs = (tally (record { rounds = 0; half = false }) xs rs).rounds

-- nothing is sent again at this call: it is no resend, or one that is refused
abbrev pub not_resent : Call → Answer → Type 0
not_resent (asking w) r = Unit {0}
not_resent resend r = r ≡ stopped
not_resent (deliver n) r = Unit {0}

abbrev pub none_resent : List Move → List Answer → Type 0
none_resent [] rs = Unit {0}
none_resent (x ∷ xs) [] = Unit {0}
none_resent (x ∷ xs) (r ∷ rs) = not_resent x.call r × none_resent xs rs

pub record Deep (wide : ℕ) (m : Meaning) : Type 0 where
  pub deep : 2 ≤ m.depth
  pub long : wide ≤ m.longest

-- nothing has changed for the count: the weight, and what waits
pub record Still (m m' : Meaning) (t t' : ℕ) : Type 0 where
  pub weighs : t' ≡ t
  pub waiting : (e : Side) → m'.waiting e ≡ m.waiting e

-- a delivery to the side s: the weight falls, unless nothing waited
abbrev pub Fell : Side → Meaning → Meaning → ℕ → ℕ → Type 0
Fell s m m' t t' = (t' < t) ⊎ (Still m m' t t' × (m.waiting s ≡ []))

abbrev pub effect : Side → Call → Answer → Meaning → Meaning → ℕ → ℕ → Type 0
effect s (asking w) (did b) m m' t t' = Unit {0}
effect s (asking w) (again b) m m' t t' = Still m m' t t'
effect s (asking w) stopped m m' t t' = Still m m' t t'
effect s (asking w) nothing m m' t t' = Still m m' t t'
effect s (asking w) unused m m' t t' = Still m m' t t'
effect s resend r m m' t t' = Still m m' t t'
effect s (deliver n) (did b) m m' t t' = Fell s m m' t t'
effect s (deliver n) (again b) m m' t t' = Fell s m m' t t'
effect s (deliver n) stopped m m' t t' = Still m m' t t'
effect s (deliver n) nothing m m' t t' = Fell s m m' t t'
effect s (deliver n) unused m m' t t' = Fell s m m' t t'

-- while t is the weight, and ws waits for A: how far a count has come
abbrev pub pace : ℕ → Bool → ℕ → List (List ℕ) → Type 0
pace n false t ws = (t ≡ 0) ⊎ (t + n ≤ 8)
pace n true t ws = (t ≡ 0) ⊎ ((t + suc n ≤ 8) ⊎ ((t + n ≤ 8) × (ws ≡ [])))

-- The law over runs: mirrors, succession and rest.
use Rattle.std.specs.Prelude.{◌≡◌, ℕ, zero, suc, ◌≤◌, Bool, true, false, cond, ◌⊎◌, List, [], ◌∷◌, ◌++◌, take, Some, None, Ok, Err, Option, refl}
use Rattle.nonce.specs.Order.{lowest_of, loser_by}
use Rattle.nonce.specs.declared.side.Side.{Side}
use Rattle.nonce.specs.declared.side.Side.TheVariants.{A, B}
use Rattle.nonce.specs.Sides.{other}
use Rattle.book.specs.Rows.{kept_octets, mirrors}
use Rattle.book.specs.Shelves.{lookup}
use Rattle.book.specs.declared.row.Beginner.TheVariants.{Peer}
use Rattle.book.specs.declared.row.Row.{Row}
use Rattle.channel.specs.Behaviour.{Behaviour}
use Rattle.channel.specs.Meaning.{Meaning}
use Rattle.calls.specs.declared.moves.Call.{Call}
use Rattle.calls.specs.declared.moves.Call.TheVariants.{Create, Rekey, Delete, Check, Resend, Deliver}
use Rattle.calls.specs.declared.moves.Move.{Move}
use Rattle.calls.specs.declared.answers.Answer.{Answer}
use Rattle.calls.specs.declared.answers.Answer.TheVariants.{Asked, Resent, Heard}
use Rattle.calls.specs.declared.refusals.DeliverRefusal.{DeliverRefusal}
use Rattle.calls.specs.declared.refusals.DeliverRefusal.TheVariants as refusal
use Rattle.law.specs.Runs.{World, at, Run, Start, ever}

-- the row of an own SPI in the book of a side
abbrev pub row_of : {C : Type 0} → Side → World C → ℕ → Option Row
row_of s w own = lookup (at s w).shelf.rows own

-- both ends are quiet
pub record Quiet {C : Type 0} (w : World C) : Type 0 where
  pub a : w.a.outstanding ≡ None
  pub b : w.b.outstanding ≡ None

-- every row in the book of a side has its mirror in the other book
abbrev pub Mirrored : {C : Type 0} → Side → World C → Type 0
Mirrored s w =
    (own : ℕ) (r : Row) → row_of s w own ≡ Some r → (m : Row) × (row_of (other s) w r.peer ≡ Some m) × (mirrors r m ≡ true)

-- The book of the side s has, under this own SPI, the row r of an SA that its peer began: s answered the peer's create or rekey with it.
pub record MadeAt {C : Type 0} (s : Side) (own : ℕ) (r : Row) (w : World C) : Type 0 where
  pub row : row_of s w own ≡ Some r
  pub began : r.began ≡ Peer

-- the SA that s knows by own and its peer by peer is in neither book
pub record InNeither {C : Type 0} (s : Side) (own peer : ℕ) (w : World C) : Type 0 where
  pub here : row_of s w own ≡ None
  pub there : row_of (other s) w peer ≡ None

-- the SA that s knows by own and its peer by peer is in a book, and in both
abbrev pub InBook : {C : Type 0} → Side → (own peer : ℕ) → World C → Type 0
InBook s own peer w = (r : Row) × (row_of s w own ≡ Some r) × (r.peer ≡ peer)

pub record InBoth {C : Type 0} (s : Side) (own peer : ℕ) (w : World C) : Type 0 where
  pub here : InBook s own peer w
  pub there : InBook (other s) peer own w

-- the row is of an SA that was made to replace another
abbrev pub Replaces : Row → Type 0
Replaces r = r.parent.own ≡ 0 → ⊥

-- Whose new SA loses, where s answered the peer's rekey with r and the peer that of s with t.
abbrev pub loser_of : Side → Row → Row → Side
loser_of A r t = loser_by (lowest_of (kept_octets t.ni) (kept_octets t.nr) (kept_octets r.ni) (kept_octets r.nr))
loser_of B r t = loser_by (lowest_of (kept_octets r.ni) (kept_octets r.nr) (kept_octets t.ni) (kept_octets t.nr))

-- r, which s made for its peer, and t, which the peer made for s, replace one SA, and r loses
pub record Loses (s : Side) (r t : Row) : Type 0 where
  pub here : Replaces r
  pub there : Replaces t
  pub one : r.parent.own ≡ t.parent.peer
  pub same : r.parent.peer ≡ t.parent.own
  pub loser : loser_of s r t ≡ other s

-- an ask is accepted when it is done, taken by the channel or not
abbrev pub Accepted : Answer → Type 0
Accepted (Asked (Ok s)) = Unit {0}
Accepted (Asked (Err e)) = ⊥
Accepted (Resent r) = ⊥
Accepted (Heard r) = ⊥

-- the call asks to rekey or to delete the SA of an own SPI
abbrev pub Names : Call (List ℕ) → ℕ → Type 0
Names (Create n) own = ⊥
Names (Rekey k n) own = k ≡ own
Names (Delete k) own = k ≡ own
Names Check own = ⊥
Names Resend own = ⊥
Names (Deliver n) own = ⊥

-- in the run, the end of a side accepted a rekey or a delete of the SA of its own SPI
abbrev pub GivenUpBy : List (Move (List ℕ)) → List Answer → Side → ℕ → Type 0
GivenUpBy [] rs s own = ⊥
GivenUpBy (m ∷ ms) [] s own = ⊥
GivenUpBy (m ∷ ms) (r ∷ rs) s own = ((m.side ≡ s) × Names m.call own × Accepted r) ⊎ GivenUpBy ms rs s own

-- What has become, once both ends are quiet, of the SAs that the end of the side s made for its peer. Ever is of the moments of the run, given_up of its accepted asks.
pub record Succession {C : Type 0} (s : Side) (ever_in : (World C → Type 0) → Type 0) (given_up : Side → ℕ → Type 0) (w : World C) : Type 0 where
  -- an SA that was rekeyed is in neither book
  pub rekeyed :
      (own : ℕ) (r : Row) → ever_in (MadeAt s own r) → Replaces r → InNeither s r.parent.own r.parent.peer w
  -- an end answers at most one rekey of an SA with a new one
  pub once :
      (own other_own : ℕ) (r t : Row) → ever_in (MadeAt s own r) → ever_in (MadeAt s other_own t) → Replaces r →
      r.parent.own ≡ t.parent.own → own ≡ other_own
  -- of two new SAs for one the loser is in neither book
  pub loser :
      (own their_own : ℕ) (r t : Row) → ever_in (MadeAt s own r) → ever_in (MadeAt (other s) their_own t) → Loses s r t →
      InNeither s own r.peer w
  -- the other, or the only one, is in both, unless an end accepted a rekey or a delete of it
  pub successor :
      (own : ℕ) (r : Row) → ever_in (MadeAt s own r) →
      ((their_own : ℕ) (t : Row) → ever_in (MadeAt (other s) their_own t) → Loses s r t → ⊥) → (given_up s own → ⊥) →
      (given_up (other s) r.peer → ⊥) → InBoth s own r.peer w

-- Rounds since the last accepted ask, and whether a delivery to A has begun the next one. A round is a delivery to A and then one
-- to B, neither refused for its nonce; other calls may lie between.
pub record Tally : Type 0 where
  pub rounds : ℕ
  pub half : Bool

abbrev pub delivered : Tally → Side → Tally
delivered t A = record { rounds = t.rounds; half = true }
delivered t B = record { rounds = cond t.half (suc t.rounds) t.rounds; half = false }

abbrev pub refused_by : DeliverRefusal → Tally → Tally → Tally
refused_by refusal.NonceLength t u = t
refused_by refusal.NothingCame t u = u
refused_by (refusal.NoMessage f) t u = u
refused_by refusal.NotThePeer t u = u
refused_by refusal.WrongId t u = u

abbrev pub tallied : Tally → Side → Answer → Tally
tallied t s (Asked (Ok a)) = record { rounds = 0; half = false }
tallied t s (Asked (Err f)) = t
tallied t s (Resent r) = t
tallied t s (Heard (Ok d)) = delivered t s
tallied t s (Heard (Err f)) = refused_by f t (delivered t s)

abbrev pub tally : Tally → List (Move (List ℕ)) → List Answer → Tally
tally t [] rs = t
tally t (m ∷ ms) [] = t
tally t (m ∷ ms) (r ∷ rs) = tally (tallied t m.side r) ms rs

abbrev pub rounds_since_ask : List (Move (List ℕ)) → List Answer → ℕ
rounds_since_ask ms rs = (tally (record { rounds = 0; half = false }) ms rs).rounds

-- whether a request was sent again at this call: a resend that was not refused
abbrev pub is_resent : Answer → Bool
is_resent (Asked r) = false
is_resent (Resent (Ok s)) = true
is_resent (Resent (Err e)) = false
is_resent (Heard r) = false

abbrev pub NothingResent : List Answer → Type 0
NothingResent [] = Unit {0}
NothingResent (r ∷ rs) = (is_resent r ≡ false) × NothingResent rs

-- a channel that keeps two messages for each end
pub record HoldsTwo (m : Meaning) : Type 0 where
  pub deep : 2 ≤ m.depth
  pub long : 160 ≤ m.longest

-- The law at the last moment of a run.
pub record Law {C : Type 0} (behaviour : Behaviour C) (v : World C) (ms : List (Move (List ℕ))) (rs : List Answer) (w : World C) (h : Run behaviour v ms rs w) : Type 0 where
  -- whenever both ends are quiet, every row of either book has its mirror in the other
  pub mirrors : Quiet w → (s : Side) → Mirrored s w
  -- and what was rekeyed, and the loser of a collision, is in neither book; every successor is in both, unless it was given up
  pub succession : Quiet w → (s : Side) → Succession s (λ F. ever behaviour F v ms rs w h) (GivenUpBy ms rs) w
  -- where nothing was sent again, over a channel that holds two messages for each end, both are quiet eight rounds after the last accepted ask
  pub rest : HoldsTwo (behaviour.meaning v.channel) → NothingResent rs → 8 ≤ rounds_since_ask ms rs → Quiet w

-- the first calls of a run
pub record Front {C : Type 0} (behaviour : Behaviour C) (v : World C) (ms : List (Move (List ℕ))) (rs : List Answer) : Type 0 where
  pub world : World C
  pub run : Run behaviour v ms rs world

abbrev pub front : {C : Type 0} (behaviour : Behaviour C) (n : ℕ) (v : World C) (ms : List (Move (List ℕ))) (rs : List Answer) (w : World C) → Run behaviour v ms rs w → Front behaviour v (take n ms) (take n rs)
front behaviour zero v ms rs w h = record { world = v; run = refl }
front behaviour (suc n) v [] [] w h = record { world = w; run = h }
front behaviour (suc n) v [] (r ∷ rs) w h = elim h [ ]
front behaviour (suc n) v (m ∷ ms) [] w h = elim h [ ]
front behaviour (suc n) v (m ∷ ms) (r ∷ rs) w h =
    let f = front behaviour n h.0 ms rs w h.2 in record { world = f.world; run = (h.0, h.1, f.run) }

-- What happened is a run and, where it began with two ends as they are made over a channel from which nothing may come, the law holds at each of its moments.
pub record Lawful {C : Type 0} (behaviour : Behaviour C) (v : World C) (ms : List (Move (List ℕ))) (rs : List Answer) (w : World C) : Type 0 where
  pub run : Run behaviour v ms rs w
  pub law :
      Start behaviour v → (n : ℕ) →
      Law behaviour v (take n ms) (take n rs) (front behaviour n v ms rs w run).world (front behaviour n v ms rs w run).run

-- over a channel of this behaviour, whatever happens is lawful
abbrev pub KeepsLaw : {C : Type 0} → Behaviour C → Type 0
KeepsLaw {C} behaviour =
    (v : World C) (ms : List (Move (List ℕ))) (rs : List Answer) (w : World C) → Run behaviour v ms rs w → Lawful behaviour v ms rs w

-- the behaviour of this meaning that leaves both relations open: its runs are all that the meaning allows
abbrev pub left_open : {C : Type 0} → (C → Meaning) → Behaviour C
left_open meaning = record {
  meaning = meaning;
  sends = λ c to octets answer c'. Unit {0};
  gives = λ c side came c'. Unit {0};
}

-- Calls that lead from u to w, after whatever was called before: all of it together is lawful.
abbrev pub GoesOn : {C : Type 0} → Behaviour C → World C → List (Move (List ℕ)) → List Answer → World C → Type 0
GoesOn {C} behaviour u ms rs w =
    (v : World C) (before : List (Move (List ℕ))) (said : List Answer) → Run behaviour v before said u →
    Lawful behaviour v (before ++ ms) (said ++ rs) w

-- The law as a whole, at every moment of a run.
use Rattle.std.specs.Prelude.{◌≡◌, ℕ, zero, suc, ◌≤◌, true, false, List, [], ◌∷◌, take, refl}
use Rattle.protocol.specs.Node.{idle}
use Rattle.nonce.specs.declared.side.Side.TheVariants.{A, B}
use Rattle.channel.specs.Meaning.{Meaning, Sound}
use Rattle.line.specs.Calls.{Coding}
use Rattle.line.specs.World.{World, Move, Answer, Run, Start}
use Rattle.line.specs.History.{ever, GivenUpBy}
use Rattle.line.specs.Rest.{Short, none_resent, rounds_since_ask, Deep}
use Rattle.line.specs.Laws.{Mirrors, Succeeds}

pub record Quiet {C : Type 0} (w : World C) : Type 0 where
  pub a : w.a.out ≡ idle
  pub b : w.b.out ≡ idle

-- the law at the end of a run
pub record Law {C : Type 0} (K : Coding) (wide : ℕ) (meaning : C → Meaning) (v : World C) (xs : List Move) (rs : List Answer) (w : World C) (h : Run K meaning v xs rs w) : Type 0 where
  pub mirrors : Mirrors w
  pub made_by_a : Quiet w → Succeeds (λ (u : World C). u.a) (λ (u : World C). u.b) false A B (λ F. ever K meaning F v xs rs w h) (GivenUpBy xs rs) w
  pub made_by_b : Quiet w → Succeeds (λ (u : World C). u.b) (λ (u : World C). u.a) true B A (λ F. ever K meaning F v xs rs w h) (GivenUpBy xs rs) w
  pub rest : Sound (meaning v.ch) → Deep wide (meaning v.ch) → none_resent xs rs → 8 ≤ rounds_since_ask xs rs → Quiet w

-- the first n calls of a run
pub record Front {C : Type 0} (K : Coding) (meaning : C → Meaning) (v : World C) (xs : List Move) (rs : List Answer) : Type 0 where
  pub world : World C
  pub run : Run K meaning v xs rs world

abbrev pub front : {C : Type 0} (K : Coding) (meaning : C → Meaning) (n : ℕ) (v : World C) (xs : List Move) (rs : List Answer) (w : World C) → Run K meaning v xs rs w → Front K meaning v (take n xs) (take n rs)
front K meaning zero v xs rs w h = record { world = v; run = refl }
front K meaning (suc n) v [] [] w h = record { world = w; run = h }
front K meaning (suc n) v [] (r ∷ rs) w h = elim h [ ]
front K meaning (suc n) v (x ∷ xs) [] w h = elim h [ ]
front K meaning (suc n) v (x ∷ xs) (r ∷ rs) w h =
    let f = front K meaning n h.0 xs rs w h.2 in record { world = f.world; run = (h.0, h.1, f.run) }

-- a run, and where it began with two ends as they are made: the law after each of its first n calls
pub record Lawful {C : Type 0} (K : Coding) (wide : ℕ) (meaning : C → Meaning) (v : World C) (xs : List Move) (rs : List Answer) (w : World C) : Type 0 where
  pub run : Run K meaning v xs rs w
  pub law : Start K meaning v → (n : ℕ) → Law K wide meaning v (take n xs) (take n rs) (front K meaning n v xs rs w run).world (front K meaning n v xs rs w run).run

-- over this channel, for every coding whose messages have 1 to wide octets: every run keeps the law at every moment
abbrev pub KeepsLaw : {C : Type 0} → (C → Meaning) → Type 0
KeepsLaw {C} meaning =
    (K : Coding) (wide : ℕ) → Short K wide
    → (v : World C) (xs : List Move) (rs : List Answer) (w : World C)
    → Run K meaning v xs rs w
    → Lawful K wide meaning v xs rs w

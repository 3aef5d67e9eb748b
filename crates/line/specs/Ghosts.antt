-- What no code holds, and how it grows.
use Rattle.std.specs.Prelude.{◌≡◌, ℕ, false, ◌⊎◌, Some, None}
use Rattle.protocol.specs.Model.{St, Sa, live, kept, given_up}
use Rattle.protocol.specs.Rows.{lookup}
use Rattle.protocol.specs.Law.{State}
use Rattle.protocol.specs.Node.{Ghost, Node, end_of}
use Rattle.line.specs.Calls.{names}
use Rattle.line.specs.World.{Call, asking, resend, deliver, Answer, did, again, stopped, nothing, unused}

abbrev pub state : Ghost → Ghost → Node → Node → State
state g h P Q = record { a = end_of g P Q; b = end_of h Q P }

-- the book of P has the row k of the SA s, which the peer began
pub record Has (P : Node) (k : ℕ) (s : Sa) : Type 0 where
  pub st : St
  pub row : lookup P.rows k ≡ Some (live st s)
  pub theirs : s.mine ≡ false

-- the call is an ask, taken, to rekey or delete the SA of the own SPI k
abbrev pub GivesUp : Call → Answer → ℕ → Type 0
GivesUp (asking w) (did t) k = names w k
GivesUp (asking w) (again t) k = ⊥
GivesUp (asking w) stopped k = ⊥
GivesUp (asking w) nothing k = ⊥
GivesUp (asking w) unused k = ⊥
GivesUp resend r k = ⊥
GivesUp (deliver n) r k = ⊥

-- what an end has learnt at a call
pub record Learnt (named : ℕ → Type 0) (g g' : Ghost) (P' : Node) : Type 0 where
  pub keeps : (k : ℕ) (s : Sa) → g.born_here k ≡ Some s → g'.born_here k ≡ Some s
  pub only : (k : ℕ) (s : Sa) → g'.born_here k ≡ Some s → (g.born_here k ≡ Some s) ⊎ Has P' k s
  pub gave : (k : ℕ) → g'.given k ≡ given_up → (g.given k ≡ given_up) ⊎ named k

abbrev pub blank : Ghost
blank = record { born_here = λ _. None; given = λ _. kept }

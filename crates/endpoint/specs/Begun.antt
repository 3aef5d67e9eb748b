-- An ask that has begun: what it sends is outstanding, and has not gone out yet.
use Rattle.std.specs.Prelude.{◌≡◌, ℕ, List, [], Some, None, Ok, Err, Option, Result}
use Rattle.calls.specs.declared.refusals.AskRefusal.{AskRefusal}
use Rattle.law.specs.Ends.{End, Outstanding}
use Rattle.law.specs.Asks.{Asked}

abbrev pub outstanding_octets : Option Outstanding → List ℕ
outstanding_octets None = []
outstanding_octets (Some o) = o.octets

-- what was asked, by the end after it
abbrev pub asked_by : Result (Unit {0}) AskRefusal → End → Asked
asked_by (Ok u) e = Ok (record { end = e; says = outstanding_octets e.outstanding })
asked_by (Err f) e = Err f

-- Where an ask is not refused, the end asks d of it, else it is refused.
abbrev pub passing : {T : Type 0} → Result T AskRefusal → (T → Asked) → Asked
passing (Ok x) d = d x
passing (Err f) d = Err f

-- the end after an ask has begun: as before it where it is refused
pub record Begun (asked : Asked) (r : Result (Unit {0}) AskRefusal) (e e' : End) : Type 0 where
  pub is : asked_by r e' ≡ asked
  pub side : e'.side ≡ e.side
  pub refused : (f : AskRefusal) → r ≡ Err f → e' ≡ e
  pub busy : r ≡ Ok tt → e'.outstanding ≡ None → ⊥

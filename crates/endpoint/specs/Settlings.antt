-- What an end does, and says, when its request is settled.
use Rattle.std.specs.Prelude.{◌≡◌, ℕ, List, Some, None, Option}
use Rattle.book.specs.Shelves.{lookup}
use Rattle.law.specs.Ends.{End, Outstanding, Collision}
use Rattle.law.specs.Responses.{Settled, rekey_made}
use Rattle.endpoint.specs.declared.reaction.Says.{Says}
use Rattle.endpoint.specs.Reactions.{said}

-- the end after it is this one, and this is what it says
pub record SettledAs (s : Settled) (says : Says) (e : End) : Type 0 where
  pub end : e ≡ s.end
  pub out : said says e ≡ s.says

-- the recorded collision, if there is one
abbrev pub collision_in : Option Outstanding → Option Collision
collision_in None = None
collision_in (Some o) = o.collision

-- what a new SA for the outstanding rekey does
abbrev pub remade : End → ℕ → ℕ → List ℕ → Option Outstanding → Settled
remade e own peer nr None = record { end = e; says = None }
remade e own peer nr (Some o) = rekey_made e o peer nr (lookup e.shelf.rows own)

-- a request is outstanding, with these own SPIs of its row and of the old one
abbrev pub IsOutstanding : Option Outstanding → (own old : ℕ) → Type 0
IsOutstanding None own old = ⊥
IsOutstanding (Some o) own old = (o.own ≡ own) × (o.old ≡ old)

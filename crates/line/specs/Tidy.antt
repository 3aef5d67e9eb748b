-- What the book of an end holds at every moment, by its outstanding request.
use Rattle.std.specs.Prelude.{ℕ, ◌<◌, Some, None, Option}
use Rattle.protocol.specs.Model.{fresh, standing, superseded, closing, Seed, Cell, opening, live, Book}
use Rattle.protocol.specs.Invariant.{asks_open, AsksClose, AskOwned}
use Rattle.protocol.specs.Rows.{lookup, ordered}
use Rattle.protocol.specs.Node.{Out, idle, asked, Node}
use Rattle.line.specs.Calls.{Coding}
use Rattle.line.specs.Line.{Sane}

-- the outstanding request opens the key k with the seed d, or closes it
abbrev pub OutOpens : Out → ℕ → Seed → Type 0
OutOpens idle k d = ⊥
OutOpens (asked i a) k d = asks_open a k d

abbrev pub OutCloses : Out → ℕ → Type 0
OutCloses idle k = ⊥
OutCloses (asked i a) k = AsksClose a k

-- keys are below the next, and only the outstanding request has an opening or a closing row
abbrev pub RowHeld : ℕ → Out → ℕ → Option Cell → Type 0
RowHeld spi o k None = Unit {0}
RowHeld spi o k (Some (opening d)) = (k < spi) × OutOpens o k d
RowHeld spi o k (Some (live fresh a)) = k < spi
RowHeld spi o k (Some (live standing a)) = k < spi
RowHeld spi o k (Some (live superseded a)) = k < spi
RowHeld spi o k (Some (live closing a)) = (k < spi) × OutCloses o k

-- the rows of the outstanding request are in the book
abbrev pub OutHeld : ℕ → Book → Out → Type 0
OutHeld spi b idle = Unit {0}
OutHeld spi b (asked i a) = AskOwned spi b a

pub record Tidy (K : Coding) (P : Node) : Type 0 where
  pub sane : Sane K P
  pub rises : ordered P.rows
  pub rows : (k : ℕ) → RowHeld P.spi P.out k (lookup P.rows k)
  pub own : OutHeld P.spi (lookup P.rows) P.out

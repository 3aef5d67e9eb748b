-- What two ends and their channel are, and how they are made.
use Rattle.std.specs.Prelude.{Bool, cond, ◌&&◌, length, Some, None, Option, Result, ◌==◌}
use Rattle.nonce.specs.declared.side.Side.TheVariants.{A, B}
use Rattle.book.specs.Shelves.{Shelf}
use Rattle.calls.specs.declared.making.Making.{Making}
use Rattle.calls.specs.declared.refusals.MakingRefusal.{MakingRefusal}
use Rattle.calls.specs.declared.refusals.MakingRefusal.TheVariants.{ReservedSpi, BookNotEmpty}
use Rattle.law.specs.Ends.{made_end, made_unless, making_reserved}
use Rattle.law.specs.Runs.{World}
use Rattle.pair.specs.declared.Pair.{Pair}

abbrev pub world : {P Q C : Type 0} → Pair P Q C → World C
world p = record { a = p.a; b = p.b; channel = p.channel }

-- a book without rows
abbrev pub is_empty : Shelf → Bool
is_empty s = length s.rows == 0

-- why two ends are not made over these books
abbrev pub pair_refused : Making → Shelf → Shelf → Option MakingRefusal
pair_refused m s t =
    cond (is_empty s && is_empty t) (cond (making_reserved m) (Some ReservedSpi) None) (Some BookNotEmpty)

-- both ends as they are made, or why there are none
abbrev pub made_world : {C : Type 0} → Making → Shelf → Shelf → C → Result (World C) MakingRefusal
made_world m s t c =
    made_unless (pair_refused m s t) (record { a = made_end m A s.most; b = made_end m B t.most; channel = c })

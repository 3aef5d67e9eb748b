use Rattle.std.proofs.Common.{◌≡◌, length}
use Rattle.book.specs.Shelves.{after}
use Rattle.endpoint.proofs.Calming.{shelf_to}
use Rattle.endpoint.proofs.calm.calm.Given as goal

-- the walk has come to `last`
abbrev pub invariant-loop-own : goal.invariant-loop-own
invariant-loop-own g l = g.B.Book.shelf l.book ≡ shelf_to l.last (g.B.Book.shelf l.fn.book)

-- the rows to come
abbrev pub decreases-loop-own : goal.decreases-loop-own
decreases-loop-own g l = length (after (g.B.Book.shelf l.fn.book).rows l.last)

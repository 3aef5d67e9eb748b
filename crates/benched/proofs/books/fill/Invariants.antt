use Rattle.std.proofs.Common.{◌≡◌}
use Rattle.benched.specs.Books.{Filed, filled}
use Rattle.benched.proofs.books.fill.Given as goal

-- so many rows are put
abbrev pub invariant-loop-k : goal.invariant-loop-k
invariant-loop-k g l = ◌≡◌ {A = Filed} (l.all, g.B.Book.shelf l.book) (filled l.nonce l.k (g.B.Book.shelf l.initial.book))

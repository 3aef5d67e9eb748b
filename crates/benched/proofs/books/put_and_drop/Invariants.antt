use Rattle.std.proofs.Common.{◌≡◌}
use Rattle.benched.specs.Books.{Filed, put_and_dropped}
use Rattle.benched.proofs.books.put_and_drop.Given as goal

-- so many rounds are done
abbrev pub invariant-loop-round : goal.invariant-loop-round
invariant-loop-round g l =
    ◌≡◌ {A = Filed} (l.all, g.B.Book.shelf l.book) (put_and_dropped l.row l._round (g.B.Book.shelf l.initial.book))

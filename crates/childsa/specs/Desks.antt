-- What a script works on.
use Rattle.std.specs.Prelude.{ℕ, Some, None, Option}
use Rattle.std.specs.Option.{option_map}
use Rattle.nonce.specs.Both.{at, with_at}
use Rattle.nonce.specs.declared.side.Side.{Side}
use Rattle.ordered.specs.declared.OrderedBook.{OrderedBook}
use Rattle.table.specs.declared.TableBook.{TableBook}
use Rattle.chosen.specs.declared.any_book.AnyBook.{AnyBook}
use Rattle.childsa.specs.declared.desk.Desk.{Desk}
use Rattle.chosen.specs.Piles.{bottom_of, piled}

-- nothing is there
abbrev pub empty_desk : Desk
empty_desk = record { books = record { a = None; b = None }; channel = None; ends = None }

-- the book of a name
abbrev pub book_at : Desk → Side → Option (AnyBook OrderedBook TableBook)
book_at d side = at d.books side

abbrev pub with_book : Desk → Side → AnyBook OrderedBook TableBook → Desk
with_book d side x = record d { books = with_at d.books side (Some x) }

-- the same channel with this many markers over its bottom
abbrev pub with_markers : Desk → ℕ → Desk
with_markers d markers = record d { channel = option_map (λ p. piled (bottom_of p) markers) d.channel }

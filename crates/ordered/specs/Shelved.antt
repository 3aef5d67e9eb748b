-- What an ordered book means, and that it is orderly.
use Rattle.std.specs.Prelude.{List}
use Rattle.nonce.specs.Spis.{last_reserved}
use Rattle.book.specs.declared.row.Row.{Row}
use Rattle.book.specs.Shelves.{Shelf, Orderly}
use Rattle.ordered.specs.Found.{rises_rising}
use Rattle.ordered.specs.declared.OrderedBook.{OrderedBook}

abbrev pub ordered_rows : OrderedBook → List Row
ordered_rows b = b.rows.items

abbrev pub shelved : OrderedBook → Shelf
shelved b = record { rows = ordered_rows b; most = 16 }

pub ordered_orderly : (b : OrderedBook) → Orderly (shelved b)
ordered_orderly b = record { rises = rises_rising last_reserved _ b.ok; within = b.most }

-- One row becomes Standing where it is Fresh.
use Rattle.std.specs.Prelude.{Some, None, Option}
use Rattle.book.specs.Shelves.{Shelf}
use Rattle.book.specs.declared.row.Row.{Row}
use Rattle.law.specs.Rows.{calmed, in_state, rewritten}

abbrev pub calmed_at : Shelf → Option Row → Shelf
calmed_at s None = s
calmed_at s (Some r) = rewritten s (in_state (calmed r.state) r)

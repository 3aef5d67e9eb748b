-- What a table means, and that it is orderly.
use Rattle.book.specs.Shelves.{Shelf, Orderly}
use Rattle.table.specs.Slots.{sorted_rows}
use Rattle.table.specs.Sorting.{rising_sorted, few_sorted}
use Rattle.table.specs.declared.TableBook.{TableBook}

abbrev pub shelved : TableBook → Shelf
shelved b = record { rows = sorted_rows b.slots; most = 16 }

pub table_orderly : (b : TableBook) → Orderly (shelved b)
table_orderly b = record { rises = rising_sorted b.slots b.ok; within = few_sorted b.slots b.long }

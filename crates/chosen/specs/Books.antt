-- Books of either kind.
use Rattle.std.specs.Prelude.{ℕ, List, box_value, codes}
use Rattle.book.specs.Shelves.{Shelf}
use Rattle.chosen.specs.declared.any_book.AnyBook.{AnyBook}
use Rattle.chosen.specs.declared.any_book.AnyBook.TheVariants.{Ordered, Table}

-- what a book means, by its kind
abbrev pub any_shelf : {O T : Type 0} → (O → Shelf) → (T → Shelf) → AnyBook O T → Shelf
any_shelf in_order in_table (Ordered b) = in_order (box_value b)
any_shelf in_order in_table (Table b) = in_table (box_value b)

-- the name of a kind
abbrev pub kind_text : {O T : Type 0} → AnyBook O T → List ℕ
kind_text (Ordered b) = codes "ordered"
kind_text (Table b) = codes "table"

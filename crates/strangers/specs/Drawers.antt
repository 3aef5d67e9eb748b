-- What a drawer means, and that it is orderly.
use Rattle.std.proofs.Common.{arith}
use Rattle.book.specs.Shelves.{Shelf, Orderly}
use Rattle.strangers.specs.Sorted.{sorted, rising_sorted, length_sorted}
use Rattle.strangers.specs.declared.any_order.Drawer.{Drawer}

abbrev pub shelved : Drawer → Shelf
shelved b = record { rows = sorted b.rows.items; most = b.most }

pub drawer_orderly : (b : Drawer) → Orderly (shelved b)
drawer_orderly b = record {
  rises = rising_sorted b.rows.items b.ok;
  within = omega (arith, length_sorted b.rows.items, b.rows.ok.0, b.within);
}

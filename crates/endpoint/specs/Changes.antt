-- An end with another book.
use Rattle.std.specs.Prelude.{ℕ, suc}
use Rattle.book.specs.Shelves.{Shelf}
use Rattle.book.specs.declared.row.Row.{Row}
use Rattle.law.specs.Ends.{End}
use Rattle.law.specs.Rows.{with_row}

abbrev pub changing : End → Shelf → ℕ → End
changing e shelf spi = record {
  side = e.side;
  initiator = e.initiator;
  responder = e.responder;
  next = e.next;
  expected = e.expected;
  reply = e.reply;
  spi = spi;
  shelf = shelf;
  outstanding = e.outstanding;
}

abbrev pub with_shelf : End → Shelf → End
with_shelf e shelf = changing e shelf e.spi

-- a row more, under the next own SPI
abbrev pub filing : End → Row → End
filing e r = changing e (with_row e.shelf r) (suc e.spi)

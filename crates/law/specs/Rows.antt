-- The rows that an end files, and how they change.
use Rattle.std.specs.Prelude.{ℕ, List, [], ◌∷◌}
use Rattle.book.specs.Rows.{kept}
use Rattle.book.specs.Shelves.{Shelf, put_in, written_in, removed_from}
use Rattle.book.specs.declared.row.Beginner.TheVariants.{ThisEnd, Peer}
use Rattle.book.specs.declared.row.Row.{Row}
use Rattle.book.specs.declared.row.RowState.{RowState}
use Rattle.book.specs.declared.row.RowState.TheVariants.{Opening, Fresh, Standing, Superseded, Closing}
use Rattle.book.specs.declared.row.Spis.{Spis}

-- no parent
abbrev pub none : Spis
none = record { own = 0; peer = 0 }

-- requested here, with this nonce
abbrev pub opening_row : ℕ → Spis → List ℕ → Row
opening_row own parent ni = record {
  own = own;
  peer = 0;
  state = Opening;
  began = ThisEnd;
  parent = parent;
  ni = kept ni;
  nr = kept [];
}

-- made here for the peer's request
abbrev pub fresh_row : ℕ → ℕ → Spis → List ℕ → List ℕ → Row
fresh_row own peer parent ni nr = record {
  own = own;
  peer = peer;
  state = Fresh;
  began = Peer;
  parent = parent;
  ni = kept ni;
  nr = kept nr;
}

abbrev pub in_state : RowState → Row → Row
in_state s r = record {
  own = r.own;
  peer = r.peer;
  state = s;
  began = r.began;
  parent = r.parent;
  ni = r.ni;
  nr = r.nr;
}

-- the Opening row once the peer has made the SA, under its SPI and with its nonce: it stands
abbrev pub made_row : ℕ → List ℕ → Row → Row
made_row peer nr r = record {
  own = r.own;
  peer = peer;
  state = Standing;
  began = r.began;
  parent = r.parent;
  ni = r.ni;
  nr = kept nr;
}

-- Fresh rows are Standing from the peer's next request on
abbrev pub calmed : RowState → RowState
calmed Opening = Opening
calmed Fresh = Standing
calmed Standing = Standing
calmed Superseded = Superseded
calmed Closing = Closing

abbrev pub calm : List Row → List Row
calm [] = []
calm (r ∷ rs) = in_state (calmed r.state) r ∷ calm rs

abbrev pub calm_shelf : Shelf → Shelf
calm_shelf s = record { rows = calm s.rows; most = s.most }

-- a book after a put, a write or a removal, done or refused
abbrev pub with_row : Shelf → Row → Shelf
with_row s r = (put_in s r).1

abbrev pub rewritten : Shelf → Row → Shelf
rewritten s r = (written_in s r).1

abbrev pub without : Shelf → ℕ → Shelf
without s own = (removed_from s own).1

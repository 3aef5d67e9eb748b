-- What an ask does: the first refusal that applies, or the end after it and the octets that are sent.
use Rattle.std.specs.Prelude.{ℕ, suc, Bool, true, false, not, List, Some, None, Ok, Err, Option, Result}
use Rattle.nonce.specs.Nonces.{nonce_long}
use Rattle.book.specs.Shelves.{Shelf, is_full, lookup}
use Rattle.book.specs.declared.row.Row.{Row}
use Rattle.book.specs.declared.row.RowState.{RowState}
use Rattle.book.specs.declared.row.RowState.TheVariants.{Opening, Fresh, Standing, Superseded, Closing}
use Rattle.wire.specs.declared.message.Request.{Request}
use Rattle.wire.specs.declared.message.Request.TheVariants as request
use Rattle.law.specs.Ends.{End, Outstanding, is_quiet, is_spent, request_octets, sending}
use Rattle.law.specs.Rows.{none, opening_row, in_state, with_row, rewritten}
use Rattle.calls.specs.declared.refusals.AskRefusal.{AskRefusal}
use Rattle.calls.specs.declared.refusals.AskRefusal.TheVariants as refusal
use Rattle.calls.specs.declared.refusals.ResendRefusal.{ResendRefusal}
use Rattle.calls.specs.declared.refusals.ResendRefusal.TheVariants as resend_refusal
use Rattle.law.specs.declared.kinds.Kind.TheVariants as kind

-- the end after a call, and the octets that it sends
pub record Doing : Type 0 where
  pub end : End
  pub says : List ℕ

abbrev pub Asked : Type 0
Asked = Result Doing AskRefusal

-- refused, where the test fails
abbrev pub where_holds : Bool → AskRefusal → Asked → Asked
where_holds true e r = r
where_holds false e r = Err e

abbrev pub has_room : Shelf → Bool
has_room s = not (is_full s)

-- a request of this end goes out under its next ID
abbrev pub doing : End → Request (List ℕ) → End → Asked
doing e r after = Ok (record { end = after; says = request_octets e e.next r })

-- create: an Opening row, and a create request
abbrev pub creating : End → List ℕ → Asked
creating e n =
    doing e (request.Create e.spi n)
    (sending e (with_row e.shelf (opening_row e.spi none n)) (suc e.spi) kind.Create e.spi 0
    (request.Create e.spi n))

unfoldable pub create_asked : End → List ℕ → Asked
create_asked e n =
    where_holds (nonce_long n) refusal.NonceLength
    (where_holds (is_quiet e.outstanding) refusal.Busy
    (where_holds (not (is_spent e.next)) refusal.IdsSpent
    (where_holds (not (is_spent e.spi)) refusal.SpisSpent
    (where_holds (has_room e.shelf) refusal.BookFull (creating e n)))))

-- a row that may be rekeyed or deleted
abbrev pub by_state : RowState → Asked → Asked
by_state Opening r = r
by_state Fresh r = Err refusal.RowFresh
by_state Standing r = r
by_state Superseded r = Err refusal.RowSuperseded
by_state Closing r = r

abbrev pub of_row : Option Row → (Row → Asked) → Asked
of_row None f = Err refusal.NotInBook
of_row (Some r) f = by_state r.state (f r)

-- rekey: an Opening row with the named SA as its parent, and a rekey request
abbrev pub rekeying : End → List ℕ → Row → Asked
rekeying e n r =
    doing e (request.Rekey r.own e.spi n)
    (sending e (with_row e.shelf (opening_row e.spi (record { own = r.own; peer = r.peer }) n)) (suc e.spi) kind.Rekey e.spi r.own (request.Rekey r.own e.spi n))

unfoldable pub rekey_asked : End → ℕ → List ℕ → Asked
rekey_asked e own n =
    where_holds (nonce_long n) refusal.NonceLength
    (where_holds (is_quiet e.outstanding) refusal.Busy
    (where_holds (not (is_spent (suc e.next))) refusal.IdsSpent
    (where_holds (not (is_spent e.spi)) refusal.SpisSpent
    (of_row (lookup e.shelf.rows own)
    (λ r. where_holds (has_room e.shelf) refusal.BookFull (rekeying e n r))))))

-- delete: the row is Closing, and its Delete goes out
abbrev pub closing : End → Row → Shelf → Doing
closing e r shelf = record {
  end =
      sending e (rewritten shelf (in_state Closing r)) e.spi kind.Delete r.own 0
      (request.Delete r.own);
  says = request_octets e e.next (request.Delete r.own);
}

abbrev pub deleting : End → Row → Asked
deleting e r = Ok (closing e r e.shelf)

unfoldable pub delete_asked : End → ℕ → Asked
delete_asked e own =
    where_holds (is_quiet e.outstanding) refusal.Busy
    (where_holds (not (is_spent e.next)) refusal.IdsSpent
    (of_row (lookup e.shelf.rows own) (deleting e)))

-- check: an empty request
abbrev pub checking : End → Asked
checking e = doing e request.Empty (sending e e.shelf e.spi kind.Check 0 0 request.Empty)

unfoldable pub check_asked : End → Asked
check_asked e =
    where_holds (is_quiet e.outstanding) refusal.Busy
    (where_holds (not (is_spent e.next)) refusal.IdsSpent (checking e))

-- resend: the outstanding octets once more
abbrev pub resend_asked : Option Outstanding → Result (List ℕ) ResendRefusal
resend_asked None = Err resend_refusal.Quiet
resend_asked (Some o) = Ok o.octets

-- What a request with the expected ID does to an end, and what is answered: the first line that applies decides.
use Rattle.std.specs.Prelude.{ℕ, suc, Bool, false, cond, ◌||◌, List, is_some, Some, None, Option, ◌==◌}
use Rattle.nonce.specs.Spis.{is_reserved}
use Rattle.book.specs.Shelves.{Shelf, is_full, lookup, find}
use Rattle.book.specs.declared.row.Row.{Row}
use Rattle.book.specs.declared.row.RowState.{RowState}
use Rattle.book.specs.declared.row.RowState.TheVariants.{Opening, Fresh, Standing, Superseded, Closing}
use Rattle.book.specs.declared.row.Spis.{Spis}
use Rattle.wire.specs.declared.message.Failure.TheVariants.{NoProposalChosen, NoAdditionalSas, TemporaryFailure, ChildSaNotFound}
use Rattle.wire.specs.declared.message.Request.{Request}
use Rattle.wire.specs.declared.message.Request.TheVariants as request
use Rattle.wire.specs.declared.message.Response.{Response}
use Rattle.wire.specs.declared.message.Response.TheVariants as response
use Rattle.law.specs.Ends.{End, Outstanding, Collision, is_spent, response_octets, replying}
use Rattle.law.specs.Asks.{Doing}
use Rattle.law.specs.Rows.{none, fresh_row, in_state, calm_shelf, with_row, rewritten, without}
use Rattle.law.specs.declared.kinds.Kind.{Kind}
use Rattle.law.specs.declared.kinds.Kind.TheVariants as kind

-- the row that find names by a peer SPI
abbrev pub row_at : List Row → Option ℕ → Option Row
row_at rs None = None
row_at rs (Some k) = lookup rs k

abbrev pub found : List Row → ℕ → Option Row
found rs peer = row_at rs (find rs peer)

-- the reply, with this book, next own SPI and outstanding request
abbrev pub says : End → Shelf → ℕ → Option Outstanding → Response (List ℕ) → Doing
says e s spi o r = record {
  end = replying e s spi o r;
  says = response_octets e e.expected r;
}

abbrev pub says_only : End → Shelf → Response (List ℕ) → Doing
says_only e s r = says e s e.spi e.outstanding r

-- a new SPI that is reserved, or already the peer's for another SA
abbrev pub unusable : List Row → ℕ → Bool
unusable rs peer = is_reserved peer || is_some (find rs peer)

-- the book is full, or the own SPIs are spent
abbrev pub no_more : End → Shelf → Bool
no_more e s = is_full s || is_spent e.spi

-- this end's own rekey of a row records the collision with the peer's
abbrev pub recorded_in : Outstanding → Collision → Outstanding
recorded_in o c = record {
  id = o.id;
  kind = o.kind;
  own = o.own;
  old = o.old;
  octets = o.octets;
  collision = Some c;
}

abbrev pub rekeys : Kind → ℕ → ℕ → Bool
rekeys kind.Create old k = false
rekeys kind.Rekey old k = old == k
rekeys kind.Delete old k = false
rekeys kind.Check old k = false

abbrev pub recorded : Option Outstanding → ℕ → Collision → Option Outstanding
recorded None k c = None
recorded (Some o) k c = Some (cond (rekeys o.kind o.old k) (recorded_in o c) o)

-- a new SA for the peer: a Fresh row and the response
abbrev pub making : End → Shelf → ℕ → List ℕ → List ℕ → Spis → Option Outstanding → Doing
making e s peer ni nr parent o =
    says e (with_row s (fresh_row e.spi peer parent ni nr)) (suc e.spi) o (response.NewSa e.spi nr)

abbrev pub create_answered : End → Shelf → ℕ → List ℕ → List ℕ → Doing
create_answered e s peer ni nr =
    cond (unusable s.rows peer) (says_only e s (response.Failed NoProposalChosen))
    (cond (no_more e s) (says_only e s (response.Failed NoAdditionalSas)) (making e s peer ni nr none e.outstanding))

-- the rekeyed row is Superseded, and an own rekey of it records the collision
abbrev pub superseding : End → Shelf → ℕ → List ℕ → List ℕ → Row → Doing
superseding e s peer ni nr r =
    making e (rewritten s (in_state Superseded r)) peer ni nr (record { own = r.own; peer = r.peer })
    (recorded e.outstanding r.own (record { initiator = ni; responder = nr }))

abbrev pub rekey_of : End → Shelf → ℕ → List ℕ → List ℕ → Row → Doing
rekey_of e s peer ni nr r =
    cond (unusable s.rows peer) (says_only e s (response.Failed NoProposalChosen))
    (cond (no_more e s) (says_only e s (response.Failed NoAdditionalSas)) (superseding e s peer ni nr r))

-- a Closing or Superseded row is not rekeyed now
abbrev pub rekey_by_state : RowState → Doing → Doing → Doing
rekey_by_state Opening not_now d = d
rekey_by_state Fresh not_now d = d
rekey_by_state Standing not_now d = d
rekey_by_state Superseded not_now d = not_now
rekey_by_state Closing not_now d = not_now

abbrev pub rekey_found : End → Shelf → ℕ → ℕ → List ℕ → List ℕ → Option Row → Doing
rekey_found e s old peer ni nr None = says_only e s (response.Failed (ChildSaNotFound old))
rekey_found e s old peer ni nr (Some r) =
    rekey_by_state r.state (says_only e s (response.Failed TemporaryFailure)) (rekey_of e s peer ni nr r)

-- a Closing row stays: its own Delete is on its way
abbrev pub delete_by_state : RowState → Doing → Doing → Doing
delete_by_state Opening stays d = d
delete_by_state Fresh stays d = d
delete_by_state Standing stays d = d
delete_by_state Superseded stays d = d
delete_by_state Closing stays d = stays

abbrev pub delete_found : End → Shelf → Option Row → Doing
delete_found e s None = says_only e s response.Empty
delete_found e s (Some r) =
    delete_by_state r.state (says_only e s response.Empty)
    (says_only e (without s r.own) (response.Delete r.own))

-- with the nonce nr at hand, and s the book in which no row is Fresh any more
abbrev pub request_answered : End → Shelf → List ℕ → Request (List ℕ) → Doing
request_answered e s nr (request.Create peer ni) = create_answered e s peer ni nr
request_answered e s nr (request.Rekey old peer ni) = rekey_found e s old peer ni nr (found s.rows old)
request_answered e s nr (request.Delete peer) = delete_found e s (found s.rows peer)
request_answered e s nr request.Empty = says_only e s response.Empty

unfoldable pub answered : End → List ℕ → Request (List ℕ) → Doing
answered e nr r = request_answered e (calm_shelf e.shelf) nr r

-- What the response to the outstanding request does to an end.
use Rattle.std.specs.Prelude.{ℕ, Bool, true, false, cond, List, Some, None, Option}
use Rattle.nonce.specs.Order.{lowest_of, loser_by}
use Rattle.nonce.specs.declared.side.Side.{Side}
use Rattle.nonce.specs.declared.side.Side.TheVariants.{A, B}
use Rattle.nonce.specs.Sides.{is_side}
use Rattle.book.specs.Rows.{kept_octets}
use Rattle.book.specs.Shelves.{Shelf, lookup}
use Rattle.book.specs.declared.row.Row.{Row}
use Rattle.wire.specs.declared.message.Failure.{Failure}
use Rattle.wire.specs.declared.message.Failure.TheVariants.{NoProposalChosen, NoAdditionalSas, TemporaryFailure, ChildSaNotFound}
use Rattle.wire.specs.declared.message.Response.{Response}
use Rattle.wire.specs.declared.message.Response.TheVariants as response
use Rattle.law.specs.Ends.{End, Outstanding, Collision, quieted}
use Rattle.law.specs.Asks.{Doing, closing}
use Rattle.law.specs.Requests.{unusable}
use Rattle.law.specs.Rows.{made_row, rewritten, without}
use Rattle.law.specs.declared.kinds.Kind.{Kind}
use Rattle.law.specs.declared.kinds.Kind.TheVariants as kind

-- the end after a response, and the octets that go out in the same call, if any
pub record Settled : Type 0 where
  pub end : End
  pub says : Option (List ℕ)

abbrev pub rests : End → Shelf → Settled
rests e s = record { end = quieted e s; says = None }

abbrev pub goes_on : Doing → Settled
goes_on d = record { end = d.end; says = Some d.says }

-- A new SA under an SPI that is reserved, or already the peer's, counts as NO_PROPOSAL_CHOSEN.
abbrev pub counted : List Row → Response (List ℕ) → Response (List ℕ)
counted rs (response.NewSa peer nr) = cond (unusable rs peer) (response.Failed NoProposalChosen) (response.NewSa peer nr)
counted rs (response.Failed e) = response.Failed e
counted rs (response.Delete spi) = response.Delete spi
counted rs response.Empty = response.Empty

-- whose new SA loses: own is the exchange that this side began, theirs the peer's
abbrev pub collision_loser : Side → (own_i own_r their_i their_r : List ℕ) → Side
collision_loser A oi or ti tr = loser_by (lowest_of oi or ti tr)
collision_loser B oi or ti tr = loser_by (lowest_of ti tr oi or)

abbrev pub loses : Side → Row → List ℕ → Option Collision → Bool
loses s r nr None = false
loses s r nr (Some c) = is_side (collision_loser s (kept_octets r.ni) nr c.initiator c.responder) s

-- the new SA stands, and the old row, if it is still there, is closed
abbrev pub won : End → Shelf → Option Row → Settled
won e s None = rests e s
won e s (Some r) = goes_on (closing e r s)

-- r is the row of the new SA; it is closed if it is the loser of a recorded collision
abbrev pub new_settled : End → Outstanding → Bool → Row → Shelf → Settled
new_settled e o true r s = goes_on (closing e r s)
new_settled e o false r s = won e s (lookup s.rows o.old)

abbrev pub rekey_made : End → Outstanding → ℕ → List ℕ → Option Row → Settled
rekey_made e o peer nr None = rests e e.shelf
rekey_made e o peer nr (Some r) =
    new_settled e o (loses e.side r nr o.collision) (made_row peer nr r)
    (rewritten e.shelf (made_row peer nr r))

abbrev pub create_made : End → ℕ → List ℕ → Option Row → Settled
create_made e peer nr None = rests e e.shelf
create_made e peer nr (Some r) = rests e (rewritten e.shelf (made_row peer nr r))

-- the row of the request is dropped
abbrev pub dropped : End → Outstanding → Settled
dropped e o = rests e (without e.shelf o.own)

abbrev pub create_settled : End → Outstanding → Response (List ℕ) → Settled
create_settled e o (response.NewSa peer nr) = create_made e peer nr (lookup e.shelf.rows o.own)
create_settled e o (response.Failed f) = dropped e o
create_settled e o (response.Delete spi) = dropped e o
create_settled e o response.Empty = dropped e o

abbrev pub rekey_failed : End → Outstanding → Failure → Settled
rekey_failed e o NoProposalChosen = dropped e o
rekey_failed e o NoAdditionalSas = dropped e o
rekey_failed e o TemporaryFailure = dropped e o
rekey_failed e o (ChildSaNotFound spi) = rests e (without (without e.shelf o.own) o.old)

abbrev pub rekey_settled : End → Outstanding → Response (List ℕ) → Settled
rekey_settled e o (response.NewSa peer nr) = rekey_made e o peer nr (lookup e.shelf.rows o.own)
rekey_settled e o (response.Failed f) = rekey_failed e o f
rekey_settled e o (response.Delete spi) = dropped e o
rekey_settled e o response.Empty = dropped e o

-- what a response does depends on the outstanding request and on the response together
abbrev pub settled_by : End → Outstanding → Kind → Response (List ℕ) → Settled
settled_by e o kind.Create r = create_settled e o r
settled_by e o kind.Rekey r = rekey_settled e o r
settled_by e o kind.Delete r = dropped e o
settled_by e o kind.Check r = rests e e.shelf

unfoldable pub settled : End → Outstanding → Response (List ℕ) → Settled
settled e o r = settled_by e o o.kind (counted e.shelf.rows r)

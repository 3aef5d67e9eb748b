-- The meaning of an end, and how two are made.
use Rattle.std.specs.Prelude.{ℕ, suc, ◌^◌, Bool, true, false, cond, ◌||◌, List, length, Some, None, Ok, Err, Option, Result, ◌==◌, nat_lt}
use Rattle.nonce.specs.declared.side.Side.{Side}
use Rattle.nonce.specs.declared.side.Side.TheVariants.{A, B}
use Rattle.nonce.specs.Spis.{is_reserved}
use Rattle.book.specs.Shelves.{Shelf, empty_shelf}
use Rattle.wire.specs.Messages.{octets_of}
use Rattle.wire.specs.declared.message.Body.TheVariants as body
use Rattle.wire.specs.declared.message.Request.{Request}
use Rattle.wire.specs.declared.message.Response.{Response}
use Rattle.calls.specs.declared.making.Making.{Making}
use Rattle.calls.specs.declared.refusals.MakingRefusal.{MakingRefusal}
use Rattle.calls.specs.declared.refusals.MakingRefusal.TheVariants.{ReservedSpi, BookNotEmpty}
use Rattle.law.specs.declared.kinds.Kind.{Kind}

-- the nonces of the peer's exchange that rekeyed the same SA: the initiator's and the responder's
pub record Collision : Type 0 where
  pub initiator : List ℕ
  pub responder : List ℕ

-- The outstanding request: from the call that first sends it until a delivery brings the response with its ID.
pub record Outstanding : Type 0 where
  pub id : ℕ
  pub kind : Kind
  -- the own SPI of the Opening row, or of the row to be deleted; 0 for a check
  pub own : ℕ
  -- the own SPI of the SA to be rekeyed; 0 for the others
  pub old : ℕ
  -- what is sent again
  pub octets : List ℕ
  pub collision : Option Collision

pub record End : Type 0 where
  pub side : Side
  -- the IKE SPIs of A and of B
  pub initiator : ℕ
  pub responder : ℕ
  -- the next own Message ID, and the ID of the request that is expected next; 2 ^ 32 where they are spent
  pub next : ℕ
  pub expected : ℕ
  -- the last reply, as octets
  pub reply : Option (List ℕ)
  -- the next own SPI; 2 ^ 32 where they are spent
  pub spi : ℕ
  pub shelf : Shelf
  pub outstanding : Option Outstanding

-- an end is quiet while nothing is outstanding, else busy
abbrev pub is_quiet : Option Outstanding → Bool
is_quiet None = true
is_quiet (Some o) = false

-- whether numbers of 32 bits are spent
abbrev pub is_spent : ℕ → Bool
is_spent n = cond (nat_lt n (2 ^ 32)) false true

-- Making takes both first Message IDs, both first SPIs and the IKE SPIs. Books are empty, and each end expects the other's first ID.
abbrev pub made_end : Making → Side → ℕ → End
made_end m A most = record {
  side = A;
  initiator = m.initiator;
  responder = m.responder;
  next = m.a.id;
  expected = m.b.id;
  reply = None;
  spi = m.a.spi;
  shelf = empty_shelf most;
  outstanding = None;
}
made_end m B most = record {
  side = B;
  initiator = m.initiator;
  responder = m.responder;
  next = m.b.id;
  expected = m.a.id;
  reply = None;
  spi = m.b.spi;
  shelf = empty_shelf most;
  outstanding = None;
}

-- a first SPI is reserved
abbrev pub making_reserved : Making → Bool
making_reserved m = is_reserved m.a.spi || is_reserved m.b.spi

-- why an end is not made over this book
abbrev pub making_refused : Making → Shelf → Option MakingRefusal
making_refused m s =
    cond (length s.rows == 0) (cond (making_reserved m) (Some ReservedSpi) None) (Some BookNotEmpty)

abbrev pub made_unless : {W : Type 0} → Option MakingRefusal → W → Result W MakingRefusal
made_unless None w = Ok w
made_unless (Some f) w = Err f

-- the end of a side over this book, or why there is none
abbrev pub made : Making → Side → Shelf → Result End MakingRefusal
made m side s = made_unless (making_refused m s) (made_end m side s.most)

-- the octets of a request and of a response of this end
abbrev pub request_octets : End → ℕ → Request (List ℕ) → List ℕ
request_octets e id r =
    octets_of (record { initiator = e.initiator; responder = e.responder; sender = e.side; id = id; body = body.Request r })

abbrev pub response_octets : End → ℕ → Response (List ℕ) → List ℕ
response_octets e id r =
    octets_of (record { initiator = e.initiator; responder = e.responder; sender = e.side; id = id; body = body.Response r })

-- the end with another shelf and next own SPI, and with this request outstanding under its next ID
abbrev pub sending : End → Shelf → ℕ → Kind → ℕ → ℕ → Request (List ℕ) → End
sending e shelf spi kind own old r = record {
  side = e.side;
  initiator = e.initiator;
  responder = e.responder;
  next = suc e.next;
  expected = e.expected;
  reply = e.reply;
  spi = spi;
  shelf = shelf;
  outstanding = Some (record {
    id = e.next;
    kind = kind;
    own = own;
    old = old;
    octets = request_octets e e.next r;
    collision = None;
  });
}

-- the end with another shelf, and quiet
abbrev pub quieted : End → Shelf → End
quieted e shelf = record {
  side = e.side;
  initiator = e.initiator;
  responder = e.responder;
  next = e.next;
  expected = e.expected;
  reply = e.reply;
  spi = e.spi;
  shelf = shelf;
  outstanding = None;
}

-- the end once it has answered a request: it expects the next, and the reply is stored
abbrev pub replying : End → Shelf → ℕ → Option Outstanding → Response (List ℕ) → End
replying e shelf spi outstanding r = record {
  side = e.side;
  initiator = e.initiator;
  responder = e.responder;
  next = e.next;
  expected = suc e.expected;
  reply = Some (response_octets e e.expected r);
  spi = spi;
  shelf = shelf;
  outstanding = outstanding;
}

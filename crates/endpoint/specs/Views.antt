-- What an end is, seen from what it keeps.
use Rattle.std.specs.Prelude.{◌≡◌, ℕ, ◌+◌, ◌^◌, ◌≤◌, true, List, [], ◌∷◌, Some, None, Option}
use Rattle.std.specs.Option.{option_map}
use Rattle.nonce.specs.Nonces.{nonce_long}
use Rattle.nonce.specs.declared.order.Exchanged.{Exchanged}
use Rattle.book.specs.Rows.{kept_octets}
use Rattle.book.specs.Shelves.{Shelf}
use Rattle.book.specs.declared.row.Row.{Row}
use Rattle.law.specs.Ends.{End, Collision, Outstanding}
use Rattle.law.specs.declared.kinds.Kind.{Kind}
use Rattle.law.specs.declared.kinds.Kind.TheVariants.{Create, Rekey, Delete, Check}
use Rattle.endpoint.specs.declared.outstanding.Outstanding as kept
use Rattle.endpoint.specs.declared.Endpoint.TheInside.{Inside}

abbrev pub collision_of : Exchanged → Collision
collision_of x = record { initiator = x.initiator; responder = x.responder }

-- the outstanding request, with its octets and the nonces of a collision, which are kept beside it
abbrev pub outstanding_of : List ℕ → Option Exchanged → kept.Outstanding → Outstanding
outstanding_of octets collision o = record {
  id = o.id;
  kind = o.kind;
  own = o.own;
  old = o.old;
  octets = octets;
  collision = option_map collision_of collision;
}

abbrev pub end_of : {B : Type 0} → (B → Shelf) → Inside B → End
end_of shelf e = record {
  side = e.side;
  initiator = e.initiator;
  responder = e.responder;
  next = e.next;
  expected = e.expected;
  reply = option_map (λ t. t.items) e.reply;
  spi = e.spi;
  shelf = shelf e.book;
  outstanding = option_map (outstanding_of e.request.items e.collision) e.outstanding;
}

-- how many Message IDs a request keeps back: a rekey one, for the Delete that follows it
abbrev pub kept_back : Kind → ℕ
kept_back Create = 0
kept_back Rekey = 1
kept_back Delete = 0
kept_back Check = 0

abbrev pub spared : Option kept.Outstanding → ℕ
spared None = 0
spared (Some o) = kept_back o.kind

-- each row has an initiator's nonce of 16 to 32 octets
abbrev pub NoncesLong : List Row → Type 0
NoncesLong [] = Unit {0}
NoncesLong (r ∷ rs) = (nonce_long (kept_octets r.ni) ≡ true) × NoncesLong rs

-- IDs and SPIs run to 2 ^ 32 - 1, or are spent; an ID is left for each Delete that is still to come. Only an outstanding
-- request has recorded a collision.
pub record Kept {B : Type 0} (shelf : B → Shelf) (e : Inside B) : Type 0 where
  pub next : e.next + spared e.outstanding ≤ 2 ^ 32
  pub expected : e.expected ≤ 2 ^ 32
  pub spi : e.spi ≤ 2 ^ 32
  pub nonces : NoncesLong (shelf e.book).rows
  pub alone : e.outstanding ≡ None → e.collision ≡ None

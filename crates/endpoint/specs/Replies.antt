-- What an end says to a request: a reply, which it stores.
use Rattle.std.specs.Prelude.{◌≡◌, ℕ, List, Some}
use Rattle.law.specs.Ends.{End}
use Rattle.law.specs.Asks.{Doing}
use Rattle.law.specs.Requests.{recorded}

-- the end after it is this one, and what it stores is what it says
pub record IsSaid (d : Doing) (e : End) : Type 0 where
  pub end : e ≡ d.end
  pub stored : e.reply ≡ Some d.says

-- a collision with the peer's rekey of the same SA is recorded
abbrev pub recording : End → ℕ → List ℕ → List ℕ → End
recording e own ni nr = record {
  side = e.side;
  initiator = e.initiator;
  responder = e.responder;
  next = e.next;
  expected = e.expected;
  reply = e.reply;
  spi = e.spi;
  shelf = e.shelf;
  outstanding = recorded e.outstanding own (record { initiator = ni; responder = nr });
}

-- What a delivery does to an end, by what came.
use Rattle.std.specs.Prelude.{ℕ, suc, Bool, true, false, cond, not, ◌&&◌, List, Some, None, Ok, Err, Option, Result, ◌==◌}
use Rattle.nonce.specs.Sides.{is_side}
use Rattle.wire.specs.Decoding.{decoded}
use Rattle.wire.specs.declared.message.DecodeRefusal.{DecodeRefusal}
use Rattle.wire.specs.declared.message.Message.{Message}
use Rattle.wire.specs.declared.message.Body.{Body}
use Rattle.wire.specs.declared.message.Body.TheVariants as body
use Rattle.wire.specs.declared.message.Request.{Request}
use Rattle.wire.specs.declared.message.Response.{Response}
use Rattle.law.specs.Ends.{End, Outstanding}
use Rattle.law.specs.Asks.{Doing}
use Rattle.law.specs.Requests.{answered}
use Rattle.law.specs.Responses.{Settled, settled}
use Rattle.calls.specs.declared.refusals.DeliverRefusal.{DeliverRefusal}
use Rattle.calls.specs.declared.refusals.DeliverRefusal.TheVariants as refusal

-- What is heard: a refusal, which leaves the end as it was; the stored reply, which goes out again and changes nothing else; or
-- something that is done, with what goes out then, if anything.
pub data Heard : Type 0 where
  refused : DeliverRefusal → Heard
  again : List ℕ → Heard
  done : End → Option (List ℕ) → Heard

-- the message is of this IKE SA and from the peer
abbrev pub is_from_peer : End → Message (List ℕ) → Bool
is_from_peer e m =
    (m.initiator == e.initiator) && (m.responder == e.responder && not (is_side m.sender e.side))

abbrev pub repeated : Bool → Option (List ℕ) → Heard
repeated false r = refused refusal.WrongId
repeated true None = refused refusal.WrongId
repeated true (Some r) = again r

abbrev pub doing_heard : Doing → Heard
doing_heard d = done d.end (Some d.says)

abbrev pub settled_heard : Settled → Heard
settled_heard s = done s.end s.says

abbrev pub request_heard : End → List ℕ → ℕ → Request (List ℕ) → Heard
request_heard e n id r =
    cond (id == e.expected) (doing_heard (answered e n r)) (repeated (suc id == e.expected) e.reply)

abbrev pub response_heard : End → Option Outstanding → ℕ → Response (List ℕ) → Heard
response_heard e None id r = refused refusal.WrongId
response_heard e (Some o) id r = cond (id == o.id) (settled_heard (settled e o r)) (refused refusal.WrongId)

abbrev pub body_heard : End → List ℕ → ℕ → Body (List ℕ) → Heard
body_heard e n id (body.Request r) = request_heard e n id r
body_heard e n id (body.Response r) = response_heard e e.outstanding id r

abbrev pub message_heard : End → List ℕ → Result (Message (List ℕ)) DecodeRefusal → Heard
message_heard e n (Err f) = refused (refusal.NoMessage f)
message_heard e n (Ok m) = cond (is_from_peer e m) (body_heard e n m.id m.body) (refused refusal.NotThePeer)

-- with the nonce n at hand, by the datagram that came, or none
abbrev pub heard : End → List ℕ → Option (List ℕ) → Heard
heard e n None = refused refusal.NothingCame
heard e n (Some d) = message_heard e n (decoded d)

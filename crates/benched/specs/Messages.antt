-- The number of a message that is read, and those of messages that are written.
use Rattle.std.specs.Prelude.{ℕ, zero, suc, ◌-◌, List, length, Ok, Err, Result, slice_index}
use Rattle.wire.specs.Refusals.{decode_number, encode_number}
use Rattle.wire.specs.Encoding.{written, overwritten}
use Rattle.wire.specs.declared.message.Message.{Message}
use Rattle.wire.specs.declared.message.Body.{Body}
use Rattle.wire.specs.declared.message.Body.TheVariants as body
use Rattle.wire.specs.declared.message.Request.{Request}
use Rattle.wire.specs.declared.message.Request.TheVariants as request
use Rattle.wire.specs.declared.message.Response.{Response}
use Rattle.wire.specs.declared.message.Response.TheVariants as response
use Rattle.wire.specs.declared.message.Failure.{Failure}
use Rattle.wire.specs.declared.message.Failure.TheVariants.{NoProposalChosen, NoAdditionalSas, TemporaryFailure, ChildSaNotFound}
use Rattle.wire.specs.declared.message.DecodeRefusal.{DecodeRefusal}
use Rattle.wire.specs.declared.message.EncodeRefusal.{EncodeRefusal}
use Rattle.benched.specs.Mixed.{mixed, last}

-- an offer: the SPI, how many octets its nonce has, and the last of them
abbrev pub offered : ℕ → List ℕ → ℕ
offered spi nonce = mixed (mixed spi (length nonce)) (last nonce)

abbrev pub failure_number : Failure → ℕ
failure_number NoProposalChosen = 6
failure_number NoAdditionalSas = 6
failure_number TemporaryFailure = 6
failure_number (ChildSaNotFound spi) = mixed 44 spi

abbrev pub request_number : Request (List ℕ) → ℕ
request_number (request.Create spi nonce) = mixed 1 (offered spi nonce)
request_number (request.Rekey old spi nonce) = mixed (mixed 2 old) (offered spi nonce)
request_number (request.Delete spi) = mixed 3 spi
request_number request.Empty = 4

abbrev pub response_number : Response (List ℕ) → ℕ
response_number (response.NewSa spi nonce) = mixed 5 (offered spi nonce)
response_number (response.Failed e) = failure_number e
response_number (response.Delete spi) = mixed 7 spi
response_number response.Empty = 8

abbrev pub body_number : Body (List ℕ) → ℕ
body_number (body.Request r) = request_number r
body_number (body.Response r) = response_number r

-- what is made of a message, or the number of the refusal
abbrev pub read_number : Result (Message (List ℕ)) DecodeRefusal → ℕ
read_number (Ok m) = mixed m.id (body_number m.body)
read_number (Err e) = decode_number e

-- what is made of an answer to a write, and of what the buffer has then: the length, the last octet and the last of the header's
-- length; or the number of the refusal
abbrev pub write_number : Result ℕ EncodeRefusal → List ℕ → ℕ
write_number (Ok len) out = mixed (mixed len (slice_index out (len - 1))) (slice_index out 23)
write_number (Err e) out = encode_number e

-- the message with another ID
abbrev pub with_id : ℕ → Message (List ℕ) → Message (List ℕ)
with_id id m = record {
  initiator = m.initiator;
  responder = m.responder;
  sender = m.sender;
  id = id;
  body = m.body;
}

-- a message is written once more: the number of all, and the buffer
abbrev pub write_more : Message (List ℕ) → ℕ × List ℕ → ℕ × List ℕ
write_more m (all, out) = (mixed all (write_number (written m out) (overwritten m out)), overwritten m out)

-- a message is written many times to one buffer, with the IDs 0, 1 and so on
abbrev pub writes : Message (List ℕ) → ℕ → List ℕ → ℕ × List ℕ
writes m zero out = (0, out)
writes m (suc times) out = write_more (with_id times m) (writes m times out)

-- the same of a message that is read first; 0 where it is none
abbrev pub read_and_writes : Result (Message (List ℕ)) DecodeRefusal → ℕ → List ℕ → ℕ × List ℕ
read_and_writes (Ok m) times out = writes m times out
read_and_writes (Err e) times out = (0, out)

-- What was read, with its nonce as octets.
use Rattle.std.specs.Prelude.{ℕ, List, Ok, Err, Result}
use Rattle.std.specs.Borrow.{Bor}
use Rattle.wire.specs.Messages.{plain_request, plain_response, plain_body, plain}
use Rattle.wire.specs.declared.message.Message.{Message}
use Rattle.wire.specs.declared.message.Body.{Body}
use Rattle.wire.specs.declared.message.Request.{Request}
use Rattle.wire.specs.declared.message.Response.{Response}
use Rattle.wire.specs.declared.message.DecodeRefusal.{DecodeRefusal}

abbrev pub offer_read : Result (ℕ × Bor (List ℕ)) DecodeRefusal → Result (ℕ × List ℕ) DecodeRefusal
offer_read (Ok p) = Ok (p.0, p.1.now)
offer_read (Err e) = Err e

abbrev pub request_read : Result (Request (Bor (List ℕ))) DecodeRefusal → Result (Request (List ℕ)) DecodeRefusal
request_read (Ok r) = Ok (plain_request (λ x. x.now) r)
request_read (Err e) = Err e

abbrev pub response_read : Result (Response (Bor (List ℕ))) DecodeRefusal → Result (Response (List ℕ)) DecodeRefusal
response_read (Ok r) = Ok (plain_response (λ x. x.now) r)
response_read (Err e) = Err e

abbrev pub body_read : Result (Body (Bor (List ℕ))) DecodeRefusal → Result (Body (List ℕ)) DecodeRefusal
body_read (Ok b) = Ok (plain_body (λ x. x.now) b)
body_read (Err e) = Err e

abbrev pub message_read : Result (Message (Bor (List ℕ))) DecodeRefusal → Result (Message (List ℕ)) DecodeRefusal
message_read (Ok m) = Ok (plain (λ x. x.now) m)
message_read (Err e) = Err e

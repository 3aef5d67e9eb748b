-- A message as a plain record, and what C is told where octets are read.
use Rattle.std.specs.Prelude.{ℕ, ◌-◌, List, [], ◌++◌, length, replicate, Ok, Err, Result}
use Rattle.nonce.specs.declared.side.Side.{Side}
use Rattle.nonce.specs.declared.side.Side.TheVariants.{A, B}
use Rattle.wire.specs.Payloads.{failure_number, failure_spi}
use Rattle.wire.specs.Refusals.{decode_number}
use Rattle.wire.specs.declared.message.Message.{Message}
use Rattle.wire.specs.declared.message.Body.{Body}
use Rattle.wire.specs.declared.message.Body.TheVariants as body
use Rattle.wire.specs.declared.message.Request.{Request}
use Rattle.wire.specs.declared.message.Request.TheVariants as request
use Rattle.wire.specs.declared.message.Response.{Response}
use Rattle.wire.specs.declared.message.Response.TheVariants as response
use Rattle.wire.specs.declared.message.Failure.{Failure}
use Rattle.wire.specs.declared.message.DecodeRefusal.{DecodeRefusal}
use Rattle.exported.specs.declared.record.Record.{Record}
use Rattle.exported.specs.declared.record.Says.{Says}

-- the number of each end
abbrev pub side_number : Side → ℕ
side_number A = 0
side_number B = 1

-- a nonce in 32 places, with zeros behind
abbrev pub padded : List ℕ → List ℕ
padded n = n ++ replicate (32 - length n) 0

-- What a body says in numbers; 0 for what it has not.
pub record Said : Type 0 where
  pub kind : ℕ
  pub spi : ℕ
  pub rekeyed : ℕ
  pub failure : ℕ
  pub nonce : List ℕ

abbrev pub says : ℕ → ℕ → ℕ → ℕ → List ℕ → Said
says k s o f n = record { kind = k; spi = s; rekeyed = o; failure = f; nonce = n }

abbrev pub plainly : ℕ → ℕ → ℕ → Said
plainly k s f = says k s 0 f []

-- the same, as code has it
abbrev pub said : Says → Said
said s = says s.kind s.spi s.rekeyed s.failure s.nonce.now

-- a failure: the type of its notification, and the SPI that it names
abbrev pub failure_told : Failure → Said
failure_told f = plainly 6 (failure_spi f) (failure_number f)

abbrev pub request_says : Request (List ℕ) → Said
request_says (request.Create spi n) = says 1 spi 0 0 n
request_says (request.Rekey old spi n) = says 2 spi old 0 n
request_says (request.Delete spi) = plainly 3 spi 0
request_says request.Empty = plainly 4 0 0

abbrev pub response_says : Response (List ℕ) → Said
response_says (response.NewSa spi n) = says 5 spi 0 0 n
response_says (response.Failed e) = failure_told e
response_says (response.Delete spi) = plainly 7 spi 0
response_says response.Empty = plainly 8 0 0

abbrev pub body_says : Body (List ℕ) → Said
body_says (body.Request r) = request_says r
body_says (body.Response r) = response_says r

-- the record of a message
abbrev pub record_with : Message (List ℕ) → Said → Record
record_with m b = record {
  initiator = m.initiator;
  responder = m.responder;
  id = m.id;
  spi = b.spi;
  rekeyed = b.rekeyed;
  failure = b.failure;
  sender = side_number m.sender;
  kind = b.kind;
  nonce_len = length b.nonce;
  nonce = padded b.nonce;
}

abbrev pub record_of : Message (List ℕ) → Record
record_of m = record_with m (body_says m.body)

-- what C is told: 0 and the record, or the number of the refusal and the record as it was
abbrev pub told : Result (Message (List ℕ)) DecodeRefusal → Record → ℕ × Record
told (Ok m) out = (0, record_of m)
told (Err e) out = (decode_number e, out)

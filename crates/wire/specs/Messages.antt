-- The octets of a message: the header, and the chain of its payloads.
use Rattle.std.specs.Prelude.{ℕ, ◌+◌, List, [], ◌∷◌, ◌++◌, length, Some, None, Option}
use Rattle.octets.specs.Numbers.{be16, be32, be64}
use Rattle.wire.specs.Payloads.{sa_body, ts_body, rekey_body, failure_body, delete_body}
use Rattle.wire.specs.declared.message.Message.{Message}
use Rattle.wire.specs.declared.message.Body.{Body}
use Rattle.wire.specs.declared.message.Body.TheVariants as body
use Rattle.wire.specs.declared.message.Request.{Request}
use Rattle.wire.specs.declared.message.Request.TheVariants as request
use Rattle.wire.specs.declared.message.Response.{Response}
use Rattle.wire.specs.declared.message.Response.TheVariants as response
use Rattle.wire.specs.declared.payload.PayloadType.{PayloadType}
use Rattle.wire.specs.declared.payload.PayloadType.TheVariants as type
use Rattle.wire.specs.declared.header.Exchange.{Exchange}
use Rattle.wire.specs.declared.header.Exchange.TheVariants.{CreateChildSa, Informational}
use Rattle.wire.specs.declared.header.Direction.{Direction}
use Rattle.wire.specs.declared.header.Direction.TheVariants.{Asking, Answering}
use Rattle.wire.specs.declared.header.Flags.{Flags}
use Rattle.nonce.specs.declared.side.Side.{Side}
use Rattle.nonce.specs.declared.side.Side.TheVariants.{A, B}

-- The same message with its nonce as octets, by f from how it is held.
module _ {N : Type 0} (f : N → List ℕ) where
  abbrev pub plain_request : Request N → Request (List ℕ)
  plain_request (request.Create spi n) = request.Create spi (f n)
  plain_request (request.Rekey old spi n) = request.Rekey old spi (f n)
  plain_request (request.Delete spi) = request.Delete spi
  plain_request request.Empty = request.Empty

  abbrev pub plain_response : Response N → Response (List ℕ)
  plain_response (response.NewSa spi n) = response.NewSa spi (f n)
  plain_response (response.Failed e) = response.Failed e
  plain_response (response.Delete spi) = response.Delete spi
  plain_response response.Empty = response.Empty

  abbrev pub plain_body : Body N → Body (List ℕ)
  plain_body (body.Request r) = body.Request (plain_request r)
  plain_body (body.Response r) = body.Response (plain_response r)

  abbrev pub plain : Message N → Message (List ℕ)
  plain m = record {
    initiator = m.initiator;
    responder = m.responder;
    sender = m.sender;
    id = m.id;
    body = plain_body m.body;
  }

-- the types of payloads by their numbers, and what announces the next payload: 0 where there is none
abbrev pub type_number : PayloadType → ℕ
type_number type.Sa = 33
type_number type.Nonce = 40
type_number type.Notify = 41
type_number type.Delete = 42
type_number type.TsInitiator = 44
type_number type.TsResponder = 45

abbrev pub announced : Option PayloadType → ℕ
announced None = 0
announced (Some t) = type_number t

-- A payload: its type, and the octets behind its four opening octets.
pub record Part : Type 0 where
  pub type : ℕ
  pub body : List ℕ

abbrev pub part : ℕ → List ℕ → Part
part t b = record { type = t; body = b }

-- the payloads of an offer: SA, Nonce, TSi, TSr
abbrev pub offer_parts : ℕ → List ℕ → List Part
offer_parts spi nonce = part 33 (sa_body spi) ∷ part 40 nonce ∷ part 44 ts_body ∷ part 45 ts_body ∷ []

-- the payloads of each message, in their order
abbrev pub request_parts : Request (List ℕ) → List Part
request_parts (request.Create spi nonce) = offer_parts spi nonce
request_parts (request.Rekey old spi nonce) = part 41 (rekey_body old) ∷ offer_parts spi nonce
request_parts (request.Delete spi) = part 42 (delete_body spi) ∷ []
request_parts request.Empty = []

abbrev pub response_parts : Response (List ℕ) → List Part
response_parts (response.NewSa spi nonce) = offer_parts spi nonce
response_parts (response.Failed e) = part 41 (failure_body e) ∷ []
response_parts (response.Delete spi) = part 42 (delete_body spi) ∷ []
response_parts response.Empty = []

abbrev pub parts_of : Body (List ℕ) → List Part
parts_of (body.Request r) = request_parts r
parts_of (body.Response r) = response_parts r

-- the type of the first payload, or 0 where there is none
abbrev pub first_type : List Part → ℕ
first_type [] = 0
first_type (p ∷ ps) = p.type

-- Each payload opens with the type of the next, a zero octet, and its length with these four octets counted in.
abbrev pub chain : List Part → List ℕ
chain [] = []
chain (p ∷ ps) = first_type ps ∷ 0 ∷ (be16 (4 + length p.body) ++ (p.body ++ chain ps))

abbrev pub exchange_number : Exchange → ℕ
exchange_number CreateChildSa = 36
exchange_number Informational = 37

-- the exchange that a request and a response belong to
abbrev pub request_exchange : Request (List ℕ) → ℕ
request_exchange (request.Create spi nonce) = exchange_number CreateChildSa
request_exchange (request.Rekey old spi nonce) = exchange_number CreateChildSa
request_exchange (request.Delete spi) = exchange_number Informational
request_exchange request.Empty = exchange_number Informational

abbrev pub response_exchange : Response (List ℕ) → ℕ
response_exchange (response.NewSa spi nonce) = exchange_number CreateChildSa
response_exchange (response.Failed e) = exchange_number CreateChildSa
response_exchange (response.Delete spi) = exchange_number Informational
response_exchange response.Empty = exchange_number Informational

abbrev pub exchange_of : Body (List ℕ) → ℕ
exchange_of (body.Request r) = request_exchange r
exchange_of (body.Response r) = response_exchange r

-- the flags: 0x08 where A sends, and 0x20 in a response
abbrev pub sender_flag : Side → ℕ
sender_flag A = 0x08
sender_flag B = 0x00

abbrev pub direction_flag : Direction → ℕ
direction_flag Asking = 0x00
direction_flag Answering = 0x20

abbrev pub flags_octet : Flags → ℕ
flags_octet f = sender_flag f.sender + direction_flag f.direction

abbrev pub response_flag : Body (List ℕ) → ℕ
response_flag (body.Request r) = 0x00
response_flag (body.Response r) = 0x20

-- the type of the first payload, the version, the exchange and the flags
abbrev pub kinds : Side → Body (List ℕ) → List ℕ
kinds s b = first_type (parts_of b) ∷ 0x20 ∷ exchange_of b ∷ (sender_flag s + response_flag b) ∷ []

-- The header of 28 octets, its last four the length of the whole, and then the payloads.
abbrev pub octets_of : Message (List ℕ) → List ℕ
octets_of m =
    be64 m.initiator
    ++ (be64 m.responder
    ++ (kinds m.sender m.body
    ++ (be32 m.id ++ (be32 (28 + length (chain (parts_of m.body))) ++ chain (parts_of m.body)))))

-- What octets say as a message, or the first check that they fail.
use Rattle.std.specs.Prelude.{ℕ, ◌-◌, Bool, cond, ◌&&◌, List, [], ◌∷◌, length, take, drop, Some, None, Ok, Err, Option, Result, ◌==◌, nat_le, slice_index, slice_index_or}
use Rattle.std.specs.Str.{bytes_eq}
use Rattle.octets.specs.Numbers.{half, word, long}
use Rattle.nonce.specs.Nonces.{nonce_long}
use Rattle.wire.specs.Messages.{exchange_number}
use Rattle.wire.specs.Payloads.{ts_body, sa_in, rekeyed_in, deleted_in, failure_in}
use Rattle.wire.specs.declared.message.Message.{Message}
use Rattle.wire.specs.declared.message.Body.{Body}
use Rattle.wire.specs.declared.message.Body.TheVariants as body
use Rattle.wire.specs.declared.message.Request.{Request}
use Rattle.wire.specs.declared.message.Request.TheVariants as request
use Rattle.wire.specs.declared.message.Response.{Response}
use Rattle.wire.specs.declared.message.Response.TheVariants as response
use Rattle.wire.specs.declared.message.Failure.{Failure}
use Rattle.wire.specs.declared.message.DecodeRefusal.{DecodeRefusal}
use Rattle.wire.specs.declared.message.DecodeRefusal.TheVariants as refusal
use Rattle.nonce.specs.declared.side.Side.{Side}
use Rattle.nonce.specs.declared.side.Side.TheVariants.{A, B}
use Rattle.wire.specs.declared.header.Header.{Header}
use Rattle.wire.specs.declared.header.Exchange.{Exchange}
use Rattle.wire.specs.declared.header.Exchange.TheVariants.{CreateChildSa, Informational}
use Rattle.wire.specs.declared.header.Flags.{Flags}
use Rattle.wire.specs.declared.header.Direction.{Direction}
use Rattle.wire.specs.declared.header.Direction.TheVariants.{Asking, Answering}

-- First check (40): 28 to 160 octets, as many as the header says.
abbrev pub sized : List ℕ → Bool
sized s = nat_le 28 (length s) && (nat_le (length s) 160 && word s 24 == length s)

-- Second check (41): the version, the exchange type and the flags, which are octets 17, 18 and 19.
abbrev pub version_known : ℕ → Bool
version_known v = v == 0x20

abbrev pub exchange_in : ℕ → Option Exchange
exchange_in x = cond (x == exchange_number CreateChildSa) (Some CreateChildSa) (cond (x == exchange_number Informational) (Some Informational) None)

abbrev pub flags : Side → Direction → Flags
flags s d = record { sender = s; direction = d }

abbrev pub flags_in : ℕ → Option Flags
flags_in f =
    cond (f == 0x00) (Some (flags B Asking))
    (cond (f == 0x08) (Some (flags A Asking))
    (cond (f == 0x20) (Some (flags B Answering)) (cond (f == 0x28) (Some (flags A Answering)) None)))

abbrev pub header_from : List ℕ → Option Exchange → Option Flags → Option Header
header_from s None f = None
header_from s (Some x) None = None
header_from s (Some x) (Some f) = Some (record {
  initiator = long s 0;
  responder = long s 8;
  next = slice_index s 16;
  exchange = x;
  flags = f;
  id = word s 20;
})

unfoldable pub header_in : List ℕ → Option Header
header_in s = cond (version_known (slice_index s 17)) (header_from s (exchange_in (slice_index s 18)) (flags_in (slice_index s 19))) None

-- Third check (42): a chain of payloads in an order that such a message has.
-- A payload stands at the front of a chain: its zero octet is 0, and its length is at least 4 and ends within.
abbrev pub opens : List ℕ → Bool
opens s = nat_le 4 (length s) && (slice_index s 1 == 0 && (nat_le 4 (half s 2) && nat_le (half s 2) (length s)))

-- the first payload of a chain: its body, the type of the next, and the octets behind it
pub record Opened : Type 0 where
  pub body : List ℕ
  pub next : ℕ
  pub rest : List ℕ

unfoldable pub opened : List ℕ → Option Opened
opened s = cond (opens s) (Some (record { body = take (half s 2 - 4) (drop 4 s); next = slice_index s 0; rest = drop (half s 2) s })) None

-- the first payload of a chain, where it has this type; k is the type that is announced for it
abbrev pub taken : ℕ → ℕ → List ℕ → Option Opened
taken t k s = cond (k == t) (opened s) None

abbrev pub before : List ℕ → Option (List (List ℕ)) → Option (List (List ℕ))
before b None = None
before b (Some bs) = Some (b ∷ bs)

abbrev pub followed : Option Opened → (Opened → Option (List (List ℕ))) → Option (List (List ℕ))
followed None f = None
followed (Some o) f = before o.body (f o)

-- the bodies of the payloads, where the chain has exactly these types and ends with them
abbrev pub bodies : List ℕ → ℕ → List ℕ → Option (List (List ℕ))
bodies [] k s = cond (k == 0 && length s == 0) (Some []) None
bodies (t ∷ ts) k s = followed (taken t k s) (λ o. bodies ts o.next o.rest)

-- the orders of types: an offer, a rekey, one payload alone, none
abbrev pub offer_order : List ℕ
offer_order = 33 ∷ 40 ∷ 44 ∷ 45 ∷ []

abbrev pub rekey_order : List ℕ
rekey_order = 41 ∷ offer_order

-- Fourth check, payload by payload: 44 for the length of a nonce, 43 for all else.
-- an offer: its SPI and nonce
abbrev pub nonce_then : ℕ → List (List ℕ) → Result (ℕ × List ℕ) DecodeRefusal
nonce_then spi bs =
    cond (nonce_long (slice_index_or bs 1 []))
    (cond (bytes_eq (slice_index_or bs 2 []) ts_body && bytes_eq (slice_index_or bs 3 []) ts_body) (Ok (spi, slice_index_or bs 1 [])) (Err refusal.Payload))
    (Err refusal.NonceLength)

abbrev pub sa_then : Option ℕ → List (List ℕ) → Result (ℕ × List ℕ) DecodeRefusal
sa_then None bs = Err refusal.Payload
sa_then (Some spi) bs = nonce_then spi bs

unfoldable pub offer_in : List (List ℕ) → Result (ℕ × List ℕ) DecodeRefusal
offer_in bs = sa_then (sa_in (slice_index_or bs 0 [])) bs

abbrev pub as_create : Result (ℕ × List ℕ) DecodeRefusal → Result (Request (List ℕ)) DecodeRefusal
as_create (Err e) = Err e
as_create (Ok o) = Ok (request.Create o.0 o.1)

abbrev pub as_rekey : Option ℕ → Result (ℕ × List ℕ) DecodeRefusal → Result (Request (List ℕ)) DecodeRefusal
as_rekey None r = Err refusal.Payload
as_rekey (Some old) (Err e) = Err e
as_rekey (Some old) (Ok o) = Ok (request.Rekey old o.0 o.1)

abbrev pub as_new : Result (ℕ × List ℕ) DecodeRefusal → Result (Response (List ℕ)) DecodeRefusal
as_new (Err e) = Err e
as_new (Ok o) = Ok (response.NewSa o.0 o.1)

abbrev pub as_failed : Option Failure → Result (Response (List ℕ)) DecodeRefusal
as_failed None = Err refusal.Payload
as_failed (Some e) = Ok (response.Failed e)

-- A request of the exchange CREATE_CHILD_SA is an offer, or a rekey.
abbrev pub rekey_from : Option (List (List ℕ)) → Result (Request (List ℕ)) DecodeRefusal
rekey_from None = Err refusal.Chain
rekey_from (Some bs) = as_rekey (rekeyed_in (slice_index_or bs 0 [])) (offer_in (drop 1 bs))

abbrev pub create_or : Option (List (List ℕ)) → Result (Request (List ℕ)) DecodeRefusal → Result (Request (List ℕ)) DecodeRefusal
create_or None r = r
create_or (Some bs) r = as_create (offer_in bs)

unfoldable pub request_in : ℕ → List ℕ → Result (Request (List ℕ)) DecodeRefusal
request_in k s = create_or (bodies offer_order k s) (rekey_from (bodies rekey_order k s))

-- A response of that exchange is an offer, or an error notification.
abbrev pub failed_from : Option (List (List ℕ)) → Result (Response (List ℕ)) DecodeRefusal
failed_from None = Err refusal.Chain
failed_from (Some bs) = as_failed (failure_in (slice_index_or bs 0 []))

abbrev pub new_or : Option (List (List ℕ)) → Result (Response (List ℕ)) DecodeRefusal → Result (Response (List ℕ)) DecodeRefusal
new_or None r = r
new_or (Some bs) r = as_new (offer_in bs)

unfoldable pub response_in : ℕ → List ℕ → Result (Response (List ℕ)) DecodeRefusal
response_in k s = new_or (bodies offer_order k s) (failed_from (bodies (41 ∷ []) k s))

-- A message of the exchange INFORMATIONAL has no payload, or deletes an SA.
abbrev pub as_deleted : Option ℕ → Result (Option ℕ) DecodeRefusal
as_deleted None = Err refusal.Payload
as_deleted (Some spi) = Ok (Some spi)

abbrev pub deleted_from : Option (List (List ℕ)) → Result (Option ℕ) DecodeRefusal
deleted_from None = Err refusal.Chain
deleted_from (Some bs) = as_deleted (deleted_in (slice_index_or bs 0 []))

abbrev pub empty_or : Option (List (List ℕ)) → Result (Option ℕ) DecodeRefusal → Result (Option ℕ) DecodeRefusal
empty_or None r = r
empty_or (Some bs) r = Ok None

unfoldable pub informational_in : ℕ → List ℕ → Result (Option ℕ) DecodeRefusal
informational_in k s = empty_or (bodies [] k s) (deleted_from (bodies (42 ∷ []) k s))

abbrev pub informs_request : Result (Option ℕ) DecodeRefusal → Result (Body (List ℕ)) DecodeRefusal
informs_request (Err e) = Err e
informs_request (Ok None) = Ok (body.Request request.Empty)
informs_request (Ok (Some spi)) = Ok (body.Request (request.Delete spi))

abbrev pub informs_response : Result (Option ℕ) DecodeRefusal → Result (Body (List ℕ)) DecodeRefusal
informs_response (Err e) = Err e
informs_response (Ok None) = Ok (body.Response response.Empty)
informs_response (Ok (Some spi)) = Ok (body.Response (response.Delete spi))

abbrev pub asks : Result (Request (List ℕ)) DecodeRefusal → Result (Body (List ℕ)) DecodeRefusal
asks (Err e) = Err e
asks (Ok r) = Ok (body.Request r)

abbrev pub answers : Result (Response (List ℕ)) DecodeRefusal → Result (Body (List ℕ)) DecodeRefusal
answers (Err e) = Err e
answers (Ok r) = Ok (body.Response r)

abbrev pub body_in : Exchange → Direction → ℕ → List ℕ → Result (Body (List ℕ)) DecodeRefusal
body_in CreateChildSa Asking k s = asks (request_in k s)
body_in CreateChildSa Answering k s = answers (response_in k s)
body_in Informational Asking k s = informs_request (informational_in k s)
body_in Informational Answering k s = informs_response (informational_in k s)

-- the message
abbrev pub with_body : Header → Result (Body (List ℕ)) DecodeRefusal → Result (Message (List ℕ)) DecodeRefusal
with_body h (Err e) = Err e
with_body h (Ok b) = Ok (record {
  initiator = h.initiator;
  responder = h.responder;
  sender = h.flags.sender;
  id = h.id;
  body = b;
})

abbrev pub with_header : Option Header → List ℕ → Result (Message (List ℕ)) DecodeRefusal
with_header None s = Err refusal.Header
with_header (Some h) s = with_body h (body_in h.exchange h.flags.direction h.next (drop 28 s))

unfoldable pub decoded : List ℕ → Result (Message (List ℕ)) DecodeRefusal
decoded s = cond (sized s) (with_header (header_in s) s) (Err refusal.Length)

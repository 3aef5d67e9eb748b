-- A message has one encoding, and nothing else is read as it.
use Rattle.std.specs.Prelude.{◌≡◌, ℕ, ◌^◌, ◌<◌, ◌≤◌, List, length, Ok, slice_index}
use Rattle.wire.specs.Messages.{octets_of}
use Rattle.wire.specs.Decoding.{decoded}
use Rattle.wire.specs.declared.message.Message.{Message}
use Rattle.wire.specs.declared.message.Body.{Body}
use Rattle.wire.specs.declared.message.Body.TheVariants as body
use Rattle.wire.specs.declared.message.Request.{Request}
use Rattle.wire.specs.declared.message.Request.TheVariants as request
use Rattle.wire.specs.declared.message.Response.{Response}
use Rattle.wire.specs.declared.message.Response.TheVariants as response
use Rattle.wire.specs.declared.message.Failure.{Failure}
use Rattle.wire.specs.declared.message.Failure.TheVariants.{NoProposalChosen, NoAdditionalSas, TemporaryFailure, ChildSaNotFound}

-- each is an octet
abbrev pub Octets : List ℕ → Type 0
Octets s = (i : ℕ) → slice_index s i < 256

-- The numbers of a message fit their fields, and its nonce has 16 to 32 octets.
abbrev pub ValidOffer : ℕ → List ℕ → Type 0
ValidOffer spi nonce = (spi < 2 ^ 32) × (16 ≤ length nonce) × (length nonce ≤ 32)

abbrev pub ValidRequest : Request (List ℕ) → Type 0
ValidRequest (request.Create spi nonce) = ValidOffer spi nonce
ValidRequest (request.Rekey old spi nonce) = (old < 2 ^ 32) × ValidOffer spi nonce
ValidRequest (request.Delete spi) = spi < 2 ^ 32
ValidRequest request.Empty = Unit {0}

abbrev pub ValidFailure : Failure → Type 0
ValidFailure NoProposalChosen = Unit {0}
ValidFailure NoAdditionalSas = Unit {0}
ValidFailure TemporaryFailure = Unit {0}
ValidFailure (ChildSaNotFound spi) = spi < 2 ^ 32

abbrev pub ValidResponse : Response (List ℕ) → Type 0
ValidResponse (response.NewSa spi nonce) = ValidOffer spi nonce
ValidResponse (response.Failed e) = ValidFailure e
ValidResponse (response.Delete spi) = spi < 2 ^ 32
ValidResponse response.Empty = Unit {0}

abbrev pub ValidBody : Body (List ℕ) → Type 0
ValidBody (body.Request r) = ValidRequest r
ValidBody (body.Response r) = ValidResponse r

pub record Valid (m : Message (List ℕ)) : Type 0 where
  pub initiator : m.initiator < 2 ^ 64
  pub responder : m.responder < 2 ^ 64
  pub id : m.id < 2 ^ 32
  pub body : ValidBody m.body

pub record OneEncoding : Type 0 where
  -- reading the octets of a message gives the message back
  pub back : (m : Message (List ℕ)) → Valid m → decoded (octets_of m) ≡ Ok m
  -- whatever is read has exactly the octets of what it is read as
  pub exact : (s : List ℕ) (m : Message (List ℕ)) → Octets s → decoded s ≡ Ok m → (octets_of m ≡ s) × Valid m
  -- messages with equal octets are the same
  pub single : (m n : Message (List ℕ)) → Valid m → Valid n → octets_of m ≡ octets_of n → m ≡ n
  -- a message has 28 to 160 octets
  pub size : (m : Message (List ℕ)) → Valid m → (28 ≤ length (octets_of m)) × (length (octets_of m) ≤ 160)

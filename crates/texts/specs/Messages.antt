-- What is printed of a message.
use Rattle.std.specs.Prelude.{ℕ, List, ◌++◌, codes, decimal}
use Rattle.octets.specs.Numbers.{be64}
use Rattle.nonce.specs.Names.{side_text}
use Rattle.wire.specs.declared.message.Message.{Message}
use Rattle.wire.specs.declared.message.Body.{Body}
use Rattle.wire.specs.declared.message.Body.TheVariants as body
use Rattle.wire.specs.declared.message.Request.{Request}
use Rattle.wire.specs.declared.message.Request.TheVariants as request
use Rattle.wire.specs.declared.message.Response.{Response}
use Rattle.wire.specs.declared.message.Response.TheVariants as response
use Rattle.wire.specs.declared.message.Failure.TheVariants.{NoProposalChosen, NoAdditionalSas, TemporaryFailure, ChildSaNotFound}
use Rattle.texts.specs.Hex.{hex_text}

-- an SPI of the IKE SA: its eight octets
abbrev pub ike_text : ℕ → List ℕ
ike_text n = hex_text (be64 n)

-- an SPI and a nonce
abbrev pub offer_text : ℕ → List ℕ → List ℕ
offer_text spi n = codes "spi " ++ (decimal spi ++ (codes " nonce " ++ hex_text n))

abbrev pub request_text : Request (List ℕ) → List ℕ
request_text (request.Create spi n) = codes "create " ++ offer_text spi n
request_text (request.Rekey old spi n) = codes "rekey old " ++ (decimal old ++ (codes " " ++ offer_text spi n))
request_text (request.Delete spi) = codes "delete spi " ++ decimal spi
request_text request.Empty = codes "empty"

abbrev pub response_text : Response (List ℕ) → List ℕ
response_text (response.NewSa spi n) = codes "new " ++ offer_text spi n
response_text (response.Failed NoProposalChosen) = codes "notify 14"
response_text (response.Failed NoAdditionalSas) = codes "notify 35"
response_text (response.Failed TemporaryFailure) = codes "notify 43"
response_text (response.Failed (ChildSaNotFound spi)) = codes "notify 44 spi " ++ decimal spi
response_text (response.Delete spi) = codes "delete spi " ++ decimal spi
response_text response.Empty = codes "empty"

abbrev pub body_text : ℕ → Body (List ℕ) → List ℕ
body_text id (body.Request r) = codes "request " ++ (decimal id ++ (codes " " ++ request_text r))
body_text id (body.Response r) = codes "response " ++ (decimal id ++ (codes " " ++ response_text r))

-- the IKE SPIs, who sends it, and the rest
abbrev pub message_text : Message (List ℕ) → List ℕ
message_text m =
    codes "ike " ++ (ike_text m.initiator ++ (codes " " ++ (ike_text m.responder
    ++ (codes " " ++ (side_text m.sender ++ (codes " " ++ body_text m.id m.body))))))

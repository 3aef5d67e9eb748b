-- Messages as crate wire has them are a coding.
use Rattle.std.proofs.Common.{◌≡◌, ℕ, ◌^◌, ◌<◌, Bool, true, cond, leb, length, Some, None, refl, ap, ◌∙◌, arith}
use Rattle.std.proofs.lemmas.Bool.{leb-true, eq-eqb, and_parts, and_from}
use Rattle.nonce.specs.Nonces.{nonce_long}
use Rattle.nonce.specs.declared.side.Side.{Side}
use Rattle.nonce.specs.declared.side.Side.TheVariants.{A, B}
use Rattle.nonce.specs.Sides.{is_side}
use Rattle.wire.specs.Exact.{Valid, ValidOffer, ValidRequest, ValidResponse}
use Rattle.wire.proofs.Back.{message_back, message_size}
use Rattle.wire.specs.declared.message.Failure.TheVariants.{NoProposalChosen, NoAdditionalSas, TemporaryFailure, ChildSaNotFound}
use Rattle.wire.specs.declared.message.Request.{Request}
use Rattle.wire.specs.declared.message.Request.TheVariants as requests
use Rattle.wire.specs.declared.message.Response.{Response}
use Rattle.wire.specs.declared.message.Response.TheVariants as responses
use Rattle.protocol.specs.Model.{Nonce}
use Rattle.line.specs.Calls.{Msg, request, response, GoodWire, GoodReply, Coding}
use Rattle.line.specs.Codes.{body_of, id_of, message, msg_of, is_from, said_by, code, decode, Sendable, Coded}
use Rattle.line.specs.Rest.{Short}

-- what is good is valid
valid_offer : (spi : ℕ) (n : Nonce) → spi < 2 ^ 32 → nonce_long n ≡ true → ValidOffer spi n
valid_offer spi n b f =
    let p = and_parts (leb 16 (length n)) (leb (length n) 32) f in
    (b, leb-true 16 (length n) p.0, leb-true (length n) 32 p.1)

valid_request : (q : Request Nonce) → GoodWire (2 ^ 32) nonce_long q → ValidRequest q
valid_request (requests.Create o n) (b, f) = valid_offer o n b f
valid_request (requests.Rekey x o n) (b, c, f) = (c, valid_offer o n b f)
valid_request (requests.Delete x) b = b
valid_request requests.Empty b = tt

valid_response : (r : Response Nonce) → GoodReply (2 ^ 32) nonce_long r → ValidResponse r
valid_response (responses.NewSa k n) (b, f) = valid_offer k n b f
valid_response (responses.Failed NoProposalChosen) b = tt
valid_response (responses.Failed NoAdditionalSas) b = tt
valid_response (responses.Failed TemporaryFailure) b = tt
valid_response (responses.Failed (ChildSaNotFound x)) b = b
valid_response (responses.Delete k) b = b
valid_response responses.Empty b = tt

same_side : (s : Side) → is_side s s ≡ true
same_side A = refl
same_side B = refl

msg_back : (m : Msg) → msg_of (id_of m) (body_of m) ≡ m
msg_back (request id q) = refl
msg_back (response id r) = refl

module _ (i r : ℕ) (fits_i : i < 2 ^ 64) (fits_r : r < 2 ^ 64) where
  valid : (s : Side) (m : Msg) → Sendable m → Valid (message i r s m)
  valid s (request id q) (b, g) = record { initiator = fits_i; responder = fits_r; id = b; body = valid_request q g }
  valid s (response id p) (b, g) = record { initiator = fits_i; responder = fits_r; id = b; body = valid_response p g }

  from : (s : Side) (m : Msg) → is_from i r s (message i r s m) ≡ true
  from s m = and_from _ _ (eq-eqb i i refl) (and_from _ _ (eq-eqb r r refl) (same_side s))

  pub back : (s : Side) (m : Msg) → Sendable m → decode i r s (code i r s m) ≡ Some m
  back s m g =
      ap (said_by i r s) (message_back (message i r s m) (valid s m g))
      ∙ ap (λ (b : Bool). cond b (Some (msg_of (id_of m) (body_of m))) None) (from s m)
      ∙ ap (λ (x : Msg). Some x) (msg_back m)

  abbrev pub coding : Coding
  coding = record { top = 2 ^ 32; fine = nonce_long; enc = code i r; dec = decode i r; back = back }

  -- every message that can be sent has 1 to 160 octets
  pub short : Short coding 160
  short s m g = let z = message_size (message i r s m) (valid s m g) in (omega (arith, z.0), z.1)

  pub coded : Coded i r
  coded = record { back = back; short = short }

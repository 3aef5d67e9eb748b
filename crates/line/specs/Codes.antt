-- The octets of a message between the ends of one IKE SA, and what octets say there.
use Rattle.std.specs.Prelude.{◌≡◌, ℕ, ◌^◌, ◌≤◌, Bool, cond, ◌&&◌, List, length, Some, None, Ok, Err, Option, Result, ◌==◌}
use Rattle.nonce.specs.Nonces.{nonce_long}
use Rattle.nonce.specs.declared.side.Side.{Side}
use Rattle.nonce.specs.Sides.{is_side}
use Rattle.wire.specs.Messages.{octets_of}
use Rattle.wire.specs.Decoding.{decoded}
use Rattle.wire.specs.declared.message.Body.{Body}
use Rattle.wire.specs.declared.message.Body.TheVariants as bodies
use Rattle.wire.specs.declared.message.DecodeRefusal.{DecodeRefusal}
use Rattle.wire.specs.declared.message.Message.{Message}
use Rattle.protocol.specs.Model.{Nonce}
use Rattle.line.specs.Calls.{Msg, request, response, good}

abbrev pub body_of : Msg → Body Nonce
body_of (request id q) = bodies.Request q
body_of (response id r) = bodies.Response r

abbrev pub id_of : Msg → ℕ
id_of (request id q) = id
id_of (response id r) = id

-- the message from the side s, with the IKE SPIs i of A and r of B
abbrev pub message : ℕ → ℕ → Side → Msg → Message Nonce
message i r s m = record { initiator = i; responder = r; sender = s; id = id_of m; body = body_of m }

abbrev pub msg_of : ℕ → Body Nonce → Msg
msg_of id (bodies.Request q) = request id q
msg_of id (bodies.Response r) = response id r

-- it has these IKE SPIs, and this side sent it
abbrev pub is_from : ℕ → ℕ → Side → Message Nonce → Bool
is_from i r s m = m.initiator == i && (m.responder == r && is_side m.sender s)

abbrev pub said_by : ℕ → ℕ → Side → Result (Message Nonce) DecodeRefusal → Option Msg
said_by i r s (Err e) = None
said_by i r s (Ok m) = cond (is_from i r s m) (Some (msg_of m.id m.body)) None

abbrev pub code : ℕ → ℕ → Side → Msg → List ℕ
code i r s m = octets_of (message i r s m)

abbrev pub decode : ℕ → ℕ → Side → List ℕ → Option Msg
decode i r s d = said_by i r s (decoded d)

-- what can be sent: numbers of 32 bits, nonces of 16 to 32 octets
abbrev pub Sendable : Msg → Type 0
Sendable m = good (2 ^ 32) nonce_long m

-- octets say the message that they were written for, and are few
pub record Coded (i r : ℕ) : Type 0 where
  pub back : (s : Side) (m : Msg) → Sendable m → decode i r s (code i r s m) ≡ Some m
  pub short : (s : Side) (m : Msg) → Sendable m → (1 ≤ length (code i r s m)) × (length (code i r s m) ≤ 160)

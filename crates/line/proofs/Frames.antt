-- What is on its way stays right as an end changes.
use Rattle.std.proofs.Common.{◌≡◌, Some, arith}
use Rattle.wire.specs.declared.message.Response.{Response}
use Rattle.protocol.specs.Model.{Nonce, Ask}
use Rattle.protocol.specs.Node.{asked, Node, InStep}
use Rattle.line.specs.Calls.{wire, Msg, request, response}
use Rattle.line.specs.Line.{OnWay}
use Rattle.line.specs.Shapes.{Sends, Quiets, Replies}

module _ (P Q P' : Node) (a : Ask) (s : Sends P a P') (due : P.next ≡ Q.exp) where
  pub sends_out : (m : Msg) → OnWay P Q m → OnWay P' Q m
  sends_out (request i q) h = grind arith
  sends_out (response i r) h = grind arith

  pub sends_in : (m : Msg) → OnWay Q P m → OnWay Q P' m
  sends_in (request i q) h = grind arith
  sends_in (response i r) h = grind arith

  pub sends_new : OnWay P' Q (request P.next (wire a))
  sends_new = grind arith

  pub sends_steps : InStep P' Q
  sends_steps = grind arith

  pub sends_back : InStep Q P → InStep Q P'
  sends_back h = grind arith

module _ (P Q P' : Node) (s : Quiets P P') (due : P.next ≡ Q.exp) where
  pub quiets_out : (m : Msg) → OnWay P Q m → OnWay P' Q m
  quiets_out (request i q) h = grind arith
  quiets_out (response i r) h = grind arith

  pub quiets_in : (m : Msg) → OnWay Q P m → OnWay Q P' m
  quiets_in (request i q) h = grind arith
  quiets_in (response i r) h = grind arith

  pub quiets_steps : InStep P' Q
  quiets_steps = grind arith

  pub quiets_back : InStep Q P → InStep Q P'
  quiets_back h = grind arith

module _ (P Q P' : Node) (a : Ask) (s : Replies P P') (out : Q.out ≡ asked P.exp a) (steps : InStep Q P) where
  pub replies_out : (m : Msg) → OnWay P Q m → OnWay P' Q m
  replies_out (request i q) h = grind arith
  replies_out (response i r) h = grind arith

  pub replies_in : (m : Msg) → OnWay Q P m → OnWay Q P' m
  replies_in (request i q) h = grind arith
  replies_in (response i r) h = grind arith

  pub replies_new : (r : Response Nonce) → P'.reply ≡ Some r → OnWay P' Q (response P.exp r)
  replies_new r e = grind arith

  pub replies_steps : InStep P Q → InStep P' Q
  replies_steps h = grind arith

  pub replies_back : InStep Q P'
  replies_back = grind arith

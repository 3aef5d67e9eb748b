-- What the line sees of a change of an end: IDs, reply and request.
use Rattle.std.specs.Prelude.{◌≡◌, suc}
use Rattle.protocol.specs.Model.{Ask}
use Rattle.protocol.specs.Node.{has, Out, idle, asked, Node}
use Rattle.line.specs.Calls.{wire}

-- P has sent the request a
pub record Sends (P : Node) (a : Ask) (P' : Node) : Type 0 where
  pub next : P'.next ≡ suc P.next
  pub out : P'.out ≡ asked P.next a
  pub exp : P'.exp ≡ P.exp
  pub reply : P'.reply ≡ P.reply

-- P has no request any more
pub record Quiets (P P' : Node) : Type 0 where
  pub next : P'.next ≡ P.next
  pub out : P'.out ≡ idle
  pub exp : P'.exp ≡ P.exp
  pub reply : P'.reply ≡ P.reply

-- the same request, but for what it has noted
abbrev pub SameOut : Out → Out → Type 0
SameOut idle idle = Unit {0}
SameOut idle (asked j b) = ⊥
SameOut (asked i a) idle = ⊥
SameOut (asked i a) (asked j b) = (i ≡ j) × (wire a ≡ wire b)

-- P has processed a request
pub record Replies (P P' : Node) : Type 0 where
  pub next : P'.next ≡ P.next
  pub out : SameOut P.out P'.out
  pub exp : P'.exp ≡ suc P.exp
  pub says : has P'.reply

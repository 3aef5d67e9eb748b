-- What is due and owed, and the weight, as an end changes.
use Rattle.std.proofs.Common.{◌≡◌, ℕ, suc, ◌+◌, ◌≤◌, Some, None, Option, refl, arith}
use Rattle.wire.specs.declared.message.Request.{Request}
use Rattle.wire.specs.declared.message.Response.{Response}
use Rattle.protocol.specs.Model.{Nonce, Ask, Link, quiet, sent, answered}
use Rattle.protocol.specs.Node.{Out, idle, asked, Node, link_by, link_of, InStep}
use Rattle.line.specs.Calls.{wire, Msg, request, response}
use Rattle.line.specs.Shapes.{Sends, Quiets, Replies}
use Rattle.line.specs.Rest.{due_of, owed_to, due, owed, heavy, weight}

-- P, which owes nothing to answer and is owed nothing, sends
module _ (P Q P' : Node) (a : Ask) (s : Sends P a P') (up : P.next ≡ Q.exp) (steps : InStep P Q) where
  pub sends_was : due P Q ≡ None
  sends_was = grind arith

  pub sends_due : due P' Q ≡ Some (request P.next (wire a))
  sends_due = grind arith

  pub sends_owed : owed P' Q ≡ owed P Q
  sends_owed = grind arith

  pub sends_theirs : due Q P' ≡ due Q P
  sends_theirs = grind arith

  pub sends_owing : owed Q P' ≡ None
  sends_owing = grind arith

  pub sends_weight : weight (link_of P' Q) ≡ 2 + heavy (wire a)
  sends_weight = grind arith

  pub sends_other : weight (link_of Q P') ≡ weight (link_of Q P)
  sends_other = grind arith

module _ (P Q P' : Node) (s : Quiets P P') (up : P.next ≡ Q.exp) (steps : InStep P Q) where
  pub quiets_was : due P Q ≡ None
  quiets_was = grind arith

  pub quiets_due : due P' Q ≡ None
  quiets_due = grind arith

  pub quiets_owed : owed P' Q ≡ owed P Q
  quiets_owed = grind arith

  pub quiets_theirs : due Q P' ≡ due Q P
  quiets_theirs = grind arith

  pub quiets_owing : owed Q P' ≡ None
  quiets_owing = grind arith

  pub quiets_weight : weight (link_of P' Q) ≡ 0
  quiets_weight = grind arith

  pub quiets_other : weight (link_of Q P') ≡ weight (link_of Q P)
  quiets_other = grind arith

module _ (P Q P' : Node) (a : Ask) (s : Replies P P') (out : Q.out ≡ asked P.exp a) where
  pub replies_was : owed P Q ≡ None
  replies_was = grind arith

  pub replies_due : due P' Q ≡ due P Q
  replies_due = grind arith

  pub replies_owed : (r : Response Nonce) → P'.reply ≡ Some r → owed P' Q ≡ Some (response P.exp r)
  replies_owed r e = grind arith

  pub replies_theirs : due Q P' ≡ None
  replies_theirs = grind arith

  pub replies_owing : owed Q P' ≡ owed Q P
  replies_owing = grind arith

  pub replies_weight : weight (link_of P' Q) ≡ weight (link_of P Q)
  replies_weight = grind arith

  pub replies_other : weight (link_of Q P) ≡ 1 + weight (link_of Q P')
  replies_other = grind arith

-- the message that is due is the outstanding request, that which is owed the stored reply
pub due_is : (P Q : Node) (m : Msg) → due Q P ≡ Some m → (a : Ask) × (Q.out ≡ asked P.exp a) × (m ≡ request P.exp (wire a))
due_is P Q m e = by Q.out refl e
  where
    by : (o : Out) → Q.out ≡ o → due_of o P.exp ≡ Some m → (a : Ask) × (Q.out ≡ asked P.exp a) × (m ≡ request P.exp (wire a))
    by idle u e = absurd (let z : ◌≡◌ {A = ℕ} 0 1 = cc in omega arith)
    by (asked i a) u e = (a, grind arith, grind arith)

abbrev pub Owed : Node → Node → Msg → Type 0
Owed P Q m = (i : ℕ) × (a : Ask) × (P.out ≡ asked i a) × (Q.exp ≡ suc i) × (r : Response Nonce) × (Q.reply ≡ Some r) × (m ≡ response i r)

pub owed_is : (P Q : Node) (m : Msg) → owed Q P ≡ Some m → Owed P Q m
owed_is P Q m e = by P.out refl Q.reply refl e
  where
    by : (o : Out) → P.out ≡ o → (x : Option (Response Nonce)) → Q.reply ≡ x → owed_to o Q.exp x ≡ Some m → Owed P Q m
    by idle u x q e = absurd (let z : ◌≡◌ {A = ℕ} 0 1 = cc in omega arith)
    by (asked i a) u None q e = absurd (let z : ◌≡◌ {A = ℕ} 0 1 = cc in omega arith)
    by (asked i a) u (Some r) q e = (i, a, u, grind arith, r, q, grind arith)

pub settled_weight : (P Q : Node) (i : ℕ) (a : Ask) → P.out ≡ asked i a → Q.exp ≡ suc i → weight (link_of P Q) ≡ 1 + heavy (wire a)
settled_weight P Q i a u e = grind arith

-- nothing due and nothing owed: at rest
pub no_weight : (P Q : Node) → InStep P Q → due P Q ≡ None → owed Q P ≡ None → weight (link_of P Q) ≡ 0
no_weight P Q s d o = grind arith

pub rests : (P Q : Node) → weight (link_of P Q) ≡ 0 → P.out ≡ idle
rests P Q h = by P.out refl h
  where
    by : (o : Out) → P.out ≡ o → weight (link_by o Q.exp Q.reply) ≡ 0 → P.out ≡ idle
    by idle u h = u
    by (asked i a) u h = absurd (grind arith)

heavy_most : (q : Request Nonce) → heavy q ≤ 2
heavy_most q = grind arith

pub weight_most : (l : Link) → weight l ≤ 4
weight_most quiet = omega arith
weight_most (sent a) = let k = heavy_most (wire a) in omega arith
weight_most (answered a r) = let k = heavy_most (wire a) in omega arith

use Rattle.std.proofs.Common.{◌∙◌}
use Rattle.nonce.proofs.Tails.{whole}
use Rattle.nonce.proofs.order.compare.precedes.Goals as goal

pub returns : goal.returns
returns c = c.lower_or.ensures ∙ whole c.a.inside c.b.inside _ _ c.a.invariant c.b.invariant c.a.view_is c.b.view_is

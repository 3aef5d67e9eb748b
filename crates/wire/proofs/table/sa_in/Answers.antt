use Rattle.std.proofs.Common.{refl, rules}
use Rattle.wire.specs.Payloads.{sa_body, sa_in}
use Rattle.wire.proofs.Carried.{carried_kept}
use Rattle.wire.proofs.table.sa_in.Goals as goal

pub returns : goal.returns
unfolding sa_in sa_body
returns c =
    carried_kept sa_body c.args.body.now 8 c.u32_at.result _ _ (λ x. refl) c.u32_at.ensures (λ x b a. search rules)
    c.filter.ensures

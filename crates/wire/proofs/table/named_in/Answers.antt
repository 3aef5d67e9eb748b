use Rattle.std.proofs.Common.{◌∙◌, rules}
use Rattle.wire.specs.Payloads.{naming_body}
use Rattle.wire.proofs.Carried.{carried_kept}
use Rattle.wire.proofs.Namings.{naming_long, carried-named}
use Rattle.wire.proofs.table.named_in.Goals as goal

pub returns : goal.returns
returns c =
    let n = c.args.naming in
    let s = c.args.body.now in
    carried_kept (naming_body n) s 4 c.u32_at.result _ _ (naming_long n) c.u32_at.ensures (λ x b a. search rules) c.filter.ensures
    ∙ carried-named n s

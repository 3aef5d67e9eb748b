use Rattle.std.proofs.Common.{sym, ◌∙◌}
use Rattle.nonce.proofs.Eights.{alike, apart}
use Rattle.nonce.proofs.order.compare.+lower_or.Goals as goal

pub returns-then-x-y : goal.returns-then-x-y
returns-then-x-y t c =
    let cut = c.in-Some-Some.ensures.cases in
    let other = c.in-Some-Some.ensures'.cases in
    c.lower_or.ensures
    ∙ sym (alike _ _ _ _ _ _ _ _ _ cut other c.type_inv.a c.type_inv.b c.from_be_bytes-x.ensures c.from_be_bytes-y.ensures c.if-x-y.true)

pub returns-else-x-y : goal.returns-else-x-y
returns-else-x-y t c =
    let cut = c.in-Some-Some.ensures.cases in
    let other = c.in-Some-Some.ensures'.cases in
    sym (apart _ _ _ _ _ _ _ _ _ cut other c.type_inv.a c.type_inv.b c.from_be_bytes-x.ensures c.from_be_bytes-y.ensures c.if-x-y.false)

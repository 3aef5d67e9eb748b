use Rattle.std.proofs.Common.{◌≡◌, sym, ap, ◌∙◌, subst}
use Rattle.nonce.specs.Order.{loser_by, loser_in, LosesIn}
use Rattle.nonce.proofs.Losing.{loses}
use Rattle.nonce.proofs.order.compare.loser.Goals as goal

pub returns : goal.returns
returns c =
    let a = c.args.a.now in
    let b = c.args.b.now in
    let v : c.exchange_of.result ≡ loser_in a b = c.exchange_of.ensures ∙ ap loser_by c.lowest.ensures in
    let l =
    loses a.initiator a.responder b.initiator
    b.responder
    in
    record { value = v; lowest = subst (λ s. LosesIn s a b) (sym v) l }

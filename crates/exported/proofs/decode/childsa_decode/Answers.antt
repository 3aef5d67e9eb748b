use Rattle.std.proofs.Common.{sym}
use Rattle.wire.specs.Messages.{plain}
use Rattle.exported.proofs.decode.childsa_decode.Goals as goal

-- what is read is a message, so its nonce has at most 32 octets
pub recorded-requires : goal.recorded-requires
recorded-requires c =
    (c.decode.ensures.exact.exact c.args.octets.now (plain (λ n. n.now) c.in-Ok.message) (λ i. (c.type_inv.octets i).fits) (sym c.in-Ok.ensures.value)).1.body

use Rattle.std.proofs.Common.{sym}
use Rattle.wire.specs.Messages.{plain}
use Rattle.benched.proofs.encoding.benched_encode.Goals as goal

-- what is read is a message, so its nonce has 16 to 32 octets
pub owned-requires : goal.owned-requires
owned-requires c =
    (c.decode.ensures.exact.exact c.args.octets.now (plain (λ n. n.now) c.in-Ok.message) (λ i. (c.type_inv.octets i).fits) (sym c.in-Ok.ensures.value)).1.body

-- Each worked line, computed.
use Rattle.std.proofs.Common.{refl}
use Rattle.wire.specs.Lines.{lines, AllHold}
use Rattle.wire.specs.Payloads.{sa_body, ts_body, delete_body, carried, sa_in}
use Rattle.wire.specs.Decoding.{header_in, opened, offer_in, request_in, decoded}

pub all_hold : AllHold lines
unfolding sa_body ts_body delete_body carried sa_in header_in opened offer_in request_in decoded
all_hold =
    (refl, (refl, ((refl, refl), (refl, ((λ i r. refl), ((λ i r. refl), ((λ i r. refl), tt)))))))

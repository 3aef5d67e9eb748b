-- One encoding for each message.
use Rattle.std.proofs.Common.{◌≡◌, ℕ, List, Ok, Result, sym, ap, ◌∙◌}
use Rattle.wire.specs.Messages.{octets_of}
use Rattle.wire.specs.Decoding.{decoded}
use Rattle.wire.specs.Exact.{Valid, OneEncoding}
use Rattle.wire.specs.declared.message.Message.{Message}
use Rattle.wire.specs.declared.message.DecodeRefusal.{DecodeRefusal}
use Rattle.wire.proofs.Back.{message_back, message_size}
use Rattle.wire.proofs.Only.{message_only}

single : (m n : Message (List ℕ)) → Valid m → Valid n → octets_of m ≡ octets_of n → m ≡ n
single m n v w e =
    let h : ◌≡◌ {A = Result (Message (List ℕ)) DecodeRefusal} (Ok m) (Ok n) =
    sym (message_back m v) ∙ ap (λ s. decoded s) e ∙ message_back n w
    in
    cc

pub one_encoding : OneEncoding
one_encoding = record { back = message_back; exact = message_only; single = single; size = message_size }

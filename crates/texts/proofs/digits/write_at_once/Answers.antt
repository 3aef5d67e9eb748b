use Rattle.std.proofs.Common.{◌≡◌, ◌∙◌, rules}
use Rattle.std.proofs.Output.{has_written_of_eq}
use Rattle.hex.specs.Hex.{encode_lower}
use Rattle.texts.proofs.Agreed.{written_agrees}
use Rattle.texts.proofs.digits.write_at_once.Goals as goal

pub returns : goal.returns
returns g c = λ plain ok.
    let whole : c.in_ok-text.text.now ≡ encode_lower c.args.octets.now = search rules in
    has_written_of_eq _ _ _ _ _ (whole ∙ written_agrees c.args.octets.now (λ i. let octet = c.type_inv.octets i in search rules)) (c.write_str.ensures.writes plain ok)

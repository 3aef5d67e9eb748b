use Rattle.std.proofs.Common.{◌∙◌, sym, ap, get_or, take, rules}
use Rattle.std.proofs.Output.{has_written_append, has_written_of_eq}
use Rattle.std.proofs.lemmas.List.{take_more}
use Rattle.texts.proofs.Agreed.{text_more}
use Rattle.texts.specs.Hex.{hex_text}
use Rattle.texts.proofs.digits.HexDisplay.fmt.Goals as goal

pub loop-octet-preserved : goal.loop-octet-preserved
loop-octet-preserved g c = λ plain.
    let xs = c.args.self.now.0.now in
    let i = c.loop-octet.octet-index in
    let longer = ap hex_text (take_more xs i 0 (search rules)) in
    let text = sym (text_more (take i xs) (get_or xs i 0) (search rules)) ∙ sym longer in
    has_written_of_eq _ _ _ _ _ text (has_written_append _ _ _ _ _ _ (c.loop-octet.invariant plain) (search rules))

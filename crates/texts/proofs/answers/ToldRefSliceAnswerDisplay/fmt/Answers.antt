use Rattle.std.proofs.Common.{◌∙◌, sym, ap, get_or, take, rules, Ok}
use Rattle.std.proofs.Output.{has_written_append, has_written_of_eq}
use Rattle.std.proofs.lemmas.List.{take_more}
use Rattle.calls.specs.declared.answers.Answer.TheVariants.{Asked}
use Rattle.channel.specs.declared.sent.Sent.TheVariants.{Taken}
use Rattle.texts.proofs.Numbering.{numbers_more}
use Rattle.texts.specs.Told.{numbers_text}
use Rattle.texts.proofs.answers.ToldRefSliceAnswerDisplay.fmt.Goals as goal

pub loop-answer-preserved : goal.loop-answer-preserved
loop-answer-preserved g c = λ plain.
    let xs = c.args.self.now.0.now in
    let i = c.loop-answer.answer-index in
    let d = Asked (Ok Taken) in
    let longer = ap numbers_text (take_more xs i d (search rules)) in
    let text = sym (numbers_more (take i xs) (get_or xs i d)) ∙ sym longer in
    has_written_of_eq _ _ _ _ _ text (has_written_append _ _ _ _ _ _ (c.loop-answer.invariant plain) (search rules))

-- The numbers of one answer more.
use Rattle.std.proofs.Common.{◌≡◌, List, [], ◌∷◌, ◌++◌, ap, sym, ◌∙◌, append_assoc}
use Rattle.std.proofs.lemmas.List.{append-nil}
use Rattle.calls.specs.declared.answers.Answer.{Answer}
use Rattle.texts.specs.Told.{number_text, numbers_text}

pub numbers_more : (xs : List Answer) (x : Answer) → numbers_text (xs ++ x ∷ []) ≡ numbers_text xs ++ number_text x
numbers_more [] x = append-nil (number_text x)
numbers_more (y ∷ ys) x = ap (λ t. number_text y ++ t) (numbers_more ys x) ∙ sym (append_assoc (number_text y) (numbers_text ys) (number_text x))

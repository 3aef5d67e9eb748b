-- A run, one call more.
use Rattle.std.proofs.Common.{◌≡◌, ℕ, ◌+◌, ◌<◌, ◌≤◌, List, [], ◌∷◌, ◌++◌, length, take, get_or, Bor, refl, ap, ◌∙◌}
use Rattle.std.proofs.lemmas.List.{take_more, take_all}
use Rattle.channel.specs.Behaviour.{Behaviour}
use Rattle.calls.specs.Plain.{plain_move, plain_moves}
use Rattle.calls.specs.declared.answers.Answer.{Answer}
use Rattle.calls.specs.declared.moves.Move.{Move}
use Rattle.law.specs.Runs.{World, Step, Run}
use Rattle.law.proofs.Lawful.{run_append}

plain_moves_append : (ms ns : List (Move (Bor (List ℕ)))) → plain_moves (ms ++ ns) ≡ plain_moves ms ++ plain_moves ns
plain_moves_append [] ns = refl
plain_moves_append (m ∷ ms) ns = ap (λ ls. plain_move m ∷ ls) (plain_moves_append ms ns)

plain_moves_more : (ms : List (Move (Bor (List ℕ)))) (i : ℕ) (d : Move (Bor (List ℕ))) → i < length ms → plain_moves (take (i + 1) ms) ≡ plain_moves (take i ms) ++ plain_move (get_or ms i d) ∷ []
plain_moves_more ms i d l = ap plain_moves (take_more ms i d l) ∙ plain_moves_append (take i ms) (get_or ms i d ∷ [])

pub run_more :
    {C : Type 0} (behaviour : Behaviour C) (v u w : World C) (ms : List (Move (Bor (List ℕ)))) (i : ℕ) (d : Move (Bor (List ℕ))) (rs : List Answer) (r : Answer) → i < length ms →
    Run behaviour v (plain_moves (take i ms)) rs u → Step behaviour u (plain_move (get_or ms i d)) r w → Run behaviour v (plain_moves (take (i + 1) ms)) (rs ++ r ∷ []) w
run_more behaviour v u w ms i d rs r l h s =
    rw (plain_moves_more ms i d l) (run_append behaviour v u w (plain_moves (take i ms)) (plain_move (get_or ms i d) ∷ []) rs (r ∷ []) h (w, s, refl))

-- every call
pub run_all :
    {C : Type 0} (behaviour : Behaviour C) (v w : World C) (ms : List (Move (Bor (List ℕ)))) (i : ℕ) (rs : List Answer) → length ms ≤ i →
    Run behaviour v (plain_moves (take i ms)) rs w → Run behaviour v (plain_moves ms) rs w
run_all behaviour v w ms i rs l h = rw (← take_all i ms l) h

-- A play: two ends from their making on. The number that is made of it.
use Rattle.std.specs.Prelude.{◌≡◌, ℕ, ◌-◌, ◌^◌, Bool, cond, ◌&&◌, ◌⊎◌, List, length, fold}
use Rattle.bottoms.specs.Bottoms.{Queue, queue_behaves}
use Rattle.calls.specs.Numbers.{answer_number}
use Rattle.calls.specs.declared.answers.Answer.{Answer}
use Rattle.law.specs.Ends.{is_quiet}
use Rattle.law.specs.Runs.{World, Start}
use Rattle.law.specs.Laws.{Lawful}
use Rattle.benched.specs.Mixed.{mixed}
use Rattle.benched.specs.Moves.{Moves}

-- what is made of the answers
abbrev pub answers_number : List Answer → ℕ
answers_number answers = fold (λ all r. mixed all (answer_number r)) 0 answers

abbrev pub both_quiet : World Queue → Bool
both_quiet w = is_quiet w.a.outstanding && is_quiet w.b.outstanding

-- and of what is left: how many rows each book has, and whether both ends are quiet
abbrev pub play_number : List Answer → World Queue → ℕ
play_number answers w =
    mixed (mixed (answers_number answers) (mixed (length w.a.shelf.rows) (length w.b.shelf.rows))) (cond (both_quiet w) 1 0)

-- Two ends were made over a queue from which nothing may come, these calls made on them, and n is the number of that.
pub record Played (ms : Moves) (n : ℕ) : Type 0 where
  pub first : World Queue
  pub answers : List Answer
  pub last : World Queue
  pub start : Start queue_behaves first
  pub lawful : Lawful queue_behaves first ms answers last
  pub number : n ≡ play_number answers last

-- what stands for a play that did not take place, since there was no memory for its answers
abbrev pub no_memory : ℕ
no_memory = 2 ^ 64 - 1

abbrev pub PlayedOrNot : Moves → ℕ → Type 0
PlayedOrNot ms n = (n ≡ no_memory) ⊎ Played ms n

-- The number of each answer to a send.
use Rattle.std.specs.Prelude.{◌≡◌, ℕ, cond, Option, Some, None, ◌==◌, refl}
use Rattle.channel.specs.declared.sent.Sent.{Sent}
use Rattle.channel.specs.declared.sent.Sent.TheVariants.{Taken, NotTaken}

abbrev pub sent_number : Sent → ℕ
sent_number Taken = 0
sent_number NotTaken = 1

-- the answer that has a number
abbrev pub sent_of : ℕ → Option Sent
sent_of n = cond (n == 0) (Some Taken) (cond (n == 1) (Some NotTaken) None)

pub sent_told : (s : Sent) → sent_of (sent_number s) ≡ Some s
sent_told Taken = refl
sent_told NotTaken = refl

-- Nonces compared many times: the numbers that are made of what is answered.
use Rattle.std.specs.Prelude.{ℕ, ◌/◌, ◌%◌, List, [], ◌∷◌, Some, None, Option, slice_index_or}
use Rattle.nonce.specs.Nonces.{as_nonce}
use Rattle.nonce.specs.Order.{lower_of, loser_in}
use Rattle.nonce.specs.declared.order.Exchanged.{Exchanged}
use Rattle.nonce.specs.declared.side.Side.{Side}
use Rattle.nonce.specs.declared.side.Side.TheVariants.{A, B}
use Rattle.benched.specs.declared.nonces.NoncePair.{NoncePair}
use Rattle.benched.specs.Mixed.{last, repeated}

-- the exchange with these nonces, where both have the length of one
abbrev pub both : Option (List ℕ) → Option (List ℕ) → Option Exchanged
both None r = None
both (Some i) None = None
both (Some i) (Some r) = Some (record { initiator = i; responder = r })

abbrev pub exchanged_in : NoncePair → Option Exchanged
exchanged_in p = both (as_nonce p.initiator) (as_nonce p.responder)

abbrev pub side_number : Side → ℕ
side_number A = 0
side_number B = 1

-- of two exchanges: the last octet of the lower of the one's initiator's nonce and the other's responder's, and the loser
abbrev pub lower_number : Option Exchanged → Option Exchanged → ℕ
lower_number None b = 0
lower_number (Some a) None = 0
lower_number (Some a) (Some b) = last (lower_of a.initiator b.responder)

abbrev pub loser_number : Option Exchanged → Option Exchanged → ℕ
loser_number None b = 0
loser_number (Some a) None = 0
loser_number (Some a) (Some b) = side_number (loser_in a b)

-- the exchange at a place of four, which come round and round
abbrev pub exchange_at : List (Option Exchanged) → ℕ → Option Exchanged
exchange_at es i = slice_index_or es (i % 4) None

-- what is asked many times of four exchanges: of each with each in turn
abbrev pub lowers : List (Option Exchanged) → ℕ → ℕ
lowers es times = repeated times (λ i. lower_number (exchange_at es i) (exchange_at es (i / 4)))

abbrev pub losers : List (Option Exchanged) → ℕ → ℕ
losers es times = repeated times (λ i. loser_number (exchange_at es i) (exchange_at es (i / 4)))

-- four exchanges
abbrev pub four : NoncePair → NoncePair → NoncePair → NoncePair → List (Option Exchanged)
four a b c d = exchanged_in a ∷ exchanged_in b ∷ exchanged_in c ∷ exchanged_in d ∷ []

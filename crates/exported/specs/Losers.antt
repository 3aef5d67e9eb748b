-- What C is told of a collision.
use Rattle.std.specs.Prelude.{ℕ, List, Some, None, Option}
use Rattle.nonce.specs.Nonces.{as_nonce}
use Rattle.nonce.specs.Order.{loser_in}
use Rattle.nonce.specs.declared.order.Exchanged.{Exchanged}
use Rattle.exported.specs.Records.{side_number}

-- the nonces of an exchange, where both have the length of one
abbrev pub both : Option (List ℕ) → Option (List ℕ) → Option Exchanged
both None r = None
both (Some i) None = None
both (Some i) (Some r) = Some (record { initiator = i; responder = r })

abbrev pub exchanged_in : (initiator responder : List ℕ) → Option Exchanged
exchanged_in i r = both (as_nonce i) (as_nonce r)

-- the number of the side that loses, or 20 where one of the four has not the length of a nonce
abbrev pub loser_of : Option Exchanged → Option Exchanged → ℕ
loser_of None b = 20
loser_of (Some a) None = 20
loser_of (Some a) (Some b) = side_number (loser_in a b)

abbrev pub loser_told : (ia ra ib rb : List ℕ) → ℕ
loser_told ia ra ib rb = loser_of (exchanged_in ia ra) (exchanged_in ib rb)

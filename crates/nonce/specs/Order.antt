-- The order of nonces, and the loser of a collision.
use Rattle.std.specs.Prelude.{◌≡◌, ℕ, Bool, true, false, cond, ◌⊎◌, List, [], ◌∷◌, ◌==◌, nat_lt}
use Rattle.nonce.specs.declared.order.Exchanged.{Exchanged}
use Rattle.nonce.specs.declared.order.Lowest.{Lowest}
use Rattle.nonce.specs.declared.order.Lowest.TheVariants.{InitiatorOfA, ResponderOfA, InitiatorOfB, ResponderOfB}
use Rattle.nonce.specs.declared.order.Named.{Named}
use Rattle.nonce.specs.declared.side.Side.{Side}
use Rattle.nonce.specs.declared.side.Side.TheVariants.{A, B}

-- Whether one nonce is lower than another: from the first octet on, where both have one and the two are equal, the next
-- decides; where they differ, the lower octet; where one nonce ends, it is the lower.
abbrev pub lower_than : List ℕ → List ℕ → Bool
lower_than (x ∷ xs) (y ∷ ys) = cond (x == y) (lower_than xs ys) (nat_lt x y)
lower_than [] (y ∷ ys) = true
lower_than (x ∷ xs) [] = false
lower_than [] [] = false

-- Whether, where two rows of octets first differ, the first has the lower octet; where they nowhere differ, e.
abbrev pub lower_or : List ℕ → List ℕ → Bool → Bool
lower_or (x ∷ xs) (y ∷ ys) e = cond (x == y) (lower_or xs ys e) (nat_lt x y)
lower_or [] ys e = e
lower_or (x ∷ xs) [] e = e

-- the lower of two; of equal ones, the first
abbrev pub lower_of : List ℕ → List ℕ → List ℕ
lower_of xs ys = cond (lower_than ys xs) ys xs

-- Which of four nonces is the lowest; of equal ones, the first. A nonce stands beside its name.
abbrev pub lower_named : Lowest × List ℕ → Lowest × List ℕ → Lowest × List ℕ
lower_named p q = cond (lower_than q.1 p.1) q p

abbrev pub lowest_of : (ia ra ib rb : List ℕ) → Lowest
lowest_of ia ra ib rb =
    (lower_named (lower_named (InitiatorOfA, ia) (ResponderOfA, ra)) (lower_named (InitiatorOfB, ib) (ResponderOfB, rb))).0

-- The new SA loses whose exchange has the lowest of the four.
abbrev pub loser_by : Lowest → Side
loser_by InitiatorOfA = A
loser_by ResponderOfA = A
loser_by InitiatorOfB = B
loser_by ResponderOfB = B

abbrev pub named : Named → Lowest × List ℕ
named n = (n.name, n.nonce.now)

-- which of the nonces of two exchanges is the lowest
abbrev pub lowest_in : Exchanged → Exchanged → Lowest
lowest_in a b =
    lowest_of a.initiator a.responder b.initiator
    b.responder

abbrev pub loser_in : Exchanged → Exchanged → Side
loser_in a b = loser_by (lowest_in a b)

-- Who loses, in other words: none of the four nonces is lower than one of the loser's exchange, and where B loses, no nonce
-- of A's exchange is such a lowest one.
abbrev pub NoneLower : (n ia ra ib rb : List ℕ) → Type 0
NoneLower n ia ra ib rb =
    (lower_than ia n ≡ false) × (lower_than ra n ≡ false) × (lower_than ib n ≡ false) × (lower_than rb n ≡ false)

abbrev pub Loses : Side → (ia ra ib rb : List ℕ) → Type 0
Loses A ia ra ib rb = NoneLower ia ia ra ib rb ⊎ NoneLower ra ia ra ib rb
Loses B ia ra ib rb =
    (NoneLower ib ia ra ib rb ⊎ NoneLower rb ia ra ib rb) × (NoneLower ia ia ra ib rb → ⊥)
    × (NoneLower ra ia ra ib rb → ⊥)

abbrev pub LosesIn : Side → Exchanged → Exchanged → Type 0
LosesIn s a b =
    Loses s a.initiator a.responder b.initiator
    b.responder

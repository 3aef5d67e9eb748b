-- The calls of a whole rekey and of a whole collision.
use Rattle.std.specs.Prelude.{ℕ, List, [], ◌∷◌}
use Rattle.nonce.specs.declared.side.Side.{Side}
use Rattle.nonce.specs.declared.side.Side.TheVariants.{A, B}
use Rattle.calls.specs.declared.moves.Call.{Call}
use Rattle.calls.specs.declared.moves.Call.TheVariants.{Create, Rekey, Check, Deliver}
use Rattle.calls.specs.declared.moves.Move.{Move}

abbrev pub Moves : Type 0
Moves = List (Move (List ℕ))

abbrev pub of : Side → Call (List ℕ) → Move (List ℕ)
of s c = record { side = s; call = c }

-- an end takes what has come
abbrev pub deliver : Side → List ℕ → Move (List ℕ)
deliver s n = of s (Deliver n)

-- A makes an SA and rekeys it, and both are quiet
abbrev pub rekey_moves : (low high : List ℕ) → Moves
rekey_moves low high =
    of A (Create low) ∷ deliver B high ∷ deliver A high
    ∷ of A (Rekey 1000 low) ∷ deliver B high ∷ deliver A high ∷ deliver B high ∷ deliver A high ∷ []

-- A makes an SA, both rekey it at once, B's new SA loses, and both are quiet
abbrev pub collision_moves : (low high : List ℕ) → Moves
collision_moves low high =
    of A (Create high) ∷ deliver B high ∷ deliver A high
    ∷ of A Check ∷ deliver B high ∷ deliver A high
    ∷ of A (Rekey 1000 high) ∷ of B (Rekey 2000 low)
    ∷ deliver A high ∷ deliver B high ∷ deliver A high ∷ deliver B high
    ∷ deliver A high ∷ deliver B high ∷ deliver A high ∷ deliver B high ∷ []

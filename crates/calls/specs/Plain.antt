-- Calls with their nonces as octets.
use Rattle.std.specs.Prelude.{ℕ, List, [], ◌∷◌}
use Rattle.std.specs.Borrow.{Bor}
use Rattle.calls.specs.declared.moves.Call.{Call}
use Rattle.calls.specs.declared.moves.Call.TheVariants.{Create, Rekey, Delete, Check, Resend, Deliver}
use Rattle.calls.specs.declared.moves.Move.{Move}

abbrev pub plain_call : Call (Bor (List ℕ)) → Call (List ℕ)
plain_call (Create n) = Create n.now
plain_call (Rekey own n) = Rekey own n.now
plain_call (Delete own) = Delete own
plain_call Check = Check
plain_call Resend = Resend
plain_call (Deliver n) = Deliver n.now

abbrev pub plain_move : Move (Bor (List ℕ)) → Move (List ℕ)
plain_move m = record { side = m.side; call = plain_call m.call }

abbrev pub plain_moves : List (Move (Bor (List ℕ))) → List (Move (List ℕ))
plain_moves [] = []
plain_moves (m ∷ ms) = plain_move m ∷ plain_moves ms

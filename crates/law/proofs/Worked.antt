-- Each worked line, computed.
use Rattle.std.proofs.Common.{◌≡◌, ℕ, suc, true, false, not, List, [], ◌∷◌, ◌++◌, map, Some, None, arith}
use Rattle.std.proofs.lemmas.Bool.Decides.{nat_tests}
use Rattle.book.specs.declared.row.Row.{Row}
use Rattle.wire.specs.Lines as messages
use Rattle.law.specs.Ends.{End, is_spent}
use Rattle.law.specs.Asks.{rekey_asked, delete_asked}
use Rattle.law.specs.Lines.{Line, of_messages, rekey_refused, lines, AllHold, Stands, ask_refusal}

-- the last ID is left for one request, and a rekey may need two
last_spent : (n : ℕ) → n ≡ 4294967295 → not (is_spent (suc n)) ≡ false
last_spent n h = grind (arith, nat_tests)

last_left : (n : ℕ) → n ≡ 4294967295 → not (is_spent n) ≡ true
last_left n h = grind (arith, nat_tests)

rekey_stops : (e : End) (own : ℕ) (r : Row) (n : List ℕ) → Stands 4294967295 e own r n → ask_refusal (rekey_asked e own n) ≡ Some 22
unfolding rekey_asked
rekey_stops e own r n h = rw (h.nonce, h.quiet, last_spent e.next h.id)

delete_goes : (e : End) (own : ℕ) (r : Row) (n : List ℕ) → Stands 4294967295 e own r n → ask_refusal (delete_asked e own) ≡ None
unfolding delete_asked
delete_goes e own r n h = rw (h.quiet, last_left e.next h.id, h.row, h.state)

-- lines of the messages hold as lines, with others behind them
with_messages : (ls : List messages.Line) (rest : List Line) → messages.AllHold ls → AllHold rest → AllHold (map of_messages ls ++ rest)
with_messages [] rest h k = k
with_messages (l ∷ ls) rest h k = (h.0, with_messages ls rest h.1 k)

pub all_hold : messages.AllHold messages.lines → AllHold lines
all_hold h =
    let last : AllHold (rekey_refused 4294967295 22 ∷ []) =
    ((λ e own r n s. (rekey_stops e own r n s, delete_goes e own r n s)), tt)
    in
    with_messages messages.lines (rekey_refused 4294967295 22 ∷ []) h last

-- Worked lines: examples that the definitions give.
use Rattle.std.specs.Prelude.{◌≡◌, ℕ, true, List, [], ◌∷◌, ◌++◌, map, Some, None, Ok, Err, Option}
use Rattle.nonce.specs.Nonces.{nonce_long}
use Rattle.wire.specs.Lines as messages
use Rattle.book.specs.Shelves.{lookup}
use Rattle.book.specs.declared.row.Row.{Row}
use Rattle.book.specs.declared.row.RowState.TheVariants.{Standing}
use Rattle.calls.specs.Numbers.{ask_number}
use Rattle.law.specs.Ends.{End}
use Rattle.law.specs.Asks.{Asked, rekey_asked, delete_asked}

-- What a line says.
pub data Line : Type 0 where
  -- a line of the messages: the order of nonces, losers, octets and refusals
  of_messages : messages.Line → Line
  -- a quiet end with this next ID refuses to rekey a Standing row with this number, and accepts to delete it
  rekey_refused : ℕ → ℕ → Line

abbrev pub ask_refusal : Asked → Option ℕ
ask_refusal (Ok d) = None
ask_refusal (Err e) = Some (ask_number e)

-- with this next ID, and nothing outstanding, a row that stands
pub record Stands (next : ℕ) (e : End) (own : ℕ) (r : Row) (n : List ℕ) : Type 0 where
  pub nonce : nonce_long n ≡ true
  pub quiet : e.outstanding ≡ None
  pub id : e.next ≡ next
  pub row : lookup e.shelf.rows own ≡ Some r
  pub state : r.state ≡ Standing

abbrev pub Holds : Line → Type 0
Holds (of_messages l) = messages.Holds l
Holds (rekey_refused next n) =
    (e : End) (own : ℕ) (r : Row) (nonce : List ℕ) → Stands next e own r nonce →
    (ask_refusal (rekey_asked e own nonce) ≡ Some n) × (ask_refusal (delete_asked e own) ≡ None)

abbrev pub AllHold : List Line → Type 0
AllHold [] = Unit {0}
AllHold (l ∷ ls) = Holds l × AllHold ls

-- the lines of the messages, and the last Message ID
abbrev pub lines : List Line
lines = map of_messages messages.lines ++ (rekey_refused 4294967295 22 ∷ [])

-- What is printed of refusals, rows, findings and answers.
use Rattle.std.specs.Prelude.{ℕ, List, [], ◌∷◌, ◌++◌, Some, None, Ok, Err, codes, decimal, Option, Result}
use Rattle.nonce.specs.Nonces.{as_nonce}
use Rattle.book.specs.Rows.{state_number, beginner_number, kept_octets, nr_octets}
use Rattle.book.specs.Shelves.{Answer, book_number}
use Rattle.book.specs.declared.BookRefusal.{BookRefusal}
use Rattle.book.specs.declared.audit.Alone.{Alone}
use Rattle.book.specs.declared.row.Beginner.{Beginner}
use Rattle.book.specs.declared.row.Row.{Row}
use Rattle.book.specs.declared.row.RowState.{RowState}
use Rattle.channel.specs.declared.sent.Sent.{Sent}
use Rattle.channel.specs.declared.sent.Sent.TheVariants.{Taken, NotTaken}
use Rattle.nonce.specs.declared.side.Side.{Side}
use Rattle.nonce.specs.declared.side.Side.TheVariants.{A, B}
use Rattle.calls.specs.Numbers.{answer_number}
use Rattle.calls.specs.declared.answers.Answer as answers
use Rattle.texts.specs.Hex.{hex_text}

-- a refusal of any layer, by its number
abbrev pub refused_text : ℕ → List ℕ
refused_text n = codes "refused " ++ decimal n

abbrev pub refusal_text : BookRefusal → List ℕ
refusal_text e = refused_text (book_number e)

-- the answer to a change of a book
abbrev pub answer_text : Answer → List ℕ
answer_text (Ok u) = codes "done"
answer_text (Err e) = refusal_text e

-- an own SPI, where there is one
abbrev pub spi_text : Option ℕ → List ℕ
spi_text None = codes "none"
spi_text (Some n) = decimal n

-- a nonce of a row
abbrev pub nonce_text : Option (List ℕ) → List ℕ
nonce_text None = codes "-"
nonce_text (Some s) = hex_text s

-- a row: its SPIs, state and beginner, the parent's SPIs, and the nonces
abbrev pub spis_text : ℕ → ℕ → List ℕ
spis_text own peer = decimal own ++ (codes " " ++ decimal peer)

abbrev pub state_text : RowState → Beginner → List ℕ
state_text s b = decimal (state_number s) ++ (codes " " ++ decimal (beginner_number b))

abbrev pub standing_text : Row → List ℕ
standing_text r = state_text r.state r.began

abbrev pub nonces_text : Row → List ℕ
nonces_text r =
    codes "ni " ++ (nonce_text (as_nonce (kept_octets r.ni)) ++ (codes " nr " ++ nonce_text (as_nonce (nr_octets r))))

abbrev pub row_text : Row → List ℕ
row_text r =
    codes "row " ++ (spis_text r.own r.peer ++ (codes " " ++ (standing_text r ++ (codes " parent "
    ++ (spis_text r.parent.own r.parent.peer ++ (codes " " ++ nonces_text r))))))

abbrev pub read_text : Result Row BookRefusal → List ℕ
read_text (Ok r) = row_text r
read_text (Err e) = refusal_text e

-- what an audit finds
abbrev pub alone_in : Side → List ℕ
alone_in A = codes "no mirror in B: "
alone_in B = codes "no mirror in A: "

abbrev pub finding_text : Option Alone → List ℕ
finding_text None = codes "all rows have their mirror"
finding_text (Some a) = alone_in a.side ++ row_text a.row

-- the answer to a send
abbrev pub sent_text : Sent → List ℕ
sent_text Taken = codes "taken"
sent_text NotTaken = codes "not taken"

-- the numbers of answers, a space before each
abbrev pub number_text : answers.Answer → List ℕ
number_text a = codes " " ++ decimal (answer_number a)

abbrev pub numbers_text : List answers.Answer → List ℕ
numbers_text [] = []
numbers_text (a ∷ rest) = number_text a ++ numbers_text rest

-- Books filled and asked many times: the numbers that are made of what is answered.
use Rattle.std.specs.Prelude.{ℕ, zero, suc, ◌+◌, ◌*◌, ◌%◌, List, [], length, Ok, Err, Result, unwrap_or}
use Rattle.std.specs.Option.{option_map_or}
use Rattle.nonce.specs.Nonces.{as_nonce}
use Rattle.book.specs.Rows.{kept}
use Rattle.book.specs.Shelves.{Shelf, Answer, put_in, removed_from, read_in, find, book_number}
use Rattle.book.specs.declared.BookRefusal.{BookRefusal}
use Rattle.book.specs.declared.row.Beginner.TheVariants.{ThisEnd}
use Rattle.book.specs.declared.row.KeptNonce.{KeptNonce}
use Rattle.book.specs.declared.row.Row.{Row}
use Rattle.book.specs.declared.row.RowState.TheVariants.{Standing}
use Rattle.benched.specs.Mixed.{mixed, repeated}

-- octets in a row, where they have the length of a nonce, else none
abbrev pub kept_in : List ℕ → KeptNonce
kept_in s = option_map_or kept (as_nonce s) (kept [])

-- sixteen own SPIs, in no order
abbrev pub own_of : ℕ → ℕ
own_of k = 1000 + k % 16 * 7 % 16

abbrev pub peer_of : ℕ → ℕ
peer_of k = 2000 + k % 16

-- the row that is filed as number k, both its nonces this one
abbrev pub row_of : KeptNonce → ℕ → Row
row_of n k = record {
  own = own_of k;
  peer = peer_of k;
  state = Standing;
  began = ThisEnd;
  parent = record { own = 0; peer = 0 };
  ni = n;
  nr = n;
}

-- what a change answers: 0, or the number of the refusal
abbrev pub answered : Answer → ℕ
answered (Ok done) = 0
answered (Err e) = book_number e

-- the number of all that was answered, and the shelf
abbrev pub Filed : Type 0
Filed = ℕ × Shelf

-- a change more
abbrev pub then_answered : ℕ → Answer × Shelf → Filed
then_answered all (answer, s) = (mixed all (answered answer), s)

abbrev pub then_put : Row → Filed → Filed
then_put r (all, s) = then_answered all (put_in s r)

abbrev pub then_removed : ℕ → Filed → Filed
then_removed own (all, s) = then_answered all (removed_from s own)

-- the first rows are put
abbrev pub filled : KeptNonce → ℕ → Shelf → Filed
filled n zero s = (0, s)
filled n (suc k) s = then_put (row_of n k) (filled n k s)

-- a row is put and dropped again, many times
abbrev pub put_and_dropped : Row → ℕ → Shelf → Filed
put_and_dropped r zero s = (0, s)
put_and_dropped r (suc times) s = then_removed r.own (then_put r (put_and_dropped r times s))

-- with how many rows there are in the end
abbrev pub counted : Filed → ℕ
counted (all, s) = mixed all (length s.rows)

-- what is asked many times: an own SPI by the peer's, and the peer's SPI of a row
abbrev pub found : ℕ → Shelf → ℕ
found times s = repeated times (λ i. unwrap_or (find s.rows (peer_of i)) 0)

abbrev pub peer_in : Result Row BookRefusal → ℕ
peer_in (Ok r) = r.peer
peer_in (Err e) = 0

abbrev pub peers_read : ℕ → Shelf → ℕ
peers_read times s = repeated times (λ i. peer_in (read_in s (own_of i)))

-- what is done with a book once it is filled
abbrev pub then_done : (Shelf → ℕ) → Filed → ℕ
then_done done (all, s) = mixed all (done s)

-- a book with the first rows, beside which the next one is put and dropped again many times
abbrev pub put_and_drop_number : KeptNonce → (rows times : ℕ) → Shelf → ℕ
put_and_drop_number n rows times s =
    then_done (λ filed. counted (put_and_dropped (row_of n rows) times filed)) (filled n rows s)

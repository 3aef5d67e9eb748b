-- Rows, their numbers, and when two are of one Child SA.
use Rattle.std.specs.Prelude.{◌≡◌, ℕ, ◌-◌, Bool, cond, not, ◌&&◌, List, [], ◌++◌, length, take, replicate, ◌==◌, Option, Some, None, refl}
use Rattle.std.specs.Str.{bytes_eq}
use Rattle.book.specs.declared.row.Beginner.{Beginner}
use Rattle.book.specs.declared.row.Beginner.TheVariants.{ThisEnd, Peer}
use Rattle.book.specs.declared.row.KeptNonce.{KeptNonce}
use Rattle.book.specs.declared.row.Row.{Row}
use Rattle.book.specs.declared.row.RowState.{RowState}
use Rattle.book.specs.declared.row.Spis.{Spis}
use Rattle.book.specs.declared.row.RowState.TheVariants.{Opening, Fresh, Standing, Superseded, Closing}

-- the number of each state
abbrev pub state_number : RowState → ℕ
state_number Opening = 1
state_number Fresh = 2
state_number Standing = 3
state_number Superseded = 4
state_number Closing = 5

-- the state that has a number
abbrev pub state_of : ℕ → Option RowState
state_of n =
    cond (n == 1) (Some Opening) (cond (n == 2) (Some Fresh) (cond (n == 3) (Some Standing) (cond (n == 4) (Some Superseded) (cond (n == 5) (Some Closing) None))))

pub state_told : (x : RowState) → state_of (state_number x) ≡ Some x
state_told Opening = refl
state_told Fresh = refl
state_told Standing = refl
state_told Superseded = refl
state_told Closing = refl

-- the number of each end as the one that began
abbrev pub beginner_number : Beginner → ℕ
beginner_number ThisEnd = 0
beginner_number Peer = 1

-- the one that has a number
abbrev pub beginner_of : ℕ → Option Beginner
beginner_of n =
    cond (n == 0) (Some ThisEnd) (cond (n == 1) (Some Peer) None)

pub beginner_told : (x : Beginner) → beginner_of (beginner_number x) ≡ Some x
beginner_told ThisEnd = refl
beginner_told Peer = refl

abbrev pub is_opening : RowState → Bool
is_opening s = state_number s == 1

-- the octets of a nonce in a row
abbrev pub kept_octets : KeptNonce → List ℕ
kept_octets k = take k.len k.octets

-- octets in a row: 32 places, with zeros behind
abbrev pub kept : List ℕ → KeptNonce
kept s = record { octets = s ++ replicate (32 - length s) 0; len = length s }

-- the responder's nonce: none while the row is Opening
abbrev pub nr_octets : Row → List ℕ
nr_octets r = cond (is_opening r.state) [] (kept_octets r.nr)

-- the SPIs of a row's SA, and a pair of SPIs as the peer has it
abbrev pub spis : Row → Spis
spis r = record { own = r.own; peer = r.peer }

abbrev pub swapped : Spis → Spis
swapped s = record { own = s.peer; peer = s.own }

-- the SPIs of two rows are exchanged, and those of their parents
abbrev pub exchanged : Row → Row → Bool
exchanged a b =
    (a.own == b.peer) && (a.peer == b.own && (a.parent.own == b.parent.peer && a.parent.peer == b.parent.own))

-- Two rows are of one Child SA, each as its end sees it: the SPIs are exchanged, those of the parents too, one end
-- began and the other did not, and the nonces are the same octets.
unfoldable pub mirrors : Row → Row → Bool
mirrors a b =
    exchanged a b
    && (not (beginner_number a.began == beginner_number b.began)
    && (bytes_eq (kept_octets a.ni) (kept_octets b.ni) && bytes_eq (nr_octets a) (nr_octets b)))

-- the same as facts
pub record Mirror (a b : Row) : Type 0 where
  pub own : a.own ≡ b.peer
  pub peer : a.peer ≡ b.own
  pub parent_own : a.parent.own ≡ b.parent.peer
  pub parent_peer : a.parent.peer ≡ b.parent.own
  pub began : a.began ≡ b.began → ⊥
  pub ni : kept_octets a.ni ≡ kept_octets b.ni
  pub nr : nr_octets a ≡ nr_octets b

-- The law: what two ends that started empty hold, at every moment and when both are quiet.
use Rattle.std.specs.Prelude.{◌≡◌, ℕ, ◌<◌, Bool, true, false, ◌⊎◌, List, [], ◌∷◌, Some, None, Option}
use Rattle.protocol.specs.Invariant.{LeftOf, Loses, LostTo}
use Rattle.protocol.specs.Model.{kept, lost, St, Sa, Cell, opening, live, Book, calm, mirror, quiet, End, with_book, Asks, ask_check, ask_create, ask_rekey, ask_delete, fresh, standing, superseded, closing, Acts, Settles}

pub record State : Type 0 where
  pub a : End
  pub b : End

-- one step of either end
pub data Step : State → State → Type 0 where
  asks : {P P' Q : End} → Asks P P' → Step (record { a = P; b = Q }) (record { a = P'; b = Q })
  answers :
      {P Q P' Q' : End}
      → Acts P (with_book Q (calm Q.book)) P' Q'
      → Step (record { a = P; b = Q }) (record { a = P'; b = Q' })
  settles : {P P' Q : End} → Settles P P' → Step (record { a = P; b = Q }) (record { a = P'; b = Q })
  swapped :
      {P Q P' Q' : End}
      → Step (record { a = Q; b = P }) (record { a = Q'; b = P' })
      → Step (record { a = P; b = Q }) (record { a = P'; b = Q' })

-- a run from s to t, with the states that it left behind, the last first
pub data Run (s : State) : List State → State → Type 0 where
  start : Run s [] s
  then : {t u : State} {past : List State} → Run s past t → Step t u → Run s (t ∷ past) u

abbrev pub empty : Bool → ℕ → End
empty w i = record { first = w; book = λ _. None; spi = i; link = quiet; born_here = λ _. None; given = λ _. kept }

-- from these first keys
abbrev pub begin : ℕ → ℕ → State
begin m n = record { a = empty true m; b = empty false n }

-- a row of one end stands in the other's book, as the same SA
abbrev pub SameIn : Book → ℕ → Option Cell → Type 0
SameIn q k None = Unit {0}
SameIn q k (Some (opening d)) = ⊥
SameIn q k (Some (live s a)) = (t : St) × (q a.peer ≡ Some (live t (mirror k a)))

pub record Agree (s : State) : Type 0 where
  pub a_in_b : (k : ℕ) → SameIn s.b.book k (s.a.book k)
  pub b_in_a : (k : ℕ) → SameIn s.a.book k (s.b.book k)

-- whenever both ends are quiet, their books agree
abbrev pub BooksAgree : Type 0
BooksAgree =
    (m n : ℕ) (past : List State) (s : State) → Run (begin m n) past s → s.a.link ≡ quiet → s.b.link ≡ quiet → Agree s

-- at some state of the list
abbrev pub ever : (State → Type 0) → List State → Type 0
ever P [] = ⊥
ever P (t ∷ past) = P t ⊎ ever P past

pub record Had (k : ℕ) (x : Sa) (P : End) : Type 0 where
  pub used : k < P.spi
  pub left : LeftOf x (P.book k)

-- a key names one SA for good: what stood under it once is what stands there now, if anything does
abbrev pub KeysNameOne : Type 0
KeysNameOne =
    (m n : ℕ) (past : List State) (s : State) (k : ℕ) (x : Sa)
    → Run (begin m n) past s
    → ever (λ t. (u : St) × (t.a.book k ≡ Some (live u x))) past
    → LeftOf x (s.a.book k)

-- an SA that has an heir is in neither book
abbrev pub GoneWith : Book → Book → Option Sa → Type 0
GoneWith p q None = Unit {0}
GoneWith p q (Some s) = s.heir ≡ true → (p s.po ≡ None) × (q s.pp ≡ None)

-- whenever both ends are quiet, an SA that was ever rekeyed is in neither book
abbrev pub RekeyedGone : Type 0
RekeyedGone =
    (m n : ℕ) (past : List State) (s : State)
    → Run (begin m n) past s
    → s.a.link ≡ quiet
    → s.b.link ≡ quiet
    → (k : ℕ)
    → GoneWith s.a.book s.b.book (s.a.born_here k) × GoneWith s.b.book s.a.book (s.b.born_here k)

-- what has become of the SA s that the end P made for Q under k
pub record Fate (P Q : End) (k : ℕ) (s : Sa) : Type 0 where
  -- given up by neither end, it is in both books
  pub stands :
      P.given k ≡ kept
      → Q.given s.peer ≡ kept
      → ((t : St) × (P.book k ≡ Some (live t s))) × ((t : St) × (Q.book s.peer ≡ Some (live t (mirror k s))))
  -- the loser of two heirs of one SA is in neither
  pub loser_gone :
      (j : ℕ) (t : Sa)
      → Q.born_here j ≡ Some t
      → Loses Q.first s t
      → (P.book k ≡ None) × (Q.book s.peer ≡ None)
  -- and an end gives up only the loser as the loser
  pub lost_truly : (j : ℕ) → Q.given s.peer ≡ lost j → LostTo Q.first s (Q.born_here j)

abbrev pub FateAt : End → End → ℕ → Option Sa → Type 0
FateAt P Q k None = Unit {0}
FateAt P Q k (Some s) = Fate P Q k s

-- what has become of every SA that was ever made, whenever both ends are quiet
abbrev pub Succession : Type 0
Succession =
    (m n : ℕ) (past : List State) (s : State)
    → Run (begin m n) past s
    → s.a.link ≡ quiet
    → s.b.link ≡ quiet
    → (k : ℕ)
    → FateAt s.a s.b k (s.a.born_here k) × FateAt s.b s.a k (s.b.born_here k)

-- the SA (c, d), by its key in each book, comes from (a, b) by rekeys
pub data Line (A B : End) (a b : ℕ) : ℕ → ℕ → Type 0 where
  itself : Line A B a b a b
  by_a :
      {c d : ℕ} (k : ℕ) (z : Sa)
      → Line A B a b c d
      → A.born_here k ≡ Some z
      → z.heir ≡ true
      → z.po ≡ c
      → z.pp ≡ d
      → Line A B a b k z.peer
  by_b :
      {c d : ℕ} (k : ℕ) (z : Sa)
      → Line A B a b c d
      → B.born_here k ≡ Some z
      → z.heir ≡ true
      → z.pp ≡ c
      → z.po ≡ d
      → Line A B a b z.peer k

-- a row that is not on its way out for good, with the peer's key p
abbrev pub OpenCell : ℕ → Option Cell → Type 0
OpenCell p None = ⊥
OpenCell p (Some (opening d)) = ⊥
OpenCell p (Some (live fresh a)) = a.peer ≡ p
OpenCell p (Some (live standing a)) = a.peer ≡ p
OpenCell p (Some (live superseded a)) = a.peer ≡ p
OpenCell p (Some (live closing a)) = ⊥

-- the SA (k, j) is in both books, and neither end is closing it
pub record Open (A B : End) (k j : ℕ) : Type 0 where
  pub in_a : OpenCell j (A.book k)
  pub in_b : OpenCell k (B.book j)

-- some SA of the line of (k, j) is open
pub record Onward (A B : End) (k j : ℕ) : Type 0 where
  pub key_a : ℕ
  pub key_b : ℕ
  pub is_open : Open A B key_a key_b
  pub line : Line A B k j key_a key_b

-- no user asks for a delete in the step, in the run
abbrev pub AsksNoDelete : {P P' : End} → Asks P P' → Type 0
AsksNoDelete (ask_check w) = Unit {0}
AsksNoDelete (ask_create n w) = Unit {0}
AsksNoDelete (ask_rekey x a d w r h o e) = Unit {0}
AsksNoDelete (ask_delete x a w r) = ⊥

abbrev pub NoDelete : {s t : State} → Step s t → Type 0
NoDelete (asks x) = AsksNoDelete x
NoDelete (answers x) = Unit {0}
NoDelete (settles x) = Unit {0}
NoDelete (swapped x) = NoDelete x

abbrev pub NeverDeletes : {s t : State} {past : List State} → Run s past t → Type 0
NeverDeletes start = Unit {0}
NeverDeletes (then r x) = NeverDeletes r × NoDelete x

-- where no delete was asked for, each SA that was ever open in both books has one of its line open in both at every later moment
abbrev pub LinesGoOn : Type 0
LinesGoOn =
    (m n : ℕ) (past : List State) (s : State) (k j : ℕ) (r : Run (begin m n) past s)
    → NeverDeletes r
    → ever (λ t. Open t.a t.b k j) past
    → Onward s.a s.b k j

pub record EndsAgree : Type 0 where
  -- the books agree
  pub books : BooksAgree
  -- a key names one SA for good
  pub keys : KeysNameOne
  -- an SA that was rekeyed is in neither book
  pub rekeyed : RekeyedGone
  -- what has become of every SA that was made
  pub fates : Succession
  -- while no delete is asked for, one SA of each line is open in both books at every moment
  pub lines : LinesGoOn

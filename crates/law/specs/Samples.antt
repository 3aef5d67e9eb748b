-- Two runs of two ends, so that the law speaks of something: what is called, over which channel, and what comes of it.
use Rattle.std.specs.Prelude.{◌≡◌, ℕ, ◌⊎◌, List, [], ◌∷◌, ◌++◌, map, replicate, Some, None, Option}
use Rattle.nonce.specs.declared.side.Side.{Side}
use Rattle.nonce.specs.declared.side.Side.TheVariants.{A, B}
use Rattle.book.specs.Audits.{audited}
use Rattle.channel.specs.Behaviour.{Behaviour}
use Rattle.channel.specs.Meaning.{Meaning, In}
use Rattle.channel.specs.declared.sent.Sent.TheVariants.{Taken, NotTaken}
use Rattle.calls.specs.Numbers.{answer_number}
use Rattle.calls.specs.declared.answers.Answer.{Answer}
use Rattle.calls.specs.declared.making.Making.{Making}
use Rattle.calls.specs.declared.moves.Call.{Call}
use Rattle.calls.specs.declared.moves.Call.TheVariants.{Create, Rekey, Delete, Check, Resend, Deliver}
use Rattle.calls.specs.declared.moves.Move.{Move}
use Rattle.law.specs.Runs.{World, Run, Start}
use Rattle.law.specs.Laws.{Quiet}

-- ---- a channel that is two lists, and keeps, loses or doubles what is sent

-- what waits for each end
pub record Lanes : Type 0 where
  pub a : List (List ℕ)
  pub b : List (List ℕ)

abbrev pub lane : Side → Lanes → List (List ℕ)
lane A l = l.a
lane B l = l.b

abbrev pub with_lane : Side → List (List ℕ) → Lanes → Lanes
with_lane A ds l = record { a = ds; b = l.b }
with_lane B ds l = record { a = l.a; b = ds }

-- it promises nothing: its depth is 0
abbrev pub meaning : Lanes → Meaning
meaning l = record { longest = 256; depth = 0; waiting = λ e. []; may = λ e d. In d (lane e l) }

-- what becomes of a datagram that was taken
pub data Fate : Type 0 where
  kept lost twice : Fate

abbrev pub more : Fate → List ℕ → List (List ℕ) → List (List ℕ)
more kept o ds = ds ++ (o ∷ [])
more lost o ds = ds
more twice o ds = ds ++ (o ∷ (o ∷ []))

-- a send is not taken, or taken with some fate; a receive gives the first
abbrev pub gives_first : List (List ℕ) → Lanes → Side → Option (List ℕ) → Lanes → Type 0
gives_first [] c at came d = (came ≡ None) × (d ≡ c)
gives_first (x ∷ xs) c at came d = (came ≡ Some x) × (d ≡ with_lane at xs c)

abbrev pub behaviour : Behaviour Lanes
behaviour = record {
  meaning = meaning;
  sends = λ c to o t d. ((t ≡ NotTaken) × (d ≡ c)) ⊎ ((f : Fate) × (t ≡ Taken) × (d ≡ with_lane to (more f o (lane to c)) c));
  gives = λ c at came d. gives_first (lane at c) c at came d;
}

-- ---- calls

-- a call of one of two ends, with the fate of what it sends
pub record Turn : Type 0 where
  pub move : Move (List ℕ)
  pub fate : Fate

abbrev pub moves : List Turn → List (Move (List ℕ))
moves [] = []
moves (t ∷ ts) = t.move ∷ moves ts

abbrev pub n : ℕ → List ℕ
n x = replicate 16 x

abbrev pub making : Making
making = record { initiator = 1; responder = 2; a = record { id = 1; spi = 1000 }; b = record { id = 7; spi = 2000 } }

abbrev pub turn : Side → Call (List ℕ) → Fate → Turn
turn s x f = record { move = record { side = s; call = x }; fate = f }

abbrev pub asks : Side → Call (List ℕ) → Turn
asks s x = turn s x kept

abbrev pub gets : Side → ℕ → Turn
gets s x = turn s (Deliver (n x)) kept

abbrev pub round : List Turn
round = gets A 0x33 ∷ (gets B 0x33 ∷ [])

-- A makes an SA and checks, so that B's row is confirmed; then both rekey it at once. A's exchange has the nonces 0x44 and
-- 0x66, B's 0x55 and 0x77, so that A's new SA loses.
abbrev pub collision : List Turn
collision =
    asks A (Create (n 0x11)) ∷ (gets B 0x22 ∷ (gets A 0x33 ∷ (asks A Check ∷ (gets B 0x33 ∷ (gets A 0x33 ∷
    (asks A (Rekey 1000 (n 0x44)) ∷ (asks B (Rekey 2000 (n 0x55)) ∷ (gets B 0x66 ∷ (gets A 0x77 ∷
    (round ++ (round ++ (round ++ round))))))))))))

abbrev pub collision_numbers : List ℕ
collision_numbers = 0 ∷ (0 ∷ (0 ∷ (0 ∷ (0 ∷ (0 ∷ (0 ∷ (0 ∷ (0 ∷ (0 ∷ (0 ∷ (0 ∷ (0 ∷ (0 ∷ (0 ∷ (0 ∷ (31 ∷ (31 ∷ [])))))))))))))))))

-- A line that loses and repeats: A's request is lost, its resend comes twice, B's reply to the second is lost; then A's Delete
-- crosses B's check.
abbrev pub mishaps : List Turn
mishaps =
    turn A (Create (n 0x11)) lost ∷ (gets B 0x22 ∷ (turn A Resend twice ∷ (gets B 0x22 ∷ (turn B (Deliver (n 0x22)) lost ∷
    (gets A 0x33 ∷ (asks A (Delete 1000) ∷ (asks B Check ∷ (gets B 0x33 ∷ (gets A 0x33 ∷ (gets A 0x33 ∷ (gets B 0x33 ∷ [])))))))))))

abbrev pub mishap_numbers : List ℕ
mishap_numbers = 0 ∷ (31 ∷ (0 ∷ (0 ∷ (2 ∷ (0 ∷ (0 ∷ (0 ∷ (0 ∷ (0 ∷ (0 ∷ (0 ∷ [])))))))))))

-- ---- what comes of them

-- These calls, on two ends as they are made, are answered with these numbers; in the end both are quiet, and the books are
-- mirrors of each other with these own SPIs of A.
pub record Leads (turns : List Turn) (numbers own_of_a : List ℕ) : Type 0 where
  pub first : World Lanes
  pub answers : List Answer
  pub last : World Lanes
  pub start : Start behaviour first
  pub run : Run behaviour first (moves turns) answers last
  pub told : map answer_number answers ≡ numbers
  pub quiet : Quiet last
  pub agree : audited last.a.shelf last.b.shelf ≡ None
  pub left : map (λ r. r.own) last.a.shelf.rows ≡ own_of_a

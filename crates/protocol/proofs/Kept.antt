-- Each step keeps the invariant, and so does a run.
use Rattle.std.proofs.Common.{◌≡◌, ℕ, Bool, true, false, not, List, None, Option, refl, arith}
use Rattle.protocol.specs.Model.{Nonce, Cell, quiet, sent, answered, rekey, made, Coll, Seed, loses, Ask, End, Asks, ask_check, ask_create, ask_rekey, ask_delete, Acts, act_check, refuse_create, act_create, refuse_rekey, rekey_none, act_rekey, delete_none, delete_closing, delete_row, Settles, settle_check, settle_delete, settle_create, create_refused, rekey_refused, rekey_no_such, rekey_lost, rekey_won, rekey_won_gone}
use Rattle.protocol.specs.Invariant.{Half, Inv, RowOwned, RowFaced, LinkClash}
use Rattle.protocol.specs.Law.{State, Step, asks, answers, settles, swapped, Run, start, then, begin, empty, SameIn, BooksAgree}
use Rattle.protocol.proofs.AskCheck
use Rattle.protocol.proofs.AskCreate
use Rattle.protocol.proofs.AskRekey
use Rattle.protocol.proofs.AskDelete
use Rattle.protocol.proofs.Calm
use Rattle.protocol.proofs.ActCheck
use Rattle.protocol.proofs.RefuseCreate
use Rattle.protocol.proofs.ActCreate
use Rattle.protocol.proofs.RefuseRekey
use Rattle.protocol.proofs.RekeyNone
use Rattle.protocol.proofs.ActRekey
use Rattle.protocol.proofs.DeleteNone
use Rattle.protocol.proofs.DeleteClosing
use Rattle.protocol.proofs.DeleteRow
use Rattle.protocol.proofs.SettleCheck
use Rattle.protocol.proofs.SettleDelete
use Rattle.protocol.proofs.SettleCreate
use Rattle.protocol.proofs.CreateRefused
use Rattle.protocol.proofs.RekeyRefused
use Rattle.protocol.proofs.RekeyNoSuch
use Rattle.protocol.proofs.RekeyLost
use Rattle.protocol.proofs.RekeyWon

pub asks_keep : {P P' : End} (Q : End) → Asks P P' → Half P Q → Half Q P → Inv P' Q
asks_keep {P} Q (ask_check w) h g = record { here = AskCheck.here P Q w h g; there = AskCheck.there P Q w h g }
asks_keep {P} Q (ask_create n w) h g = record { here = AskCreate.here P Q n w h g; there = AskCreate.there P Q n w h g }
asks_keep {P} Q (ask_rekey x a d w r y o e) h g =
    record { here = AskRekey.here P Q x a d w r y o e h g; there = AskRekey.there P Q x a d w r y o e h g }
asks_keep {P} Q (ask_delete x a w r) h g =
    record { here = AskDelete.here P Q x a w r h g; there = AskDelete.there P Q x a w r h g }

pub acts_keep : {P Q P' Q' : End} → Acts P Q P' Q' → Half P Q → Half Q P → Inv P' Q'
acts_keep {P} {Q} (act_check w) h g = record { here = ActCheck.here P Q w h g; there = ActCheck.there P Q w h g }
acts_keep {P} {Q} (refuse_create o d w) h g =
    record { here = RefuseCreate.here P Q o d w h g; there = RefuseCreate.there P Q o d w h g }
acts_keep {P} {Q} (act_create o d n w) h g =
    record { here = ActCreate.here P Q o d n w h g; there = ActCreate.there P Q o d n w h g }
acts_keep {P} {Q} (refuse_rekey o d c w) h g =
    record { here = RefuseRekey.here P Q o d c w h g; there = RefuseRekey.there P Q o d c w h g }
acts_keep {P} {Q} (rekey_none o d c w n) h g =
    record { here = RekeyNone.here P Q o d c w n h g; there = RekeyNone.there P Q o d c w n h g }
acts_keep {P} {Q} (act_rekey o d c q b n w r i) h g =
    record { here = ActRekey.here P Q o d c q b n w r i h g; there = ActRekey.there P Q o d c q b n w r i h g }
acts_keep {P} {Q} (delete_none x w n) h g =
    record { here = DeleteNone.here P Q x w n h g; there = DeleteNone.there P Q x w n h g }
acts_keep {P} {Q} (delete_closing x q b w r i) h g =
    record { here = DeleteClosing.here P Q x q b w r i h g; there = DeleteClosing.there P Q x q b w r i h g }
acts_keep {P} {Q} (delete_row x q t b w r s i) h g =
    record { here = DeleteRow.here P Q x q t b w r s i h g; there = DeleteRow.there P Q x q t b w r s i h g }

-- an end that wins has its old row
won_gone :
    (P Q : End) (o : ℕ) (d : Seed) (c : Coll) (k : ℕ) (n : Nonce)
    → P.link ≡ answered (rekey o d c) (made k n)
    → loses P.first d n c ≡ false
    → P.book d.po ≡ None
    → LinkClash P.first Q.link P.book Q.book P.link
    → ⊥
won_gone P Q o d c k n w l r f = grind arith

pub settles_keep : {P P' : End} (Q : End) → Settles P P' → Half P Q → Half Q P → Inv P' Q
settles_keep {P} Q (settle_check r w) h g = record { here = SettleCheck.here P Q r w h g; there = SettleCheck.there P Q r w h g }
settles_keep {P} Q (settle_delete x r w) h g =
    record { here = SettleDelete.here P Q x r w h g; there = SettleDelete.there P Q x r w h g }
settles_keep {P} Q (settle_create o d k n w) h g =
    record { here = SettleCreate.here P Q o d k n w h g; there = SettleCreate.there P Q o d k n w h g }
settles_keep {P} Q (create_refused o d w) h g =
    record { here = CreateRefused.here P Q o d w h g; there = CreateRefused.there P Q o d w h g }
settles_keep {P} Q (rekey_refused o d c w) h g =
    record { here = RekeyRefused.here P Q o d c w h g; there = RekeyRefused.there P Q o d c w h g }
settles_keep {P} Q (rekey_no_such o d c w) h g =
    record { here = RekeyNoSuch.here P Q o d c w h g; there = RekeyNoSuch.there P Q o d c w h g }
settles_keep {P} Q (rekey_lost o d j e f k n w l) h g =
    record { here = RekeyLost.here P Q o d j e f k n w l h g; there = RekeyLost.there P Q o d j e f k n w l h g }
settles_keep {P} Q (rekey_won o d c k n s a w l r) h g =
    record { here = RekeyWon.here P Q o d c k n s a w l r h g; there = RekeyWon.there P Q o d c k n s a w l r h g }
settles_keep {P} Q (rekey_won_gone o d c k n w l r) h g = absurd (won_gone P Q o d c k n w l r h.clash)

-- the request that a step answers was sent
pub asked_of : {P Q P' Q' : End} → Acts P Q P' Q' → (a : Ask) × (P.link ≡ sent a)
asked_of (act_check w) = (_, w)
asked_of (refuse_create o d w) = (_, w)
asked_of (act_create o d n w) = (_, w)
asked_of (refuse_rekey o d c w) = (_, w)
asked_of (rekey_none o d c w n) = (_, w)
asked_of (act_rekey o d c q b n w r i) = (_, w)
asked_of (delete_none x w n) = (_, w)
asked_of (delete_closing x q b w r i) = (_, w)
asked_of (delete_row x q t b w r s i) = (_, w)

pub step_keeps : {s t : State} → Step s t → Inv s.a s.b → Inv t.a t.b
step_keeps (asks {Q = Q} x) i = asks_keep Q x i.here i.there
step_keeps (answers {P = P} {Q = Q} x) i =
    let w = asked_of x in
    acts_keep x (Calm.here P Q w.0 w.1 i.here i.there) (Calm.there P Q w.0 w.1 i.here i.there)
step_keeps (settles {Q = Q} x) i = settles_keep Q x i.here i.there
step_keeps (swapped x) i =
    let j = step_keeps x (record { here = i.there; there = i.here }) in record { here = j.there; there = j.here }

begins : (w : Bool) (i j : ℕ) → Half (empty w i) (empty (not w) j)
begins w i j =
    record { sides = refl; rows = λ _. tt; own = tt; faced = λ _. tt; request = tt; worn = λ _. tt; clash = tt; known = λ _. tt; children = λ _. tt; heirs = λ _. tt; given = tt; used = λ _. tt; kept = λ _. tt; lost = λ _. tt; collided = λ _ _. tt; met = tt }

pub run_keeps : {m n : ℕ} {past : List State} {s : State} → Run (begin m n) past s → Inv s.a s.b
run_keeps {m} {n} start = record { here = begins true m n; there = begins false n m }
run_keeps (then r x) = step_keeps x (run_keeps r)

same :
    (P Q : End) (k : ℕ) (c : Option Cell)
    → P.link ≡ quiet
    → Q.link ≡ quiet
    → RowOwned P.spi P.link k c
    → RowFaced Q k c
    → SameIn Q.book k c
same P Q k c p q r f = grind arith

pub books_agree : BooksAgree
books_agree m n past s r p q =
    let i = run_keeps r in
    record {
      a_in_b = λ k. same s.a s.b k (s.a.book k) p q (i.here.rows k) (i.here.faced k);
      b_in_a = λ k. same s.b s.a k (s.b.book k) q p (i.there.rows k) (i.there.faced k);
    }

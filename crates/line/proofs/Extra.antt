-- More of every abstract run: who is first, what is lost, and that an SA has one heir of each end.
use Rattle.std.proofs.Common.{◌≡◌, ℕ, true, false, List, Some, None, Option, refl, ◌∙◌, arith}
use Rattle.protocol.specs.Model.{standing, Sa, Seed, live, put, mark, born, Coll, create, rekey, given_up, lost, sent, answered, End, Asks, ask_check, ask_create, ask_rekey, ask_delete, Acts, act_check, refuse_create, act_create, refuse_rekey, rekey_none, act_rekey, delete_none, delete_closing, delete_row, Settles, settle_check, settle_delete, settle_create, create_refused, rekey_refused, rekey_no_such, rekey_lost, rekey_won, rekey_won_gone}
use Rattle.protocol.specs.Invariant.{Half, Inv, Own, Used, Made, Rekeyed, Faced}
use Rattle.protocol.specs.Law.{State, Step, asks, answers, settles, swapped, Run, start, then, begin}
use Rattle.protocol.proofs.Kept.{run_keeps, asked_of}
use Rattle.protocol.proofs.Calm

abbrev pub LostApart : End → Type 0
LostApart P = (k j : ℕ) → P.given k ≡ lost j → P.born_here k ≡ None

abbrev pub OneHeir : End → Type 0
OneHeir P = (k l : ℕ) (s t : Sa) → P.born_here k ≡ Some s → P.born_here l ≡ Some t → s.heir ≡ true → t.heir ≡ true → s.po ≡ t.po → k ≡ l

pub record More (P : End) : Type 0 where
  pub apart : LostApart P
  pub one : OneHeir P

unmarked : (P : End) (x k j : ℕ) → mark P.given x given_up k ≡ lost j → P.given k ≡ lost j
unmarked P x k j e = grind arith

asks_more : {P P' : End} → Asks P P' → More P → More P'
asks_more (ask_check w) m = record { apart = m.apart; one = m.one }
asks_more (ask_create n w) m = record { apart = m.apart; one = m.one }
asks_more {P} (ask_rekey x a d w r h o e) m = record { apart = λ k j g. m.apart k j (unmarked P x k j g); one = m.one }
asks_more {P} (ask_delete x a w r) m = record { apart = λ k j g. m.apart k j (unmarked P x k j g); one = m.one }

-- an end makes an SA more
not_used : (P : End) (a : Sa) (k j : ℕ) → Used P k → (P.given k ≡ lost j → P.born_here k ≡ None) → P.given k ≡ lost j → put P.born_here P.spi (Some a) k ≡ None
not_used P a k j u h e = let n = h e in grind arith

two_heirs :
    (P : End) (a : Sa) (k l : ℕ) (s t : Sa)
    → ((k : ℕ) (s : Sa) → P.born_here k ≡ Some s → s.heir ≡ true → s.po ≡ a.po → a.heir ≡ true → ⊥)
    → (P.born_here k ≡ Some s → P.born_here l ≡ Some t → k ≡ l)
    → put P.born_here P.spi (Some a) k ≡ Some s
    → put P.born_here P.spi (Some a) l ≡ Some t
    → s.heir ≡ true
    → t.heir ≡ true
    → s.po ≡ t.po
    → k ≡ l
two_heirs P a k l s t none old x y f g e = let nk = none k s in let nl = none l t in grind arith

bears_more :
    (P P' : End) (a : Sa)
    → P'.born_here ≡ put P.born_here P.spi (Some a)
    → P'.given ≡ P.given
    → ((k : ℕ) → Used P k)
    → ((k : ℕ) (s : Sa) → P.born_here k ≡ Some s → s.heir ≡ true → s.po ≡ a.po → a.heir ≡ true → ⊥)
    → More P
    → More P'
bears_more P P' a b g u none m =
    record {
      apart = λ k j e. rw b (not_used P a k j (u k) (m.apart k j) (rw g at e));
      one = λ k l s t x y f h e. two_heirs P a k l s t none (λ x y. m.one k l s t x y f h e) (rw b at x) (rw b at y) f h e;
    }

not_heir : (P : End) (o : ℕ) (d : Seed) → P.link ≡ sent (create o d) → Own P → d.heir ≡ true → ⊥
not_heir P o d w own h = grind arith

gone_before :
    (P Q : End) (o : ℕ) (d : Seed) (c : Coll) (q : ℕ) (b : Sa) (k : ℕ) (s : Sa)
    → P.link ≡ sent (rekey o d c)
    → Q.book q ≡ Some (live standing b)
    → b.peer ≡ d.po
    → Own P
    → Faced Q P q
    → Rekeyed Q P k
    → Q.born_here k ≡ Some s
    → s.heir ≡ true
    → s.po ≡ d.pp
    → ⊥
gone_before P Q o d c q b k s w r i own f h e t p = let x : d.pp ≡ q = old P Q o d c q b w r i own f in grind arith
  where
    old : (P Q : End) (o : ℕ) (d : Seed) (c : Coll) (q : ℕ) (b : Sa) → P.link ≡ sent (rekey o d c) → Q.book q ≡ Some (live standing b) → b.peer ≡ d.po → Own P → Faced Q P q → d.pp ≡ q
    old P Q o d c q b w r i own f = grind arith

acts_more : {P Q P' Q' : End} → Acts P Q P' Q' → Half P Q → Half Q P → More P → More Q → More P' × More Q'
acts_more (act_check w) h g m n = (record { apart = m.apart; one = m.one }, n)
acts_more (refuse_create o d w) h g m n = (record { apart = m.apart; one = m.one }, n)
acts_more {P} {Q} (act_create o d x w) h g m n =
    (record { apart = m.apart; one = m.one }, bears_more Q _ (born o d x) refl refl g.used (λ k s e f p a. not_heir P o d w h.own a) n)
acts_more (refuse_rekey o d c w) h g m n = (record { apart = m.apart; one = m.one }, n)
acts_more (rekey_none o d c w x) h g m n = (record { apart = m.apart; one = m.one }, n)
acts_more {P} {Q} (act_rekey o d c q b x w r i) h g m n = (
  record { apart = m.apart; one = m.one },
  bears_more Q _ (born o d x) refl refl g.used (λ k s e f p a. gone_before P Q o d c q b k s w r i h.own (g.faced q) (g.heirs k) e f p) n,
)
acts_more (delete_none x w y) h g m n = (record { apart = m.apart; one = m.one }, n)
acts_more (delete_closing x q b w r i) h g m n = (record { apart = m.apart; one = m.one }, n)
acts_more (delete_row x q t b w r s i) h g m n = (record { apart = m.apart; one = m.one }, record { apart = n.apart; one = n.one })

opened : (P Q : End) (o : ℕ) (d : Seed) (c : Coll) (r : Rattle.protocol.specs.Model.Reply) → P.link ≡ answered (rekey o d c) r → Own P → Made P Q o → P.born_here o ≡ None
opened P Q o d c r w own m = by (P.born_here o) refl
  where
    by : (x : Option Sa) → P.born_here o ≡ x → P.born_here o ≡ None
    by None e = e
    by (Some s) e = absurd (grind arith)

lost_now : (P : End) (o n k j : ℕ) → P.born_here o ≡ None → (P.given k ≡ lost j → P.born_here k ≡ None) → mark P.given o (lost n) k ≡ lost j → P.born_here k ≡ None
lost_now P o n k j b h e = grind arith

settles_more : {P P' : End} (Q : End) → Settles P P' → Half P Q → More P → More P'
settles_more Q (settle_check r w) h m = record { apart = m.apart; one = m.one }
settles_more Q (settle_delete x r w) h m = record { apart = m.apart; one = m.one }
settles_more Q (settle_create o d k n w) h m = record { apart = m.apart; one = m.one }
settles_more Q (create_refused o d w) h m = record { apart = m.apart; one = m.one }
settles_more Q (rekey_refused o d c w) h m = record { apart = m.apart; one = m.one }
settles_more Q (rekey_no_such o d c w) h m = record { apart = m.apart; one = m.one }
settles_more {P} Q (rekey_lost o d j e f k n w l) h m =
    record { apart = λ x y g. lost_now P o j x y (opened P Q o d _ _ w h.own (h.children o)) (m.apart x y) g; one = m.one }
settles_more Q (rekey_won o d c k n s a w l r) h m = record { apart = m.apart; one = m.one }
settles_more Q (rekey_won_gone o d c k n w l r) h m = record { apart = m.apart; one = m.one }

step_more : {s t : State} → Step s t → Inv s.a s.b → More s.a → More s.b → More t.a × More t.b
step_more (asks x) i m n = (asks_more x m, n)
step_more (answers {P = P} {Q = Q} x) i m n =
    let w = asked_of x in
    acts_more x (Calm.here P Q w.0 w.1 i.here i.there) (Calm.there P Q w.0 w.1 i.here i.there) m (record { apart = n.apart; one = n.one })
step_more (settles {Q = Q} x) i m n = (settles_more Q x i.here m, n)
step_more (swapped x) i m n = let k = step_more x (record { here = i.there; there = i.here }) n m in (k.1, k.0)

pub run_more : {m n : ℕ} {past : List State} {s : State} → Run (begin m n) past s → More s.a × More s.b
run_more start = (
  record { apart = λ k j e. refl; one = λ k l s t x y f g e. absurd (let z : ◌≡◌ {A = ℕ} 0 1 = cc in omega arith) },
  record { apart = λ k j e. refl; one = λ k l s t x y f g e. absurd (let z : ◌≡◌ {A = ℕ} 0 1 = cc in omega arith) },
)
run_more (then r x) = let k = run_more r in step_more x (run_keeps r) k.0 k.1

-- the first end stays the first
asks_first : {P P' : End} → Asks P P' → P'.first ≡ P.first
asks_first (ask_check w) = refl
asks_first (ask_create n w) = refl
asks_first (ask_rekey x a d w r h o e) = refl
asks_first (ask_delete x a w r) = refl

acts_first : {P Q P' Q' : End} → Acts P Q P' Q' → (P'.first ≡ P.first) × (Q'.first ≡ Q.first)
acts_first (act_check w) = (refl, refl)
acts_first (refuse_create o d w) = (refl, refl)
acts_first (act_create o d n w) = (refl, refl)
acts_first (refuse_rekey o d c w) = (refl, refl)
acts_first (rekey_none o d c w n) = (refl, refl)
acts_first (act_rekey o d c q b n w r i) = (refl, refl)
acts_first (delete_none x w n) = (refl, refl)
acts_first (delete_closing x q b w r i) = (refl, refl)
acts_first (delete_row x q t b w r s i) = (refl, refl)

settles_first : {P P' : End} → Settles P P' → P'.first ≡ P.first
settles_first (settle_check r w) = refl
settles_first (settle_delete x r w) = refl
settles_first (settle_create o d k n w) = refl
settles_first (create_refused o d w) = refl
settles_first (rekey_refused o d c w) = refl
settles_first (rekey_no_such o d c w) = refl
settles_first (rekey_lost o d j e f k n w l) = refl
settles_first (rekey_won o d c k n s a w l r) = refl
settles_first (rekey_won_gone o d c k n w l r) = refl

step_first : {s t : State} → Step s t → (t.a.first ≡ s.a.first) × (t.b.first ≡ s.b.first)
step_first (asks x) = (asks_first x, refl)
step_first (answers x) = acts_first x
step_first (settles x) = (settles_first x, refl)
step_first (swapped x) = let k = step_first x in (k.1, k.0)

pub run_first : {m n : ℕ} {past : List State} {s : State} → Run (begin m n) past s → (s.a.first ≡ true) × (s.b.first ≡ false)
run_first start = (refl, refl)
run_first (then r x) = let k = run_first r in let l = step_first x in (l.0 ∙ k.0, l.1 ∙ k.1)

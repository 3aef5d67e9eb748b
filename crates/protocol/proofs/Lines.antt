-- Lines go on while no delete is asked for.
use Rattle.std.proofs.Common.{◌≡◌, ℕ, true, false, List, Some, None, ⊎_elim, arith}
use Rattle.std.proofs.lemmas.Bool.{cases_eq}
use Rattle.protocol.specs.Model.{Nonce, St, Sa, live, calm, sent, answered, rekey, made, delete, born, Seed, Coll, loses, End, with_book, Asks, ask_check, ask_create, ask_rekey, ask_delete, Acts, act_check, refuse_create, act_create, refuse_rekey, rekey_none, act_rekey, delete_none, delete_closing, delete_row, Settles, settle_check, settle_delete, settle_create, create_refused, rekey_refused, rekey_no_such, rekey_lost, rekey_won, rekey_won_gone}
use Rattle.protocol.specs.Invariant.{Half, Inv, Own, Request, Known, Clash}
use Rattle.protocol.specs.Law.{State, Step, asks, answers, settles, swapped, Run, start, then, begin, ever, Line, itself, by_a, by_b, Open, Onward, AsksNoDelete, NoDelete, NeverDeletes, LinesGoOn}
use Rattle.protocol.proofs.Kept.{run_keeps}
use Rattle.protocol.proofs.Common.{fresh_key, fresh_child}

turn : {A B : End} {a b c d : ℕ} → Line A B a b c d → Line B A b a d c
turn itself = itself
turn (by_a k z l e h p q) = by_b k z (turn l) e h q p
turn (by_b k z l e h p q) = by_a k z (turn l) e h q p

chain : {A B : End} {a b c d e f : ℕ} → Line A B a b c d → Line A B c d e f → Line A B a b e f
chain l itself = l
chain l (by_a k z m e h p q) = by_a k z (chain l m) e h p q
chain l (by_b k z m e h p q) = by_b k z (chain l m) e h p q

-- what was born stays born
record Grows (A B A' B' : End) : Type 0 where
  pub on_a : (k : ℕ) (z : Sa) → A.born_here k ≡ Some z → A'.born_here k ≡ Some z
  pub on_b : (k : ℕ) (z : Sa) → B.born_here k ≡ Some z → B'.born_here k ≡ Some z

carry : {A B A' B' : End} {a b c d : ℕ} → Grows A B A' B' → Line A B a b c d → Line A' B' a b c d
carry g itself = itself
carry g (by_a k z l e h p q) = by_a k z (carry g l) (g.on_a k z e) h p q
carry g (by_b k z l e h p q) = by_b k z (carry g l) (g.on_b k z e) h p q

still : {A B : End} {k j : ℕ} → Open A B k j → Onward A B k j
still {k = k} {j = j} o = record { key_a = k; key_b = j; is_open = o; line = itself }

module _ (k j : ℕ) where
  asks_open : {P P' : End} (Q : End) (x : Asks P P') → AsksNoDelete x → P.book P.spi ≡ None → Open P Q k j → Open P' Q k j
  asks_open {P} Q (ask_check w) u v o = record { in_a = o.in_a; in_b = o.in_b }
  asks_open {P} Q (ask_create n w) u v o = grind arith
  asks_open {P} Q (ask_rekey y a d w r h p q) u v o = grind arith
  asks_open {P} Q (ask_delete y a w r) u v o = absurd u

  calm_open : (P Q : End) → Open P Q k j → Open P (with_book Q (calm Q.book)) k j
  calm_open P Q o = grind arith

  acts_open : {P Q P' Q' : End} → Acts P Q P' Q' → Own P → Q.book Q.spi ≡ None → Open P Q k j → Open P' Q' k j
  acts_open (act_check w) p v o = record { in_a = o.in_a; in_b = o.in_b }
  acts_open (refuse_create y d w) p v o = record { in_a = o.in_a; in_b = o.in_b }
  acts_open {P} {Q} (act_create y d n w) p v o = grind arith
  acts_open (refuse_rekey y d c w) p v o = record { in_a = o.in_a; in_b = o.in_b }
  acts_open (rekey_none y d c w n) p v o = record { in_a = o.in_a; in_b = o.in_b }
  acts_open {P} {Q} (act_rekey y d c q b n w r i) p v o = grind arith
  acts_open (delete_none y w n) p v o = record { in_a = o.in_a; in_b = o.in_b }
  acts_open (delete_closing y q b w r i) p v o = record { in_a = o.in_a; in_b = o.in_b }
  acts_open {P} {Q} (delete_row y q t b w r s i) p v o = grind arith

  -- where the row goes with a rekey that won, its heir is open
  module _ (P Q : End) (y : ℕ) (d : Seed) (c : Coll) (i : ℕ) (n : Nonce) (s : St) (a : Sa) (w : P.link ≡ answered (rekey y d c) (made i n)) (l : loses P.first d n c ≡ false) (r : P.book d.po ≡ Some (live s a)) where
    abbrev P' : End
    P' = Rattle.protocol.specs.Model.with_both P (Rattle.protocol.specs.Model.put (Rattle.protocol.specs.Model.put P.book y (Some (live Rattle.protocol.specs.Model.standing (Rattle.protocol.specs.Model.grown i d n)))) d.po (Some (live Rattle.protocol.specs.Model.closing a))) (sent (delete d.po))

    other : (d.po ≡ k → ⊥) → Own P → Open P Q k j → Open P' Q k j
    other e p o = grind arith

    heir_open : Own P → Request P Q → Open P' Q y i
    heir_open p q = grind arith

    parent : Own P → Open P Q k j → d.po ≡ k → d.pp ≡ j
    parent p o e = grind arith

    is_heir : Own P → d.heir ≡ true
    is_heir p = grind arith

    was_born : Request P Q → Known Q P i → Q.born_here i ≡ Some (born y d n)
    was_born q f = grind arith

    won : Own P → Request P Q → Known Q P i → Open P Q k j → Onward P' Q k j
    won p q f o =
        ⊎_elim
        (λ e.
        record {
          key_a = y;
          key_b = i;
          is_open = heir_open p q;
          line = by_b i (born y d n) itself (was_born q f) (is_heir p) e (parent p o e);
        })
        (λ e. still (other e p o)) (cases_eq d.po k)

  gone : (P Q : End) (y : ℕ) (d : Seed) (c : Coll) (i : ℕ) (n : Nonce) → P.link ≡ answered (rekey y d c) (made i n) → loses P.first d n c ≡ false → P.book d.po ≡ None → Clash P Q → ⊥
  gone P Q y d c i n w l r f = grind arith

  settles_open : {P P' : End} (Q : End) → Settles P P' → Half P Q → Half Q P → Own P → Request P Q → Open P Q k j → Onward P' Q k j
  settles_open {P} Q (settle_check r w) h g p q o = still (record { in_a = o.in_a; in_b = o.in_b })
  settles_open {P} Q (settle_delete y r w) _ _ p q o = still (grind arith)
  settles_open {P} Q (settle_create y d i n w) _ _ p q o = still (grind arith)
  settles_open {P} Q (create_refused y d w) _ _ p q o = still (grind arith)
  settles_open {P} Q (rekey_refused y d c w) _ _ p q o = still (grind arith)
  settles_open {P} Q (rekey_no_such y d c w) _ _ p q o = still (grind arith)
  settles_open {P} Q (rekey_lost y d m e f i n w l) _ _ p q o = still (grind arith)
  settles_open {P} Q (rekey_won y d c i n s a w l r) h g p q o = won P Q y d c i n s a w l r p q (g.known i) o
  settles_open {P} Q (rekey_won_gone y d c i n w l r) h g p q o = absurd (gone P Q y d c i n w l r h.clash)

asks_born : {P P' : End} → Asks P P' → (k : ℕ) (z : Sa) → P.born_here k ≡ Some z → P'.born_here k ≡ Some z
asks_born (ask_check w) k z e = e
asks_born (ask_create n w) k z e = e
asks_born (ask_rekey y a d w r h p q) k z e = e
asks_born (ask_delete y a w r) k z e = e

settles_born : {P P' : End} → Settles P P' → (k : ℕ) (z : Sa) → P.born_here k ≡ Some z → P'.born_here k ≡ Some z
settles_born (settle_check r w) k z e = e
settles_born (settle_delete y r w) k z e = e
settles_born (settle_create y d i n w) k z e = e
settles_born (create_refused y d w) k z e = e
settles_born (rekey_refused y d c w) k z e = e
settles_born (rekey_no_such y d c w) k z e = e
settles_born (rekey_lost y d m f g i n w l) k z e = e
settles_born (rekey_won y d c i n s a w l r) k z e = e
settles_born (rekey_won_gone y d c i n w l r) k z e = e

acts_born : {P Q P' Q' : End} → Acts P Q P' Q' → Q.born_here Q.spi ≡ None → Grows P Q P' Q'
acts_born (act_check w) v = record { on_a = λ k z e. e; on_b = λ k z e. e }
acts_born (refuse_create y d w) v = record { on_a = λ k z e. e; on_b = λ k z e. e }
acts_born {P} {Q} (act_create y d n w) v = record { on_a = λ k z e. e; on_b = λ k z e. grind arith }
acts_born (refuse_rekey y d c w) v = record { on_a = λ k z e. e; on_b = λ k z e. e }
acts_born (rekey_none y d c w n) v = record { on_a = λ k z e. e; on_b = λ k z e. e }
acts_born {P} {Q} (act_rekey y d c q b n w r i) v = record { on_a = λ k z e. e; on_b = λ k z e. grind arith }
acts_born (delete_none y w n) v = record { on_a = λ k z e. e; on_b = λ k z e. e }
acts_born (delete_closing y q b w r i) v = record { on_a = λ k z e. e; on_b = λ k z e. e }
acts_born (delete_row y q t b w r s i) v = record { on_a = λ k z e. e; on_b = λ k z e. e }

calm_vacant : (Q : End) → Q.book Q.spi ≡ None → calm Q.book Q.spi ≡ None
calm_vacant Q e = grind arith

step_grows : {s t : State} → Step s t → Inv s.a s.b → Grows s.a s.b t.a t.b
step_grows (asks x) i = record { on_a = asks_born x; on_b = λ k z e. e }
step_grows (answers x) i = let g = acts_born x (fresh_child i.there) in record { on_a = g.on_a; on_b = g.on_b }
step_grows (settles x) i = record { on_a = settles_born x; on_b = λ k z e. e }
step_grows (swapped x) i =
    let g = step_grows x (record { here = i.there; there = i.here }) in record { on_a = g.on_b; on_b = g.on_a }

step_open :
    {s t : State} (x : Step s t)
    → NoDelete x
    → Inv s.a s.b
    → (k j : ℕ)
    → Open s.a s.b k j
    → Onward t.a t.b k j
step_open (asks {Q = Q} x) u i k j o = still (asks_open k j Q x u (fresh_key i.here) o)
step_open (answers {P = P} {Q = Q} x) u i k j o =
    still (acts_open k j x i.here.own (calm_vacant Q (fresh_key i.there)) (calm_open k j P Q o))
step_open (settles {Q = Q} x) u i k j o =
    settles_open k j Q x i.here i.there i.here.own i.here.request o
step_open (swapped x) u i k j o =
    let y =
    step_open x u (record { here = i.there; there = i.here }) j k (record { in_a = o.in_b; in_b = o.in_a }) in
    record {
      key_a = y.key_b;
      key_b = y.key_a;
      is_open = record { in_a = y.is_open.in_b; in_b = y.is_open.in_a };
      line = turn y.line;
    }

onward :
    {s t : State} {k j : ℕ} (x : Step s t) → NoDelete x → Inv s.a s.b → Onward s.a s.b k j → Onward t.a t.b k j
onward x u i o =
    let y = step_open x u i o.key_a o.key_b o.is_open in
    record {
      key_a = y.key_a;
      key_b = y.key_b;
      is_open = y.is_open;
      line = chain (carry (step_grows x i) o.line) y.line;
    }

run_on :
    {m n : ℕ} {past : List State} {s : State} (k j : ℕ) (r : Run (begin m n) past s)
    → NeverDeletes r
    → ever (λ t. Open t.a t.b k j) past
    → Onward s.a s.b k j
run_on k j start n e = absurd e
run_on k j (then r x) n e = onward x n.1 (run_keeps r) (⊎_elim (λ o. still o) (λ w. run_on k j r n.0 w) e)

pub lines_go_on : LinesGoOn
lines_go_on m n past s k j r d e = run_on k j r d e

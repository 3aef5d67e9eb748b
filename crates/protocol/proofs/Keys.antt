-- A key names one SA for good.
use Rattle.std.proofs.Common.{◌≡◌, ℕ, List, Some, ⊎_elim, arith}
use Rattle.protocol.specs.Model.{St, Sa, live, calm, End, with_book, Asks, ask_check, ask_create, ask_rekey, ask_delete, Acts, act_check, refuse_create, act_create, refuse_rekey, rekey_none, act_rekey, delete_none, delete_closing, delete_row, Settles, settle_check, settle_delete, settle_create, create_refused, rekey_refused, rekey_no_such, rekey_lost, rekey_won, rekey_won_gone}
use Rattle.protocol.specs.Invariant.{Inv, Own, Row}
use Rattle.protocol.specs.Law.{State, Step, asks, answers, settles, swapped, Run, start, then, begin, ever, Had, KeysNameOne}
use Rattle.protocol.proofs.Kept.{run_keeps}

module _ (k : ℕ) (x : Sa) where
  asks_had : {P P' : End} → Asks P P' → Had k x P → Had k x P'
  asks_had {P} (ask_check w) h = grind arith
  asks_had {P} (ask_create n w) h = grind arith
  asks_had {P} (ask_rekey y a d w r z o e) h = grind arith
  asks_had {P} (ask_delete y a w r) h = grind arith

  settles_had : {P P' : End} → Settles P P' → Own P → Had k x P → Had k x P'
  settles_had {P} (settle_check r w) o h = grind arith
  settles_had {P} (settle_delete y r w) o h = grind arith
  settles_had {P} (settle_create y d j n w) o h = grind arith
  settles_had {P} (create_refused y d w) o h = grind arith
  settles_had {P} (rekey_refused y d c w) o h = grind arith
  settles_had {P} (rekey_no_such y d c w) o h = grind arith
  settles_had {P} (rekey_lost y d i e f j n w l) o h = grind arith
  settles_had {P} (rekey_won y d c j n s a w l r) o h = grind arith
  settles_had {P} (rekey_won_gone y d c j n w l r) o h = grind arith

  calm_had : (Q : End) → Had k x Q → Had k x (with_book Q (calm Q.book))
  calm_had Q h = grind arith

  acts_had : {P Q P' Q' : End} → Acts P Q P' Q' → Had k x Q → Had k x Q'
  acts_had (act_check w) h = h
  acts_had (refuse_create o d w) h = h
  acts_had {P} {Q} (act_create o d n w) h = grind arith
  acts_had (refuse_rekey o d c w) h = h
  acts_had (rekey_none o d c w n) h = h
  acts_had {P} {Q} (act_rekey o d c q b n w r i) h = grind arith
  acts_had (delete_none y w n) h = h
  acts_had (delete_closing y q b w r i) h = h
  acts_had {P} {Q} (delete_row y q t b w r s i) h = grind arith

  -- the end that asked keeps its book
  acted_had : {P Q P' Q' : End} → Acts P Q P' Q' → Had k x P → Had k x P'
  acted_had (act_check w) h = record { used = h.used; left = h.left }
  acted_had (refuse_create o d w) h = record { used = h.used; left = h.left }
  acted_had (act_create o d n w) h = record { used = h.used; left = h.left }
  acted_had (refuse_rekey o d c w) h = record { used = h.used; left = h.left }
  acted_had (rekey_none o d c w n) h = record { used = h.used; left = h.left }
  acted_had (act_rekey o d c q b n w r i) h = record { used = h.used; left = h.left }
  acted_had (delete_none y w n) h = record { used = h.used; left = h.left }
  acted_had (delete_closing y q b w r i) h = record { used = h.used; left = h.left }
  acted_had (delete_row y q t b w r s i) h = record { used = h.used; left = h.left }

  record Both (s t : State) : Type 0 where
    pub on_a : Had k x s.a → Had k x t.a
    pub on_b : Had k x s.b → Had k x t.b

  step_had : {s t : State} → Step s t → Inv s.a s.b → Both s t
  step_had (asks y) i = record { on_a = asks_had y; on_b = λ h. h }
  step_had (answers {Q = Q} y) i = record { on_a = acted_had y; on_b = λ h. acts_had y (calm_had Q h) }
  step_had (settles y) i = record { on_a = settles_had y i.here.own; on_b = λ h. h }
  step_had (swapped y) i =
      let j = step_had y (record { here = i.there; there = i.here }) in record { on_a = j.on_b; on_b = j.on_a }

  had_now : (P : End) (u : St) → Row P k → P.book k ≡ Some (live u x) → Had k x P
  had_now P u r e = grind arith

  run_had :
      {m n : ℕ} {past : List State} {s : State}
      → Run (begin m n) past s
      → ever (λ t. (u : St) × (t.a.book k ≡ Some (live u x))) past
      → Had k x s.a
  run_had start e = absurd e
  run_had (then {t = t} r y) e =
      (step_had y (run_keeps r)).on_a
      (⊎_elim (λ w. had_now t.a w.0 ((run_keeps r).here.rows k) w.1) (λ w. run_had r w) e)

pub keys_name_one : KeysNameOne
keys_name_one m n past s k x r e = (run_had k x r e).left

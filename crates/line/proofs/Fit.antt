-- In every abstract run replies fit their requests.
use Rattle.std.proofs.Common.{ℕ, List, refl, arith}
use Rattle.protocol.specs.Model.{Nonce, create, Link, End, noted, Asks, ask_check, ask_create, ask_rekey, ask_delete, Acts, act_check, refuse_create, act_create, refuse_rekey, rekey_none, act_rekey, delete_none, delete_closing, delete_row, Settles, settle_check, settle_delete, settle_create, create_refused, rekey_refused, rekey_no_such, rekey_lost, rekey_won, rekey_won_gone}
use Rattle.protocol.specs.Law.{State, Step, asks, answers, settles, swapped, Run, start, then, begin}
use Rattle.line.specs.Line.{fits, FitAsk}

asks_fit : {P P' : End} → Asks P P' → fits P'.link
asks_fit (ask_check w) = tt
asks_fit (ask_create n w) = refl
asks_fit (ask_rekey x a d w r h o e) = tt
asks_fit (ask_delete x a w r) = tt

noted_fits : (q j : ℕ) (e f : Nonce) (l : Link) → fits l → fits (noted q j e f l)
noted_fits q j e f l h = grind arith

acts_fit : {P Q P' Q' : End} → Acts P Q P' Q' → fits P.link → fits Q.link → fits P'.link × fits Q'.link
acts_fit (act_check w) h g = ((tt, tt), g)
acts_fit (refuse_create o d w) h g = let k : FitAsk (create o d) = grind arith in ((k, tt), g)
acts_fit (act_create o d n w) h g = let k : FitAsk (create o d) = grind arith in ((k, tt), g)
acts_fit (refuse_rekey o d c w) h g = ((tt, tt), g)
acts_fit (rekey_none o d c w n) h g = ((tt, tt), g)
acts_fit {Q} (act_rekey o d c q b n w r i) h g = ((tt, tt), noted_fits q Q.spi d.ni n Q.link g)
acts_fit (delete_none x w n) h g = ((tt, tt), g)
acts_fit (delete_closing x q b w r i) h g = ((tt, tt), g)
acts_fit (delete_row x q t b w r s i) h g = ((tt, tt), g)

settles_fit : {P P' : End} → Settles P P' → fits P'.link
settles_fit (settle_check r w) = tt
settles_fit (settle_delete x r w) = tt
settles_fit (settle_create o d k n w) = tt
settles_fit (create_refused o d w) = tt
settles_fit (rekey_refused o d c w) = tt
settles_fit (rekey_no_such o d c w) = tt
settles_fit (rekey_lost o d j e f k n w l) = tt
settles_fit (rekey_won o d c k n s a w l r) = tt
settles_fit (rekey_won_gone o d c k n w l r) = tt

step_fits : {s t : State} → Step s t → fits s.a.link → fits s.b.link → fits t.a.link × fits t.b.link
step_fits (asks x) h g = (asks_fit x, g)
step_fits (answers x) h g = acts_fit x h g
step_fits (settles x) h g = (settles_fit x, g)
step_fits (swapped x) h g = let k = step_fits x g h in (k.1, k.0)

pub run_fits : {m n : ℕ} {past : List State} {s : State} → Run (begin m n) past s → fits s.a.link × fits s.b.link
run_fits start = (tt, tt)
run_fits (then r x) = let k = run_fits r in step_fits x k.0 k.1

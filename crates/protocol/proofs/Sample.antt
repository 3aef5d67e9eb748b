-- A run that makes an SA: the laws speak of something.
use Rattle.std.proofs.Common.{◌≡◌, List, [], ◌∷◌, Some, refl}
use Rattle.protocol.specs.Model.{live, standing, grown, plain, quiet, ask_create, act_create, settle_create}
use Rattle.protocol.specs.Law.{State, asks, answers, settles, Run, start, then, begin}

sample : (past : List State) × (s : State) × Run (begin 1 1) past s × (s.a.book 1 ≡ Some (live standing (grown 1 (plain (5 ∷ [])) (7 ∷ [])))) × (s.a.link ≡ quiet)
sample = (
  _,
  _,
  then (then (then start (asks (ask_create (5 ∷ []) refl))) (answers (act_create 1 (plain (5 ∷ [])) (7 ∷ []) refl)))
      (settles (settle_create 1 (plain (5 ∷ [])) 1 (7 ∷ []) refl)),
  refl,
  refl,
)

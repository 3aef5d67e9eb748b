-- Moments of a run, and the asks that were taken in it.
use Rattle.std.specs.Prelude.{◌≡◌, ℕ, ◌⊎◌, List, [], ◌∷◌}
use Rattle.nonce.specs.declared.side.Side.{Side}
use Rattle.channel.specs.Meaning.{Meaning}
use Rattle.line.specs.Calls.{Coding}
use Rattle.line.specs.World.{World, Move, Answer, Run}
use Rattle.line.specs.Ghosts.{GivesUp}

-- at some moment of the run
abbrev pub ever : {C : Type 0} (K : Coding) (meaning : C → Meaning) → (World C → Type 0) → (v : World C) (xs : List Move) (rs : List Answer) (w : World C) → Run K meaning v xs rs w → Type 0
ever K meaning F v [] [] w h = F v
ever K meaning F v [] (r ∷ rs) w h = ⊥
ever K meaning F v (x ∷ xs) [] w h = ⊥
ever K meaning F v (x ∷ xs) (r ∷ rs) w h = F v ⊎ ever K meaning F h.0 xs rs w h.2

-- in the run, an ask of the end of the side s to rekey or delete the SA of its own SPI k was taken
abbrev pub GivenUpBy : List Move → List Answer → Side → ℕ → Type 0
GivenUpBy [] rs s k = ⊥
GivenUpBy (x ∷ xs) [] s k = ⊥
GivenUpBy (x ∷ xs) (r ∷ rs) s k = ((x.side ≡ s) × GivesUp x.call r k) ⊎ GivenUpBy xs rs s k

-- the moments after those of us, the last first
abbrev pub trail : {C : Type 0} (K : Coding) (meaning : C → Meaning) → List (World C) → (v : World C) (xs : List Move) (rs : List Answer) (w : World C) → Run K meaning v xs rs w → List (World C)
trail K meaning us v [] [] w h = us
trail K meaning us v [] (r ∷ rs) w h = us
trail K meaning us v (x ∷ xs) [] w h = us
trail K meaning us v (x ∷ xs) (r ∷ rs) w h = trail K meaning (h.0 ∷ us) h.0 xs rs w h.2

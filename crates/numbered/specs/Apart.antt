-- Numbers that tell what has them.
use Rattle.std.specs.Prelude.{◌≡◌, ℕ, Option, Some}
use Rattle.std.proofs.lemmas.Option.{same_Some}

-- Where what has a number can be told from it, no two have the same.
pub apart_by : {X : Type 0} (number : X → ℕ) (of : ℕ → Option X) → ((x : X) → of (number x) ≡ Some x)
    → (x y : X) → number x ≡ number y → x ≡ y
apart_by number of back x y e = same_Some x y (rw (← back x, e) (back y))

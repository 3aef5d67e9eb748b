-- The number of each refusal to make a channel.
use Rattle.std.specs.Prelude.{◌≡◌, ℕ, cond, Option, Some, None, ◌==◌, refl}
use Rattle.bottoms.specs.declared.refusal.MakeRefusal.{MakeRefusal}
use Rattle.bottoms.specs.declared.refusal.MakeRefusal.TheVariants.{Longest}

abbrev pub make_number : MakeRefusal → ℕ
make_number Longest = 11

-- the refusal that has a number
abbrev pub make_of : ℕ → Option MakeRefusal
make_of n = cond (n == 11) (Some Longest) None

pub make_told : (e : MakeRefusal) → make_of (make_number e) ≡ Some e
make_told Longest = refl

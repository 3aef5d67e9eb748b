-- The two ends, one beside the other.
use Rattle.std.specs.Prelude.{Bool, true, false}
use Rattle.nonce.specs.declared.side.Side.{Side}
use Rattle.nonce.specs.declared.side.Side.TheVariants.{A, B}

abbrev pub other : Side → Side
other A = B
other B = A

-- whether two are the same end
abbrev pub is_side : Side → Side → Bool
is_side A A = true
is_side A B = false
is_side B A = false
is_side B B = true

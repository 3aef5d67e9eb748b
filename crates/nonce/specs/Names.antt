-- The names of the two ends.
use Rattle.std.specs.Prelude.{ℕ, List, codes}
use Rattle.nonce.specs.declared.side.Side.{Side}
use Rattle.nonce.specs.declared.side.Side.TheVariants.{A, B}

abbrev pub side_text : Side → List ℕ
side_text A = codes "A"
side_text B = codes "B"

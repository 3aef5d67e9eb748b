-- The fates of what is sent, and what each leaves.
use Rattle.std.specs.Prelude.{ℕ, cond, List, [], ◌∷◌, ◌==◌}
use Rattle.nonce.specs.declared.side.Side.{Side}
use Rattle.bottoms.specs.Stores.{Store, admits, added_last, added_first}
use Rattle.bottoms.specs.declared.rule.Fate.{Fate}
use Rattle.bottoms.specs.declared.rule.Fate.TheVariants.{Pass, Lose, Double, Jump}

-- the letters l (108), 2 (50) and j (106); any other means p
abbrev pub fate_of : ℕ → Fate
fate_of letter = cond (letter == 108) Lose (cond (letter == 50) Double (cond (letter == 106) Jump Pass))

-- the first of the letters that are left, or p
abbrev pub next_fate : List ℕ → Fate
next_fate [] = Pass
next_fate (letter ∷ letters) = fate_of letter

-- what a datagram that is taken leaves, by its fate
abbrev pub fated : Fate → Store → Side → List ℕ → Store
fated Pass s to d = added_last s to d
fated Lose s to d = s
fated Double s to d = cond (admits (added_last s to d) to d) (added_last (added_last s to d) to d) (added_last s to d)
fated Jump s to d = added_first s to d

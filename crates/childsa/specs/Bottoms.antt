-- The bottom that a script asks for, and what is made of it.
use Rattle.std.specs.Prelude.{◌≡◌, ℕ, Bool, true, false, Ok, Err, Result}
use Rattle.bottoms.specs.Stores.{in_range}
use Rattle.bottoms.specs.declared.refusal.MakeRefusal.{MakeRefusal}
use Rattle.chosen.specs.Piles.{bottom_means}
use Rattle.chosen.specs.declared.any_bottom.AnyBottom.{AnyBottom}
use Rattle.chosen.specs.declared.any_bottom.AnyBottom.TheVariants.{Queue, Stack, Trace}
use Rattle.childsa.specs.declared.channels.Wanted.{Wanted}

-- the longest datagram that is asked for
abbrev pub longest_wanted : Wanted → ℕ
longest_wanted (Wanted.Queue n) = n
longest_wanted (Wanted.Stack n) = n
longest_wanted (Wanted.Trace n f) = n

-- whether a bottom is of the kind that is asked for
abbrev pub is_wanted : Wanted → AnyBottom → Bool
is_wanted (Wanted.Queue n) (Queue c) = true
is_wanted (Wanted.Queue n) (Stack c) = false
is_wanted (Wanted.Queue n) (Trace c) = false
is_wanted (Wanted.Stack n) (Queue c) = false
is_wanted (Wanted.Stack n) (Stack c) = true
is_wanted (Wanted.Stack n) (Trace c) = false
is_wanted (Wanted.Trace n f) (Queue c) = false
is_wanted (Wanted.Trace n f) (Stack c) = false
is_wanted (Wanted.Trace n f) (Trace c) = true

-- a bottom that was made is of the kind and the longest that were asked for; one that was not made is refused by its longest
abbrev pub BottomMade : Wanted → Result AnyBottom MakeRefusal → Type 0
BottomMade w (Ok c) = (is_wanted w c ≡ true) × ((bottom_means c).longest ≡ longest_wanted w)
BottomMade w (Err e) = in_range (longest_wanted w) ≡ false

-- there may be no memory only for the fates of a trace, and only where its longest is fit
abbrev pub WantsMemory : Wanted → Type 0
WantsMemory (Wanted.Queue n) = ⊥
WantsMemory (Wanted.Stack n) = ⊥
WantsMemory (Wanted.Trace n f) = in_range n ≡ true

-- What is told of an end.
use Rattle.std.specs.Prelude.{ℕ, Bool, false, cond, is_some, Some, None, Option}
use Rattle.law.specs.Ends.{Outstanding, is_spent}
use Rattle.endpoint.specs.declared.outstanding.Outstanding as kept

-- a number, unless they are spent
abbrev pub number_left : ℕ → Option ℕ
number_left n = cond (is_spent n) None (Some n)

-- the numbers of the outstanding request
abbrev pub numbers_of : Outstanding → kept.Outstanding
numbers_of o = record { id = o.id; kind = o.kind; own = o.own; old = o.old }

abbrev pub has_collision : Option Outstanding → Bool
has_collision None = false
has_collision (Some o) = is_some o.collision

-- One of a kind for each end.
use Rattle.std.specs.Borrow.{Lends, Fml, RattleType, MutBor}
use Rattle.nonce.specs.declared.side.Side.{Side}
use Rattle.nonce.specs.declared.side.Side.TheVariants.{A, B}
use Rattle.nonce.specs.declared.both.Both.{Both}
use Rattle.nonce.specs.contracts.both.Both.{the_row}

abbrev pub at : {T : Type 0} → Both T → Side → T
at p A = p.a
at p B = p.b

abbrev pub with_at : {T : Type 0} → Both T → Side → T → Both T
with_at p A x = record { a = x; b = p.b }
with_at p B x = record { a = p.a; b = x }

-- once the borrow r ends, the end has the last value written through r
abbrev pub lends_at : (T : RattleType) → MutBor (Both T.Denot) → Side → MutBor T.Denot → Fml
lends_at T both side r = Lends (the_row T) T both r (with_at both.now side)

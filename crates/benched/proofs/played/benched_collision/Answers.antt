use Rattle.std.proofs.Common.{◌≡◌, ℕ, Some, None, Option, inl, inr, unwrap_or}
use Rattle.std.specs.Prelude.{IfSome}
use Rattle.benched.specs.Moves.{Moves}
use Rattle.benched.specs.Plays.{Played, PlayedOrNot, no_memory}
use Rattle.benched.proofs.played.benched_collision.Goals as goal

told : (o : Option ℕ) (n : ℕ) (ms ns : Moves) → ms ≡ ns → IfSome o (Played ms) → n ≡ unwrap_or o no_memory → PlayedOrNot ns n
told None n ms ns e p q = inl q
told (Some k) n ms ns e p q = inr (rw (q, ← e) p)

pub returns : goal.returns
returns c = told c.played.result c.unwrap_or.result _ _ c.collision_moves.ensures c.played.ensures.played c.unwrap_or.ensures

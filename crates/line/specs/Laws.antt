-- The law of mirrors over runs of calls.
use Rattle.std.specs.Prelude.{◌≡◌, ℕ, Bool, true, Some, None}
use Rattle.protocol.specs.Model.{St, Sa, live, mirror}
use Rattle.protocol.specs.Invariant.{Loses}
use Rattle.protocol.specs.Law.{SameIn}
use Rattle.protocol.specs.Rows.{lookup}
use Rattle.protocol.specs.Node.{idle, Node}
use Rattle.nonce.specs.declared.side.Side.{Side}
use Rattle.line.specs.Ghosts.{Has}
use Rattle.line.specs.World.{World}

-- whenever both ends are quiet, every row of either book has its mirror in the other
pub record Mirrors {C : Type 0} (w : World C) : Type 0 where
  pub a_in_b : w.a.out ≡ idle → w.b.out ≡ idle → (k : ℕ) → SameIn (lookup w.b.rows) k (lookup w.a.rows k)
  pub b_in_a : w.a.out ≡ idle → w.b.out ≡ idle → (k : ℕ) → SameIn (lookup w.a.rows) k (lookup w.b.rows k)

-- What has become, once both ends are quiet, of the SAs that the end p made for the end q at its requests.
-- ever: at some moment of the run; given s k: the end of the side s was asked, and took it, to rekey or delete the SA of its SPI k; first: q is A
pub record Succeeds {C : Type 0} (p q : World C → Node) (first : Bool) (side_p side_q : Side) (ever : (World C → Type 0) → Type 0) (given : Side → ℕ → Type 0) (w : World C) : Type 0 where
  -- the SA that was rekeyed is in neither book
  pub old_gone :
      (k : ℕ) (s : Sa)
      → ever (λ u. Has (p u) k s)
      → s.heir ≡ true
      → (lookup (p w).rows s.po ≡ None) × (lookup (q w).rows s.pp ≡ None)
  -- each end has made at most one new SA for it
  pub one :
      (k l : ℕ) (s t : Sa)
      → ever (λ u. Has (p u) k s)
      → ever (λ u. Has (p u) l t)
      → s.heir ≡ true
      → t.heir ≡ true
      → s.po ≡ t.po
      → k ≡ l
  -- of two the loser is in neither book
  pub loser_gone :
      (k j : ℕ) (s t : Sa)
      → ever (λ u. Has (p u) k s)
      → ever (λ u. Has (q u) j t)
      → Loses first s t
      → (lookup (p w).rows k ≡ None) × (lookup (q w).rows s.peer ≡ None)
  -- the other, or the only one, is in both, unless an end was asked to rekey or delete it
  pub successor :
      (k : ℕ) (s : Sa)
      → ever (λ u. Has (p u) k s)
      → ((j : ℕ) (t : Sa) → ever (λ u. Has (q u) j t) → Loses first s t → ⊥)
      → (given side_p k → ⊥)
      → (given side_q s.peer → ⊥)
      → ((t : St) × (lookup (p w).rows k ≡ Some (live t s))) × ((t : St) × (lookup (q w).rows s.peer ≡ Some (live t (mirror k s))))

use Rattle.std.proofs.Common.{◌≡◌, ℕ, List}
use Rattle.benched.specs.Messages.{with_id, writes}
use Rattle.benched.proofs.encoding.write_many.Given as goal

-- so many writes are done, and of the message no more than its ID has changed
abbrev pub invariant-loop-id : goal.invariant-loop-id
invariant-loop-id l = record {
  done : ◌≡◌ {A = ℕ × List ℕ} (l.all, l.out) (writes l.fn.message l.id l.initial.out);
  same : (id : ℕ) → with_id id l.message ≡ with_id id l.fn.message;
}

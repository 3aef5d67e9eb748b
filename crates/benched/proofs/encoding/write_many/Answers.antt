use Rattle.std.proofs.Common.{◌≡◌, ℕ, ◌+◌, List, add-one}
use Rattle.wire.specs.declared.message.Message.{Message}
use Rattle.benched.specs.Messages.{with_id, write_more, writes}
use Rattle.benched.proofs.encoding.write_many.Goals as goal

-- one write more
once_more :
    (m n : Message (List ℕ)) (id all : ℕ) (out s : List ℕ) → (all, out) ≡ writes m id s → with_id id n ≡ with_id id m →
    write_more (with_id id n) (all, out) ≡ writes m (id + 1) s
once_more m n id all out s e f = rw (add-one, ← e, f)

pub loop-id-preserved : goal.loop-id-preserved
loop-id-preserved c =
    let h = c.loop-id.invariant in
    let step = once_more c.args.message c.loop-id.message c.loop-id.id c.loop-id.all c.loop-id.out c.args.out.now h.done (h.same c.loop-id.id) in
    record {
      done =
          rw (c.mixed-all.ensures, c.write_number.ensures, c.encode-answer.ensures.answer, c.encode-answer.ensures.buffer) step;
      same = λ id. h.same id;
    }

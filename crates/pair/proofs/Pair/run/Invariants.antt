use Rattle.std.proofs.Common.{◌≡◌, ◌≤◌, length, take, vec_len, vec_capacity}
use Rattle.calls.specs.Plain.{plain_moves}
use Rattle.law.specs.Runs.{Run}
use Rattle.pair.specs.Worlds.{world}
use Rattle.pair.proofs.Pair.run.Given as goal

abbrev pub invariant-loop-next : goal.invariant-loop-next
invariant-loop-next g l =
    (vec_len l.answers ≡ l.next-index) × (length l.moves ≤ vec_capacity l.answers)
    × Run g.C.Channel.behaviour (world l.fn.self) (plain_moves (take l.next-index l.moves)) l.answers.items (world l.self)

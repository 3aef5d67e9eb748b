use Rattle.std.proofs.Common.{arith}
use Rattle.law.proofs.Worked.{all_hold}
use Rattle.law.proofs.lines.worked_lines.Goals as goal

pub returns : goal.returns
returns c = record { count = omega (arith, c.worked_lines.ensures.count); hold = all_hold c.worked_lines.ensures.hold }

use Rattle.line.proofs.Codes.{coded}
use Rattle.line.proofs.Whole.{keeps_law}
use Rattle.line.proofs.runs_keep_the_law.Goals as goal

pub returns : goal.returns
returns g c = record { law = keeps_law g.C.Channel.behaviour.meaning; codes = coded }

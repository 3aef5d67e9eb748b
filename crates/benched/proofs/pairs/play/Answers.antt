use Rattle.std.proofs.Common.{ap, rules, ◌∙◌}
use Rattle.pair.specs.Worlds.{world}
use Rattle.benched.specs.Plays.{play_number}
use Rattle.benched.proofs.pairs.play.Goals as goal

pub returns-in-Ok-run-clause-played : goal.returns-in-Ok-run-clause-played
returns-in-Ok-run-clause-played g c = record {
  first = world c.in-Ok-new.pair;
  answers = c.in-Ok-run.answers.items;
  last = world c.run.new.self;
  start = search rules;
  lawful = c.in-Ok-run.ensures.law;
  number = c.play_number.ensures ∙ ap (λ s. play_number s (world c.run.new.self)) c.as_slice.ensures.value;
}

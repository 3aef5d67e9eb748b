use Rattle.law.specs.Laws.{left_open}
use Rattle.law.proofs.Lawful.{lawful}
use Rattle.law.proofs.definitions_keep_the_law.Goals as goal

pub returns : goal.returns
returns g c =
    let sound = g.met.C.Channel.sound in
    record {
      by_behaviour = lawful g.C.Channel.behaviour sound;
      by_meaning = lawful (left_open g.C.Channel.behaviour.meaning) sound;
    }

-- Every run keeps the law at every moment.
use Rattle.std.proofs.Common.{ℕ, List}
use Rattle.channel.specs.Meaning.{Meaning}
use Rattle.line.specs.Calls.{Coding}
use Rattle.line.specs.World.{World, Move, Answer, Run, Start}
use Rattle.line.specs.Rest.{Short}
use Rattle.line.specs.Whole.{Law, front, Lawful, KeepsLaw}
use Rattle.line.proofs.Runs.{mirrors}
use Rattle.line.proofs.Succession.{succession}
use Rattle.line.proofs.Pace.{comes_to_rest}

module _ {C : Type 0} (K : Coding) (wide : ℕ) (short : Short K wide) (meaning : C → Meaning) where
  pub law_of : (v : World C) (xs : List Move) (rs : List Answer) (w : World C) (h : Run K meaning v xs rs w) → Start K meaning v → Law K wide meaning v xs rs w h
  law_of v xs rs w h s =
      record {
        mirrors = mirrors K meaning v xs rs w h s;
        made_by_a = λ q. (succession K meaning v xs rs w h s q.a q.b).0;
        made_by_b = λ q. (succession K meaning v xs rs w h s q.a q.b).1;
        rest = λ sound deep n l. let z = comes_to_rest K wide short meaning v xs rs w h s sound deep n l in record { a = z.0; b = z.1 };
      }

  pub lawful : (v : World C) (xs : List Move) (rs : List Answer) (w : World C) → Run K meaning v xs rs w → Lawful K wide meaning v xs rs w
  lawful v xs rs w h = record { run = h; law = λ s n. let f = front K meaning n v xs rs w h in law_of v _ _ f.world f.run s }

pub keeps_law : {C : Type 0} (meaning : C → Meaning) → KeepsLaw meaning
keeps_law meaning K wide short = lawful K wide short meaning

-- What a trace means, and what it does.
use Rattle.std.specs.Prelude.{ℕ, cond, List, drop, Ok, Err, Option, Result}
use Rattle.nonce.specs.declared.side.Side.{Side}
use Rattle.channel.specs.Behaviour.{Behaviour}
use Rattle.channel.specs.Meaning.{Meaning}
use Rattle.channel.specs.declared.sent.Sent.{Sent}
use Rattle.channel.specs.declared.sent.Sent.TheVariants.{Taken, NotTaken}
use Rattle.bottoms.specs.Stores.{Store, admits, received, empty, in_range, store_of}
use Rattle.bottoms.specs.Bottoms.{means, behaves}
use Rattle.bottoms.specs.Fates.{next_fate, fated}
use Rattle.bottoms.specs.declared.bottom.Bottom.{Bottom}
use Rattle.bottoms.specs.declared.refusal.MakeRefusal.{MakeRefusal}
use Rattle.bottoms.specs.declared.refusal.MakeRefusal.TheVariants.{Longest}
use Rattle.bottoms.specs.declared.trace.Fates.{Fates}

-- what is there, and the letters of the fates that are left
pub record Traced : Type 0 where
  pub store : Store
  pub fates : List ℕ

abbrev pub Trace : Type 0
Trace = Bottom Fates

abbrev pub traced : Trace → Traced
traced t = record { store = store_of t.lanes; fates = t.rule }

abbrev pub trace_means : Trace → Meaning
trace_means = means 0

abbrev pub trace_behaves : Behaviour Trace
trace_behaves = behaves 0 next_fate (drop 1)

-- a send uses a fate if it is taken
abbrev pub trace_sent : Traced → Side → List ℕ → Sent × Traced
trace_sent t to d =
    cond (admits t.store to d)
    (Taken, record { store = fated (next_fate t.fates) t.store to d; fates = drop 1 t.fates })
    (NotTaken, t)

-- a receive uses none
abbrev pub with_fates : List ℕ → Option ℕ × List ℕ × Store → Option ℕ × List ℕ × Traced
with_fates fates r = (r.0, r.1, record { store = r.2; fates = fates })

abbrev pub trace_received : Traced → Side → List ℕ → Option ℕ × List ℕ × Traced
trace_received t side was = with_fates t.fates (received t.store side was)

-- a trace is made with all letters
abbrev pub trace_fresh : ℕ → List ℕ → Result Traced MakeRefusal
trace_fresh longest letters =
    cond (in_range longest) (Ok (record { store = empty longest; fates = letters })) (Err Longest)

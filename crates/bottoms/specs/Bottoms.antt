-- What a bottom means and does, and what a send over a queue and a stack answers and leaves.
use Rattle.std.specs.Prelude.{◌≡◌, ℕ, cond, List, [], ◌∷◌, Some, None, Option}
use Rattle.nonce.specs.declared.side.Side.{Side}
use Rattle.channel.specs.Behaviour.{Behaviour}
use Rattle.channel.specs.Meaning.{Meaning, In}
use Rattle.channel.specs.declared.sent.Sent.{Sent}
use Rattle.channel.specs.declared.sent.Sent.TheVariants.{Taken, NotTaken}
use Rattle.bottoms.specs.Fates.{fated}
use Rattle.bottoms.specs.Stores.{Store, list_at, with_list, admits, added_last, added_first, store_of}
use Rattle.bottoms.specs.declared.bottom.Bottom.{Bottom}
use Rattle.bottoms.specs.declared.queue.OldestFirst.{OldestFirst}
use Rattle.bottoms.specs.declared.rule.Fate.{Fate}
use Rattle.bottoms.specs.declared.rule.Fate.TheVariants.{Pass, Jump}
use Rattle.bottoms.specs.declared.stack.NewestFirst.{NewestFirst}

-- what is there may come
abbrev pub holding : ℕ → Store → Meaning
holding depth s = record {
  longest = s.longest;
  depth = depth;
  waiting = list_at s;
  may = λ side d. In d (list_at s side);
}

abbrev pub means : {R : Type 0} → ℕ → Bottom R → Meaning
means depth b = holding depth (store_of b.lanes)

-- what is there, and what is left of the rule
pub record Held (R : Type 0) : Type 0 where
  pub store : Store
  pub rule : R

abbrev pub held : {R : Type 0} → Bottom R → Held R
held b = record { store = store_of b.lanes; rule = b.rule }

-- A send: what is answered, and what is left. What is admitted has the next fate of the rule.
abbrev pub sent_over : {R : Type 0} → (R → Fate) → (R → R) → Held R → Side → List ℕ → Sent × Held R
sent_over fate rest h to d =
    cond (admits h.store to d)
    (Taken, record { store = fated (fate h.rule) h.store to d; rule = rest h.rule })
    (NotTaken, h)

-- A receive: the first is given, if there is one, and the others are left.
abbrev pub given_first : List (List ℕ) → Option (List ℕ) × List (List ℕ)
given_first [] = (None, [])
given_first (d ∷ ds) = (Some d, ds)

abbrev pub given_from : {R : Type 0} → Held R → Side → Option (List ℕ) × Held R
given_from h at =
    ((given_first (list_at h.store at)).0, record { store = with_list h.store at (given_first (list_at h.store at)).1; rule = h.rule })

-- a bottom with a rule does just this
abbrev pub behaves : {R : Type 0} → ℕ → (R → Fate) → (R → R) → Behaviour (Bottom R)
behaves depth fate rest = record {
  meaning = means depth;
  sends = λ b to d t c. (t, held c) ≡ sent_over fate rest (held b) to d;
  gives = λ b at came c. (came, held c) ≡ given_from (held b) at;
}

-- the queue: what is sent comes last
abbrev pub Queue : Type 0
Queue = Bottom OldestFirst

abbrev pub queue_store : Queue → Store
queue_store q = store_of q.lanes

abbrev pub queue_means : Queue → Meaning
queue_means = means 32

abbrev pub queue_behaves : Behaviour Queue
queue_behaves = behaves 32 (λ _. Pass) (λ rule. rule)

abbrev pub queue_sent : Store → Side → List ℕ → Sent × Store
queue_sent s to d = cond (admits s to d) (Taken, added_last s to d) (NotTaken, s)

-- the stack: what is sent comes first
abbrev pub Stack : Type 0
Stack = Bottom NewestFirst

abbrev pub stack_store : Stack → Store
stack_store q = store_of q.lanes

abbrev pub stack_means : Stack → Meaning
stack_means = means 32

abbrev pub stack_behaves : Behaviour Stack
stack_behaves = behaves 32 (λ _. Jump) (λ rule. rule)

abbrev pub stack_sent : Store → Side → List ℕ → Sent × Store
stack_sent s to d = cond (admits s to d) (Taken, added_first s to d) (NotTaken, s)

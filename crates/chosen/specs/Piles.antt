-- Channels: a bottom, and the markers over it.
use Rattle.std.specs.Prelude.{ℕ, ◌+◌, Bool, true, false, List, Option, nat_lt}
use Rattle.nonce.specs.declared.side.Side.{Side}
use Rattle.channel.specs.Behaviour.{Behaviour}
use Rattle.channel.specs.Markers.{marker_over}
use Rattle.channel.specs.Marks.{marked}
use Rattle.channel.specs.Meaning.{Meaning}
use Rattle.channel.specs.declared.marker.Marker.{Marker}
use Rattle.channel.specs.declared.sent.Sent.{Sent}
use Rattle.bottoms.specs.Bottoms.{queue_means, stack_means, queue_behaves, stack_behaves}
use Rattle.bottoms.specs.Traces.{trace_means, trace_behaves}
use Rattle.bottoms.specs.Bottoms as bottoms
use Rattle.bottoms.specs.Traces as traces
use Rattle.chosen.specs.declared.any_bottom.AnyBottom.{AnyBottom}
use Rattle.chosen.specs.declared.any_bottom.AnyBottom.TheVariants.{Queue, Stack, Trace}
use Rattle.chosen.specs.declared.pile.Layer.{Layer}
use Rattle.chosen.specs.declared.pile.Layer.TheVariants.{Bare, Marked}

-- a bottom is of a kind, and something holds of it
abbrev pub IsQueue : AnyBottom → (bottoms.Queue → Type 0) → Type 0
IsQueue (Queue c) P = P c
IsQueue (Stack c) P = ⊥
IsQueue (Trace c) P = ⊥

abbrev pub IsStack : AnyBottom → (bottoms.Stack → Type 0) → Type 0
IsStack (Queue c) P = ⊥
IsStack (Stack c) P = P c
IsStack (Trace c) P = ⊥

abbrev pub IsTrace : AnyBottom → (traces.Trace → Type 0) → Type 0
IsTrace (Queue c) P = ⊥
IsTrace (Stack c) P = ⊥
IsTrace (Trace c) P = P c

-- a layer is bare or marked, and something holds of the channel or of the marker
abbrev pub IsBare : {C : Type 0} → Layer C → (C → Type 0) → Type 0
IsBare (Bare c) P = P c
IsBare (Marked c) P = ⊥

abbrev pub IsMarked : {C : Type 0} → Layer C → (Marker C → Type 0) → Type 0
IsMarked (Bare c) P = ⊥
IsMarked (Marked c) P = P c

-- what a bottom means, by its kind
abbrev pub bottom_means : AnyBottom → Meaning
bottom_means (Queue c) = queue_means c
bottom_means (Stack c) = stack_means c
bottom_means (Trace c) = trace_means c

-- what a bottom does, by its kind, which stays
abbrev pub bottom_sends : AnyBottom → Side → List ℕ → Sent → AnyBottom → Type 0
bottom_sends (Queue c) to d t b = IsQueue b (queue_behaves.sends c to d t)
bottom_sends (Stack c) to d t b = IsStack b (stack_behaves.sends c to d t)
bottom_sends (Trace c) to d t b = IsTrace b (trace_behaves.sends c to d t)

abbrev pub bottom_gives : AnyBottom → Side → Option (List ℕ) → AnyBottom → Type 0
bottom_gives (Queue c) at came b = IsQueue b (queue_behaves.gives c at came)
bottom_gives (Stack c) at came b = IsStack b (stack_behaves.gives c at came)
bottom_gives (Trace c) at came b = IsTrace b (trace_behaves.gives c at came)

abbrev pub bottom_behaves : Behaviour AnyBottom
bottom_behaves = record { meaning = bottom_means; sends = bottom_sends; gives = bottom_gives }

-- what a layer means and does: what the channel does, or what a marker over it does
abbrev pub layer_means : {C : Type 0} → (C → Meaning) → Layer C → Meaning
layer_means m (Bare c) = m c
layer_means m (Marked c) = marked (m c.below)

abbrev pub layer_sends : {C : Type 0} → Behaviour C → Layer C → Side → List ℕ → Sent → Layer C → Type 0
layer_sends below (Bare c) to d t l = IsBare l (below.sends c to d t)
layer_sends below (Marked c) to d t l = IsMarked l ((marker_over below).sends c to d t)

abbrev pub layer_gives : {C : Type 0} → Behaviour C → Layer C → Side → Option (List ℕ) → Layer C → Type 0
layer_gives below (Bare c) at came l = IsBare l (below.gives c at came)
layer_gives below (Marked c) at came l = IsMarked l ((marker_over below).gives c at came)

abbrev pub layer_behaves : {C : Type 0} → Behaviour C → Behaviour (Layer C)
layer_behaves below = record { meaning = layer_means below.meaning; sends = layer_sends below; gives = layer_gives below }

-- what a pile means and does: each marker marks what is below it
abbrev pub pile_behaves : Behaviour (Layer (Layer (Layer AnyBottom)))
pile_behaves = layer_behaves (layer_behaves (layer_behaves bottom_behaves))

-- a channel, and a marker over it where it is to be marked
abbrev pub layered : {C : Type 0} → C → Bool → Layer C
layered c true = Marked (record { below = c })
layered c false = Bare c

-- a bottom with this many markers over it, at most three
abbrev pub piled : AnyBottom → ℕ → Layer (Layer (Layer AnyBottom))
piled c n = layered (layered (layered c (nat_lt 0 n)) (nat_lt 1 n)) (nat_lt 2 n)

-- the channel below a layer
abbrev pub below_of : {C : Type 0} → Layer C → C
below_of (Bare c) = c
below_of (Marked c) = c.below

-- how often a layer marks what is sent
abbrev pub marks : {C : Type 0} → Layer C → ℕ
marks (Bare c) = 0
marks (Marked c) = 1

-- the bottom of a pile, and how many markers stand over it
abbrev pub bottom_of : Layer (Layer (Layer AnyBottom)) → AnyBottom
bottom_of p = below_of (below_of (below_of p))

abbrev pub markers_of : Layer (Layer (Layer AnyBottom)) → ℕ
markers_of p = marks p + marks (below_of p) + marks (below_of (below_of p))

-- What an end does with what it has heard.
use Rattle.std.proofs.Common.{◌≡◌, true, List, ℕ, Some, None, Ok, Option, refl}
use Rattle.channel.specs.Behaviour.{Behaviour}
use Rattle.channel.specs.declared.sent.Sent.{Sent}
use Rattle.calls.specs.declared.answers.Delivered.TheVariants.{Again}
use Rattle.law.specs.Ends.{End}
use Rattle.law.specs.Deliveries.{Heard, repeated}
use Rattle.law.specs.Effects.{Acts, Replies}

repeats :
    {C : Type 0} (behaviour : Behaviour C) (e : End) (c c' : C) (s : Sent) (o : Option (List ℕ)) → (o ≡ None → ⊥) → Replies behaviour e.side c o s c' →
    Acts behaviour e c (repeated true o) (Ok (Again s)) e c'
repeats behaviour e c c' s None i g = absurd (i refl)
repeats behaviour e c c' s (Some x) i g = (s, refl, refl, g)

-- a stored reply that has gone out again
pub acts_again :
    {C : Type 0} (behaviour : Behaviour C) (e e' : End) (c c' : C) (s : Sent) (h : Heard) → h ≡ repeated true e'.reply → e' ≡ e →
    (e'.reply ≡ None → ⊥) → Replies behaviour e'.side c e'.reply s c' → Acts behaviour e c h (Ok (Again s)) e' c'
acts_again behaviour e e' c c' s h k t i g = rw (k, ← t) (repeats behaviour e' c c' s e'.reply i g)

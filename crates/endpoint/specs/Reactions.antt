-- What an end says, and does, when it has heard something.
use Rattle.std.specs.Prelude.{◌≡◌, ℕ, true, List, None, Option}
use Rattle.std.specs.Option.{option_map}
use Rattle.law.specs.Ends.{End}
use Rattle.law.specs.Deliveries.{Heard, refused, done, repeated}
use Rattle.endpoint.specs.declared.reaction.Says.{Says}
use Rattle.endpoint.specs.declared.reaction.Says.TheVariants as says
use Rattle.endpoint.specs.declared.reaction.Reaction.{Reaction}
use Rattle.endpoint.specs.declared.reaction.Reaction.TheVariants as reaction

-- the octets that are said
abbrev pub said : Says → End → Option (List ℕ)
said says.Nothing e = None
said says.Reply e = e.reply
said says.Request e = option_map (λ o. o.octets) e.outstanding

-- what was heard, by the reaction to it and the end after it
abbrev pub heard_by : Reaction → End → Heard
heard_by (reaction.Refused f) e = refused f
heard_by reaction.Again e = repeated true e.reply
heard_by (reaction.Done s) e = done e (said s e)

-- an end that refuses, or repeats its reply, stays as it is, and has a reply to repeat
abbrev pub Stays : Reaction → End → End → Type 0
Stays (reaction.Refused f) e e' = e' ≡ e
Stays reaction.Again e e' = (e' ≡ e) × (e'.reply ≡ None → ⊥)
Stays (reaction.Done s) e e' = Unit {0}

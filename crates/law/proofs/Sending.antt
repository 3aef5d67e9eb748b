-- What an end sends and takes, in the words of the line.
use Rattle.std.proofs.Common.{◌≡◌, ℕ, not, List, Some, None, Option, refl, subst}
use Rattle.nonce.specs.declared.side.Side.{Side}
use Rattle.nonce.specs.declared.side.Side.TheVariants.{A, B}
use Rattle.channel.specs.Behaviour.{Behaviour, Sends}
use Rattle.channel.specs.declared.sent.Sent.{Sent as Taking}
use Rattle.wire.specs.declared.message.Message.{Message}
use Rattle.wire.specs.declared.message.Request.{Request}
use Rattle.wire.specs.declared.message.Response.{Response}
use Rattle.line.specs.Calls.{request, response}
use Rattle.line.specs.Codes.{code, is_from}
use Rattle.line.specs.Meaning.{Sent, is_taken, CouldCome, removes, Got}
use Rattle.line.proofs.Effects.{sent_as, same_state}
use Rattle.law.specs.Ends.{End, request_octets, response_octets}
use Rattle.law.specs.Effects.{TakenOut, Comes}
use Rattle.law.specs.Deliveries.{is_from_peer}
use Rattle.nonce.specs.Sides.{other, is_side}

-- the end has this name, in an IKE SA with these SPIs
pub record Named (i r : ℕ) (s : Side) (e : End) : Type 0 where
  pub side : e.side ≡ s
  pub initiator : e.initiator ≡ i
  pub responder : e.responder ≡ r

module _ (i r : ℕ) (s : Side) (e : End) (n : Named i r s e) where
  pub request_code : (id : ℕ) (q : Request (List ℕ)) → request_octets e id q ≡ code i r s (request id q)
  request_code id q = rw (n.side, n.initiator, n.responder)

  pub response_code : (id : ℕ) (q : Response (List ℕ)) → response_octets e id q ≡ code i r s (response id q)
  response_code id q = rw (n.side, n.initiator, n.responder)

  from_other : (x t : Side) → not (is_side x t) ≡ is_side x (other t)
  from_other A A = refl
  from_other A B = refl
  from_other B A = refl
  from_other B B = refl

  -- a message is from the peer
  pub from_peer : (m : Message (List ℕ)) → is_from_peer e m ≡ is_from i r (other s) m
  from_peer m = rw (n.side, n.initiator, n.responder, from_other m.sender s)

module _ {C : Type 0} (behaviour : Behaviour C) (c c' : C) where
  -- octets that are those of a message
  pub sent : (to : Side) (octets words : List ℕ) (a : Taking) → octets ≡ words → Sends behaviour c c' to octets a → Sent (behaviour.meaning c) (behaviour.meaning c') to words (is_taken a)
  sent to octets words a e h = sent_as (behaviour.meaning c) (behaviour.meaning c') to words a (subst (λ x. Sends behaviour c c' to x a) e h).effect

  gives : (at : Side) (came : Option (List ℕ)) → Comes behaviour c c' at came → CouldCome (behaviour.meaning c) at came
  gives at None h = tt
  gives at (Some d) h = h.could

  taken : (at : Side) (came : Option (List ℕ)) → TakenOut (behaviour.meaning c) (behaviour.meaning c') at came → removes ((behaviour.meaning c).waiting at) came ((behaviour.meaning c').waiting at)
  taken at None h = h.here
  taken at (Some d) h = h.here

  pub got : (at : Side) (came : Option (List ℕ)) → Comes behaviour c c' at came → Got (behaviour.meaning c) (behaviour.meaning c') at came
  got at came h =
      record {
        longest = h.longest;
        only = h.only;
        gives = gives at came h;
        none = λ l e. let z = h.idle l e in (z.0, same_state behaviour.meaning c c' z.1);
        one = λ l b. let z = h.removes l b in (taken at came z, z.depth, z.there);
      }

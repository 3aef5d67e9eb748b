-- An ask or a resend of an end is one of its node.
use Rattle.std.proofs.Common.{◌≡◌, ℕ, ◌^◌, ◌<◌, List, Some, None, Ok, Err, Option, Result, sym, refl, ◌∙◌, subst, arith}
use Rattle.nonce.specs.declared.side.Side.{Side}
use Rattle.nonce.specs.Sides.{other}
use Rattle.channel.specs.Behaviour.{Behaviour}
use Rattle.channel.specs.Behaviour as channel
use Rattle.channel.specs.declared.sent.Sent.{Sent as Taking}
use Rattle.calls.specs.declared.answers.Answer.{Answer}
use Rattle.calls.specs.declared.answers.Answer.TheVariants as answers
use Rattle.calls.specs.declared.answers.Delivered.TheVariants.{Done, Again}
use Rattle.calls.specs.declared.moves.Call.{Call}
use Rattle.calls.specs.declared.moves.Call.TheVariants as calls
use Rattle.calls.specs.declared.refusals.AskRefusal.{AskRefusal}
use Rattle.calls.specs.declared.refusals.ResendRefusal.{ResendRefusal}
use Rattle.calls.specs.declared.refusals.DeliverRefusal.{DeliverRefusal}
use Rattle.calls.specs.declared.refusals.DeliverRefusal.TheVariants as refusal
use Rattle.wire.specs.declared.message.Response.{Response}
use Rattle.protocol.specs.Node.{Out, idle, asked, Node}
use Rattle.line.specs.Calls.{Want, to_create, to_rekey, to_delete, to_check, wire, Allowed, Coding, request}
use Rattle.line.specs.Codes.{code}
use Rattle.line.specs.Meaning.{is_taken}
use Rattle.line.specs.World as line
use Rattle.line.specs.World.{Did, refuses, asks, resends, asking, resend, deliver, did, again, stopped, nothing, unused}
use Rattle.line.proofs.Codes.{coding}
use Rattle.line.proofs.Effects.{same_state}
use Rattle.law.specs.Ends.{End, Outstanding}
use Rattle.law.specs.Asks.{Asked, Doing, resend_asked}
use Rattle.law.specs.Effects as effects
use Rattle.law.proofs.Asking.{Asks}
use Rattle.law.proofs.Sending.{Named, request_code, sent}
use Rattle.law.proofs.Tied.{node, OutTied, Tied, SameName}

-- the call and the answer, as the line has them
abbrev pub call_of : Call (List ℕ) → line.Call
call_of (calls.Create n) = asking (to_create n)
call_of (calls.Rekey own n) = asking (to_rekey own n)
call_of (calls.Delete own) = asking (to_delete own)
call_of calls.Check = asking to_check
call_of calls.Resend = resend
call_of (calls.Deliver n) = deliver n

abbrev pub refusal_of : DeliverRefusal → line.Answer
refusal_of refusal.NonceLength = stopped
refusal_of refusal.NothingCame = nothing
refusal_of (refusal.NoMessage f) = unused
refusal_of refusal.NotThePeer = unused
refusal_of refusal.WrongId = unused

abbrev pub answer_of : Answer → line.Answer
answer_of (answers.Asked (Ok s)) = did (is_taken s)
answer_of (answers.Asked (Err f)) = stopped
answer_of (answers.Resent (Ok s)) = did (is_taken s)
answer_of (answers.Resent (Err f)) = stopped
answer_of (answers.Heard (Ok (Done s))) = did (is_taken s)
answer_of (answers.Heard (Ok (Again s))) = again (is_taken s)
answer_of (answers.Heard (Err f)) = refusal_of f

pub renamed : (i r : ℕ) (s : Side) (e e' : End) → Named i r s e → SameName e e' → Named i r s e'
renamed i r s e e' n h =
    record { side = h.side ∙ n.side; initiator = h.initiator ∙ n.initiator; responder = h.responder ∙ n.responder }

pub idle_of : (e : End) (o : Option Outstanding) (busy : Out) → OutTied e o busy → o ≡ None → busy ≡ idle
idle_of e None idle t h = refl
idle_of e None (asked i a) t h = absurd t
idle_of e (Some o) idle t h = refl
idle_of e (Some o) (asked i a) t h = let z : ◌≡◌ {A = ℕ} 0 1 = cc in absurd (omega arith)

-- the end is e' after a call, the channel c': its node did the same
pub record Does {C : Type 0} (K : Coding) (behaviour : Behaviour C) (i r : ℕ) (s : Side) (P : Node) (c : C) (x : line.Call) (a : line.Answer) (e' : End) (c' : C) : Type 0 where
  pub said : Option (Response (List ℕ))
  pub busy : Out
  pub tied : Tied e' said busy
  pub named : Named i r s e'
  pub does : Did K behaviour.meaning s P c x a (node e' said busy) c'

module _ {C : Type 0} (behaviour : Behaviour C) (i r : ℕ) (fits_i : i < 2 ^ 64) (fits_r : r < 2 ^ 64) (s : Side) (e : End) (said : Option (Response (List ℕ))) (n : Named i r s e) (c c' : C) (e' : End) where
  abbrev K : Coding
  K = coding i r fits_i fits_r

  -- a call that is refused
  pub stays :
      (busy : Out) → Tied e said busy → (x : line.Call) → e' ≡ e → c' ≡ c →
      Does K behaviour i r s (node e said busy) c x stopped e' c'
  stays busy t x h k =
      subst (λ y. Does K behaviour i r s (node e said busy) c x stopped y c') (sym h)
      (record { said = said; busy = busy; tied = t; named = n; does = refuses (same_state behaviour.meaning c c' k) })

  -- an accepted ask
  accepted :
      (w : Want) (d : Doing) (a : Taking) → Asks e said w d → Allowed K (node e said idle) w → e' ≡ d.end →
      channel.Sends behaviour c c' (other e.side) d.says a →
      Does K behaviour i r s (node e said idle) c (asking w) (did (is_taken a)) e' c'
  accepted w d a h l f z =
      subst (λ y. Does K behaviour i r s (node e said idle) c (asking w) (did (is_taken a)) y c') (sym f)
      (record {
        said = said;
        busy = asked e.next h.request;
        tied = h.tied;
        named = renamed i r s e d.end n h.same;
        does =
            asks e.next h.request l h.does refl
            (sent behaviour c c' (other s) d.says (code i r s (request e.next (wire h.request))) a
            (h.says ∙ request_code i r s e n e.next (wire h.request))
            (subst (λ y. channel.Sends behaviour c c' (other y) d.says a) n.side z));
      })

  -- an ask, refused or not
  pub ask_does :
      (busy : Out) → Tied e said busy → (w : Want) (q : Asked) → ((d : Doing) → q ≡ Ok d → e.outstanding ≡ None) →
      (Tied e said idle → (d : Doing) → q ≡ Ok d → Asks e said w d × Allowed K (node e said idle) w) →
      (x : Result Taking AskRefusal) → effects.Asks behaviour e c q x e' c' →
      Does K behaviour i r s (node e said busy) c (asking w) (answer_of (answers.Asked x)) e' c'
  ask_does busy t w (Err f) quiet h x (u, l, k) =
      subst (λ y. Does K behaviour i r s (node e said busy) c (asking w) (answer_of (answers.Asked y)) e' c') (sym u)
      (stays busy t (asking w) l k)
  ask_does busy t w (Ok d) quiet h x (a, u, l, z) =
      let b : busy ≡ idle = idle_of e e.outstanding busy t.out (quiet d refl) in
      let p = h (subst (λ y. Tied e said y) b t) d refl in
      subst (λ y. Does K behaviour i r s (node e said y) c (asking w) (answer_of (answers.Asked x)) e' c') (sym b)
      (subst (λ y. Does K behaviour i r s (node e said idle) c (asking w) (answer_of (answers.Asked y)) e' c') (sym u)
      (accepted w d a p.0 p.1 l z))

  -- a resend
  pub resend_does :
      (busy : Out) → Tied e said busy → (o : Option Outstanding) → e.outstanding ≡ o → OutTied e o busy →
      (x : Result Taking ResendRefusal) → effects.Resent behaviour e c (resend_asked o) x e' c' →
      Does K behaviour i r s (node e said busy) c resend (answer_of (answers.Resent x)) e' c'
  resend_does busy t None q b x (u, l, k) =
      subst (λ y. Does K behaviour i r s (node e said busy) c resend (answer_of (answers.Resent y)) e' c') (sym u)
      (stays busy t resend l k)
  resend_does idle t (Some o) q b x h = absurd b
  resend_does (asked j p) t (Some o) q b x (a, u, l, z) =
      subst (λ y. Does K behaviour i r s (node e said (asked j p)) c resend (answer_of (answers.Resent y)) e' c') (sym u)
      (subst (λ y. Does K behaviour i r s (node e said (asked j p)) c resend (did (is_taken a)) y c') (sym l)
      (record {
        said = said;
        busy = asked j p;
        tied = t;
        named = n;
        does =
            resends j p refl
            (sent behaviour c c' (other s) o.octets (code i r s (request j (wire p))) a (b.2 ∙ request_code i r s e n j (wire p))
            (subst (λ y. channel.Sends behaviour c c' (other y) o.octets a) n.side z));
      }))

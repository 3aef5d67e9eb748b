-- Runs that can be computed: a channel that is two lists, with a fate for each send.
use Rattle.std.proofs.Common.{◌≡◌, ℕ, Bool, true, false, leb, ◌⊎◌, List, [], ◌∷◌, ◌++◌, length, Some, None, Ok, Err, MatchBool, Option, Result, sym, refl, subst, inl, inr, ⊎_elim, arith}
use Rattle.std.proofs.lemmas.Bool.{leb-true}
use Rattle.nonce.specs.Nonces.{nonce_long}
use Rattle.nonce.specs.declared.side.Side.{Side}
use Rattle.nonce.specs.declared.side.Side.TheVariants.{A, B}
use Rattle.channel.specs.Behaviour.{Sends}
use Rattle.channel.specs.Meaning.{In, Within}
use Rattle.nonce.specs.Sides.{other}
use Rattle.channel.specs.declared.sent.Sent.{Sent}
use Rattle.channel.specs.declared.sent.Sent.TheVariants.{Taken, NotTaken}
use Rattle.calls.specs.declared.answers.Answer.{Answer}
use Rattle.calls.specs.declared.answers.Answer.TheVariants as answer
use Rattle.calls.specs.declared.answers.Delivered.{Delivered}
use Rattle.calls.specs.declared.answers.Delivered.TheVariants.{Done, Again}
use Rattle.calls.specs.declared.moves.Call.{Call}
use Rattle.calls.specs.declared.moves.Call.TheVariants.{Create, Rekey, Delete, Check, Resend, Deliver}
use Rattle.calls.specs.declared.moves.Move.{Move}
use Rattle.calls.specs.declared.refusals.DeliverRefusal.{DeliverRefusal}
use Rattle.calls.specs.declared.refusals.DeliverRefusal.TheVariants.{NonceLength}
use Rattle.calls.specs.declared.refusals.ResendRefusal.{ResendRefusal}
use Rattle.law.specs.Ends.{End}
use Rattle.law.specs.Asks as asks
use Rattle.law.specs.Asks.{Asked}
use Rattle.law.specs.Deliveries.{Heard, refused, again, done, heard}
use Rattle.law.specs.Effects.{Comes, Replies, Acts, Resent}
use Rattle.law.specs.Effects as effects
use Rattle.law.specs.Runs.{World, Called, Step, Run}
use Rattle.law.specs.Samples.{Lanes, lane, with_lane, meaning, Fate, kept, lost, twice, more, gives_first, behaviour, Turn, moves}

in_more : (o d : List ℕ) (ds : List (List ℕ)) (xs : List (List ℕ)) → (In d xs → o ≡ d) → In d (ds ++ xs) → In d ds ⊎ ((Taken ≡ Taken) × (o ≡ d))
in_more o d [] xs f h = inr (refl, f h)
in_more o d (x ∷ ds) xs f h =
    ⊎_elim (λ e. inl (inl e)) (λ r. ⊎_elim (λ y. inl (inr y)) (λ y. inr y) (in_more o d ds xs f r)) h

only_one : (o d : List ℕ) → In d (o ∷ []) → o ≡ d
only_one o d h = ⊎_elim (λ e. e) (λ e. absurd e) h

only_two : (o d : List ℕ) → In d (o ∷ (o ∷ [])) → o ≡ d
only_two o d h = ⊎_elim (λ e. e) (only_one o d) h

came_of : (f : Fate) (o d : List ℕ) (ds : List (List ℕ)) → In d (more f o ds) → In d ds ⊎ ((Taken ≡ Taken) × (o ≡ d))
came_of kept o d ds h = in_more o d ds (o ∷ []) (only_one o d) h
came_of lost o d ds h = inl h
came_of twice o d ds h = in_more o d ds (o ∷ (o ∷ [])) (only_two o d) h

-- a send, with what it promises
pub record Sending (c : Lanes) (to : Side) (o : List ℕ) : Type 0 where
  pub answer : Sent
  pub lanes : Lanes
  pub sends : Sends behaviour c lanes to o answer

pub sends_to : (f : Fate) (c : Lanes) (to : Side) (o : List ℕ) → Within (meaning c) o → Sends behaviour c (with_lane to (more f o (lane to c)) c) to o Taken
sends_to f c A o w = record {
  effect = record { longest = refl; here = λ d h. came_of f o d c.a h; there = λ d h. h; adds = λ p l. absurd (omega (arith, l)) };
  unfit = λ g. absurd (g w);
  exactly = inr (f, refl, refl);
}
sends_to f c B o w = record {
  effect = record { longest = refl; here = λ d h. came_of f o d c.b h; there = λ d h. h; adds = λ p l. absurd (omega (arith, l)) };
  unfit = λ g. absurd (g w);
  exactly = inr (f, refl, refl);
}

pub unsent : (c : Lanes) (to : Side) (o : List ℕ) → Sends behaviour c c to o NotTaken
unsent c to o = record {
  effect = record { longest = refl; here = λ d h. inl h; there = λ d h. h; adds = λ p l. absurd (omega (arith, l)) };
  unfit = λ g. (refl, refl);
  exactly = inl (refl, refl);
}

abbrev send_by : (f : Fate) (c : Lanes) (to : Side) (o : List ℕ) (p q : Bool) → leb 1 (length o) ≡ p → leb (length o) 256 ≡ q → Sending c to o
send_by f c to o true true e g = record { answer = Taken; lanes = with_lane to (more f o (lane to c)) c; sends = sends_to f c to o (leb-true _ _ e, leb-true _ _ g) }
send_by f c to o false q e g = record { answer = NotTaken; lanes = c; sends = unsent c to o }
send_by f c to o true false e g = record { answer = NotTaken; lanes = c; sends = unsent c to o }

abbrev send : (f : Fate) (c : Lanes) (to : Side) (o : List ℕ) → Sending c to o
send f c to o = send_by f c to o (leb 1 (length o)) (leb (length o) 256) refl refl

-- a receive, with what it promises
record Receiving (c : Lanes) (at : Side) : Type 0 where
  came : Option (List ℕ)
  lanes : Lanes
  comes : Comes behaviour c lanes at came

pub fewer_a : (c : Lanes) (d : List ℕ) (ds : List (List ℕ)) → c.a ≡ d ∷ ds → (s : Side) (x : List ℕ) → In x (lane s (with_lane A ds c)) → In x (lane s c)
fewer_a c d ds e A x h = subst (In x) (sym e) (inr h)
fewer_a c d ds e B x h = h

pub fewer_b : (c : Lanes) (d : List ℕ) (ds : List (List ℕ)) → c.b ≡ d ∷ ds → (s : Side) (x : List ℕ) → In x (lane s (with_lane B ds c)) → In x (lane s c)
fewer_b c d ds e A x h = h
fewer_b c d ds e B x h = subst (In x) (sym e) (inr h)

abbrev receive_by : (c : Lanes) (at : Side) (ds : List (List ℕ)) → lane at c ≡ ds → Receiving c at
receive_by c at [] e = record {
  came = None;
  lanes = c;
  comes = record { longest = refl; only = λ s d h. h; could = tt; removes = λ l. absurd (omega (arith, l)); idle = λ l. absurd (omega (arith, l)); exactly = subst (λ ys. gives_first ys c at None c) (sym e) (refl, refl) };
}
receive_by c A (d ∷ ds) e = record {
  came = Some d;
  lanes = with_lane A ds c;
  comes = record {
    longest = refl;
    only = fewer_a c d ds e;
    could = subst (In d) (sym e) (inl refl);
    removes = λ l. absurd (omega (arith, l));
    idle = λ l. absurd (omega (arith, l));
    exactly = subst (λ ys. gives_first ys c A (Some d) (with_lane A ds c)) (sym e) (refl, refl);
  };
}
receive_by c B (d ∷ ds) e = record {
  came = Some d;
  lanes = with_lane B ds c;
  comes = record {
    longest = refl;
    only = fewer_b c d ds e;
    could = subst (In d) (sym e) (inl refl);
    removes = λ l. absurd (omega (arith, l));
    idle = λ l. absurd (omega (arith, l));
    exactly = subst (λ ys. gives_first ys c B (Some d) (with_lane B ds c)) (sym e) (refl, refl);
  };
}

abbrev receive : (c : Lanes) (at : Side) → Receiving c at
receive c at = receive_by c at (lane at c) refl

-- a call of an end, with its effect
pub record Played (e : End) (c : Lanes) (x : Call (List ℕ)) : Type 0 where
  pub answer : Answer
  pub end : End
  pub lanes : Lanes
  pub called : Called behaviour e c x answer end lanes

-- an ask, a resend and a delivery, each with its effect
record Asking (e : End) (c : Lanes) (q : Asked) : Type 0 where
  answer : Result Sent Rattle.calls.specs.declared.refusals.AskRefusal.AskRefusal
  end : End
  lanes : Lanes
  does : effects.Asks behaviour e c q answer end lanes

abbrev play_ask : (f : Fate) (e : End) (c : Lanes) (q : Asked) → Asking e c q
play_ask f e c (Err g) = record { answer = Err g; end = e; lanes = c; does = (refl, refl, refl) }
play_ask f e c (Ok d) =
    let s = send f c (other e.side) d.says in
    record { answer = Ok s.answer; end = d.end; lanes = s.lanes; does = (s.answer, refl, refl, s.sends) }

record Resending (e : End) (c : Lanes) (q : Result (List ℕ) ResendRefusal) : Type 0 where
  answer : Result Sent ResendRefusal
  lanes : Lanes
  does : Resent behaviour e c q answer e lanes

abbrev play_resend : (f : Fate) (e : End) (c : Lanes) (q : Result (List ℕ) ResendRefusal) → Resending e c q
play_resend f e c (Err g) = record { answer = Err g; lanes = c; does = (refl, refl, refl) }
play_resend f e c (Ok o) =
    let s = send f c (other e.side) o in
    record { answer = Ok s.answer; lanes = s.lanes; does = (s.answer, refl, refl, s.sends) }

record Hearing (e : End) (c : Lanes) (h : Heard) : Type 0 where
  answer : Result Delivered DeliverRefusal
  end : End
  lanes : Lanes
  does : Acts behaviour e c h answer end lanes

abbrev play_heard : (f : Fate) (e : End) (c : Lanes) (h : Heard) → Hearing e c h
play_heard f e c (refused g) = record { answer = Err g; end = e; lanes = c; does = (refl, refl, refl) }
play_heard f e c (again o) =
    let s = send f c (other e.side) o in
    record { answer = Ok (Again s.answer); end = e; lanes = s.lanes; does = (s.answer, refl, refl, s.sends) }
play_heard f e c (done d None) = record { answer = Ok (Done Taken); end = d; lanes = c; does = (Taken, refl, refl, (refl, refl)) }
play_heard f e c (done d (Some o)) =
    let s = send f c (other e.side) o in
    record { answer = Ok (Done s.answer); end = d; lanes = s.lanes; does = (s.answer, refl, refl, s.sends) }

record Delivering (e : End) (c : Lanes) (n : List ℕ) (b : Bool) : Type 0 where
  answer : Result Delivered DeliverRefusal
  end : End
  lanes : Lanes
  does : MatchBool b (effects.Takes behaviour e c n answer end lanes) ((answer ≡ Err NonceLength) × (end ≡ e) × (lanes ≡ c))

abbrev play_deliver : (f : Fate) (e : End) (c : Lanes) (n : List ℕ) (b : Bool) → Delivering e c n b
play_deliver f e c n false = record { answer = Err NonceLength; end = e; lanes = c; does = (refl, refl, refl) }
play_deliver f e c n true =
    let r = receive c e.side in
    let h = play_heard f e r.lanes (heard e n r.came) in
    record {
      answer = h.answer;
      end = h.end;
      lanes = h.lanes;
      does = record { came = r.came; between = r.lanes; comes = r.comes; acts = h.does };
    }

abbrev asked_as : (e : End) (c : Lanes) (x : Call (List ℕ)) (q : Asked) → ((a : Answer) (e' : End) (c' : Lanes) → Rattle.law.specs.Runs.AskedAs behaviour e c q a e' c' → Called behaviour e c x a e' c') → Asking e c q → Played e c x
asked_as e c x q f p = record { answer = answer.Asked p.answer; end = p.end; lanes = p.lanes; called = f (answer.Asked p.answer) p.end p.lanes p.does }

abbrev play : (f : Fate) (e : End) (c : Lanes) (x : Call (List ℕ)) → Played e c x
play f e c (Create n) = asked_as e c (Create n) (asks.create_asked e n) (λ a e' c' h. h) (play_ask f e c (asks.create_asked e n))
play f e c (Rekey own n) = asked_as e c (Rekey own n) (asks.rekey_asked e own n) (λ a e' c' h. h) (play_ask f e c (asks.rekey_asked e own n))
play f e c (Delete own) = asked_as e c (Delete own) (asks.delete_asked e own) (λ a e' c' h. h) (play_ask f e c (asks.delete_asked e own))
play f e c Check = asked_as e c Check (asks.check_asked e) (λ a e' c' h. h) (play_ask f e c (asks.check_asked e))
play f e c Resend =
    let p = play_resend f e c (asks.resend_asked e.outstanding) in
    record { answer = answer.Resent p.answer; end = e; lanes = p.lanes; called = p.does }
play f e c (Deliver n) =
    let p = play_deliver f e c n (nonce_long n) in
    record { answer = answer.Heard p.answer; end = p.end; lanes = p.lanes; called = p.does }

record Stepping (v : World Lanes) (m : Move (List ℕ)) : Type 0 where
  answer : Answer
  world : World Lanes
  step : Step behaviour v m answer world

abbrev step_by : (v : World Lanes) (s : Side) (x : Call (List ℕ)) (f : Fate) → Stepping v (record { side = s; call = x })
step_by v A x f =
    let p = play f v.a v.channel x in
    record { answer = p.answer; world = record { a = p.end; b = v.b; channel = p.lanes }; step = record { this = p.called; that = refl } }
step_by v B x f =
    let p = play f v.b v.channel x in
    record { answer = p.answer; world = record { a = v.a; b = p.end; channel = p.lanes }; step = record { this = p.called; that = refl } }

-- a run, with its answers and the world after it
pub record Running (v : World Lanes) (ts : List Turn) : Type 0 where
  pub answers : List Answer
  pub world : World Lanes
  pub run : Run behaviour v (moves ts) answers world

abbrev pub run : (v : World Lanes) (ts : List Turn) → Running v ts
run v [] = record { answers = []; world = v; run = refl }
run v (t ∷ ts) =
    let p = step_by v t.move.side t.move.call t.fate in
    let r = run p.world ts in
    record { answers = p.answer ∷ r.answers; world = r.world; run = (p.world, p.step, r.run) }

-- Every call of an end is one of its node.
use Rattle.std.proofs.Common.{◌≡◌, ℕ, ◌^◌, ◌<◌, Bool, true, false, List, Some, None, Ok, Err, MatchBool, Option, Result, sym, refl, ap, ◌∙◌, subst}
use Rattle.nonce.specs.Nonces.{nonce_long}
use Rattle.nonce.specs.declared.side.Side.{Side}
use Rattle.nonce.specs.Sides.{other}
use Rattle.book.specs.Shelves as shelf
use Rattle.book.specs.declared.row.Row.{Row}
use Rattle.book.specs.declared.row.RowState.{RowState}
use Rattle.book.specs.declared.row.RowState.TheVariants as state
use Rattle.channel.specs.Behaviour.{Behaviour}
use Rattle.calls.specs.declared.answers.Answer.{Answer}
use Rattle.calls.specs.declared.answers.Answer.TheVariants as answer
use Rattle.calls.specs.declared.answers.Delivered.{Delivered}
use Rattle.calls.specs.declared.moves.Call.{Call}
use Rattle.calls.specs.declared.moves.Call.TheVariants as calls
use Rattle.calls.specs.declared.refusals.DeliverRefusal.{DeliverRefusal}
use Rattle.calls.specs.declared.refusals.DeliverRefusal.TheVariants as refusal
use Rattle.wire.specs.declared.message.Response.{Response}
use Rattle.protocol.specs.Node.{Out, idle}
use Rattle.line.specs.Calls.{to_create, to_rekey, to_delete, to_check, Coding, Msg, Good}
use Rattle.line.specs.Codes.{code, decode}
use Rattle.line.specs.Meaning.{Got}
use Rattle.line.specs.Tidy.{Tidy, RowHeld}
use Rattle.line.specs.World.{gets_none, deliver, nothing}
use Rattle.line.proofs.Codes.{coding}
use Rattle.line.proofs.Codes as codes
use Rattle.law.specs.Ends.{End, is_quiet}
use Rattle.law.specs.Asks.{Doing, create_asked, rekey_asked, delete_asked, check_asked}
use Rattle.law.specs.Effects as effects
use Rattle.law.specs.Deliveries.{heard}
use Rattle.law.specs.Runs.{Called}
use Rattle.law.proofs.Asking.{NotOwn, holds, quiet_none, create_asks, rekey_asks, delete_asks, check_asks}
use Rattle.law.proofs.Calling.{call_of, answer_of, idle_of, Does, stays, ask_does, resend_does}
use Rattle.law.proofs.Cells.{cell_by, cell_in, lines_lookup}
use Rattle.law.proofs.Hearing.{datagram_does}
use Rattle.law.proofs.Sending.{Named, got}
use Rattle.law.proofs.Tied.{node, Tied}

-- only a quiet end accepts an ask
module _ (e : End) (d : Doing) where
  create_quiet : (n : List ℕ) → create_asked e n ≡ Ok d → e.outstanding ≡ None
  unfolding create_asked
  create_quiet n h = quiet_none e.outstanding (holds (is_quiet e.outstanding) _ _ d (holds (nonce_long n) _ _ d h).1).0

  rekey_quiet : (own : ℕ) (n : List ℕ) → rekey_asked e own n ≡ Ok d → e.outstanding ≡ None
  unfolding rekey_asked
  rekey_quiet own n h = quiet_none e.outstanding (holds (is_quiet e.outstanding) _ _ d (holds (nonce_long n) _ _ d h).1).0

  delete_quiet : (own : ℕ) → delete_asked e own ≡ Ok d → e.outstanding ≡ None
  unfolding delete_asked
  delete_quiet own h = quiet_none e.outstanding (holds (is_quiet e.outstanding) _ _ d h).0

  check_quiet : check_asked e ≡ Ok d → e.outstanding ≡ None
  unfolding check_asked
  check_quiet h = quiet_none e.outstanding (holds (is_quiet e.outstanding) _ _ d h).0

-- a quiet end has neither an Opening nor a Closing row
held_state : (spi k : ℕ) (r : Row) (s : RowState) → RowHeld spi idle k (Some (cell_by s r)) → NotOwn s
held_state spi k r state.Opening h = h.1
held_state spi k r state.Fresh h = tt
held_state spi k r state.Standing h = tt
held_state spi k r state.Superseded h = tt
held_state spi k r state.Closing h = h.1

quiet_rows :
    (K : Coding) (e : End) (said : Option (Response (List ℕ))) → Tidy K (node e said idle) → (own : ℕ) (r : Row) →
    shelf.lookup e.shelf.rows own ≡ Some r → NotOwn r.state
quiet_rows K e said y own r h =
    held_state e.spi own r r.state
    (subst (RowHeld e.spi idle own) (lines_lookup e.shelf.rows own ∙ ap cell_in h) (y.rows own))

some_same : {A : Type 0} (a b : A) → Some a ≡ Some b → a ≡ b
some_same a b h = cc

module _ {C : Type 0} (behaviour : Behaviour C) (i r : ℕ) (fits_i : i < 2 ^ 64) (fits_r : r < 2 ^ 64) (s : Side) (e : End) (said : Option (Response (List ℕ))) (busy : Out) (n : Named i r s e)
    (t : Tied e said busy) (y : Tidy (coding i r fits_i fits_r) (node e said busy)) (c c' : C) (e' : End)
    (line : (d : List ℕ) → (behaviour.meaning c).may s d → (m : Msg) × (d ≡ code i r (other s) m) × Good (coding i r fits_i fits_r) m) where
  abbrev K : Coding
  K = coding i r fits_i fits_r

  -- what comes can be encoded
  good_came : (d : List ℕ) → (behaviour.meaning c).may s d → (m : Msg) → decode i r (other s) d ≡ Some m → Good K m
  good_came d h m dec =
      let l = line d h in
      let b : decode i r (other s) d ≡ Some l.0 = ap (decode i r (other s)) l.1 ∙ codes.back i r fits_i fits_r (other s) l.0 l.2 in
      subst (Good K) (some_same l.0 m (sym b ∙ dec)) l.2

  abbrev Delivery : List ℕ → Result Delivered DeliverRefusal → Type 0
  Delivery x a = Does K behaviour i r s (node e said busy) c (deliver x) (answer_of (answer.Heard a)) e' c'

  -- nothing came
  none_does :
      (x : List ℕ) (a : Result Delivered DeliverRefusal) (u : C) → Got (behaviour.meaning c) (behaviour.meaning u) s None →
      effects.Acts behaviour e u (heard e x None) a e' c' → Delivery x a
  none_does x a u g (p, q, k) =
      subst (Delivery x) (sym p)
      (subst (λ z. Does K behaviour i r s (node e said busy) c (deliver x) nothing z c') (sym q)
      (record {
        said = said;
        busy = busy;
        tied = t;
        named = n;
        does = gets_none (subst (λ z. Got (behaviour.meaning c) (behaviour.meaning z) s None) (sym k) g);
      }))

  came_does :
      (x : List ℕ) → nonce_long x ≡ true → (a : Result Delivered DeliverRefusal) (u : C) (came : Option (List ℕ)) → effects.Comes behaviour c u s came →
      effects.Acts behaviour e u (heard e x came) a e' c' → Delivery x a
  came_does x long a u None k h = none_does x a u (got behaviour c u s None k) h
  came_does x long a u (Some d) k h =
      datagram_does behaviour i r fits_i fits_r s e said n c u c' e' x long d (got behaviour c u s (Some d) k) a busy t y
      (good_came d k.could) h

  deliver_does :
      (x : List ℕ) (a : Result Delivered DeliverRefusal) (b : Bool) → nonce_long x ≡ b →
      MatchBool b (effects.Takes behaviour e c x a e' c') ((a ≡ Err refusal.NonceLength) × (e' ≡ e) × (c' ≡ c)) → Delivery x a
  deliver_does x a true long h =
      came_does x long a h.between h.came (subst (λ z. effects.Comes behaviour c h.between z h.came) n.side h.comes) h.acts
  deliver_does x a false long (p, q, k) =
      subst (Delivery x) (sym p) (stays behaviour i r fits_i fits_r s e said n c c' e' busy t (deliver x) q k)

  -- the node is tidy as that of a quiet end
  tidy_idle : e.outstanding ≡ None → Tidy K (node e said idle)
  tidy_idle q = subst (λ z. Tidy K (node e said z)) (idle_of e e.outstanding busy t.out q) y

  pub called_does :
      (x : Call (List ℕ)) (a : Answer) → Called behaviour e c x a e' c' →
      Does K behaviour i r s (node e said busy) c (call_of x) (answer_of a) e' c'
  called_does (calls.Create x) (answer.Asked a) h =
      ask_does behaviour i r fits_i fits_r s e said n c c' e' busy t (to_create x) (create_asked e x) (λ d. create_quiet e d x)
      (λ z d q. let p = create_asks e said x d z q in (p.0, (p.1, p.2, p.3))) a h
  called_does (calls.Create x) (answer.Resent a) h = absurd h
  called_does (calls.Create x) (answer.Heard a) h = absurd h
  called_does (calls.Rekey own x) (answer.Asked a) h =
      ask_does behaviour i r fits_i fits_r s e said n c c' e' busy t (to_rekey own x) (rekey_asked e own x) (λ d. rekey_quiet e d own x)
      (λ z d q.
      let p = rekey_asks e said own x d z (quiet_rows K e said (tidy_idle (rekey_quiet e d own x q)) own) q in
      (p.0, (p.1, p.2, p.3)))
      a h
  called_does (calls.Rekey own x) (answer.Resent a) h = absurd h
  called_does (calls.Rekey own x) (answer.Heard a) h = absurd h
  called_does (calls.Delete own) (answer.Asked a) h =
      ask_does behaviour i r fits_i fits_r s e said n c c' e' busy t (to_delete own) (delete_asked e own) (λ d. delete_quiet e d own)
      (λ z d q. delete_asks e said own d z (quiet_rows K e said (tidy_idle (delete_quiet e d own q)) own) q) a h
  called_does (calls.Delete own) (answer.Resent a) h = absurd h
  called_does (calls.Delete own) (answer.Heard a) h = absurd h
  called_does calls.Check (answer.Asked a) h =
      ask_does behaviour i r fits_i fits_r s e said n c c' e' busy t to_check (check_asked e) (check_quiet e) (λ z d q. check_asks e said d z q) a h
  called_does calls.Check (answer.Resent a) h = absurd h
  called_does calls.Check (answer.Heard a) h = absurd h
  called_does calls.Resend (answer.Asked a) h = absurd h
  called_does calls.Resend (answer.Resent a) h =
      resend_does behaviour i r fits_i fits_r s e said n c c' e' busy t e.outstanding refl t.out a h
  called_does calls.Resend (answer.Heard a) h = absurd h
  called_does (calls.Deliver x) (answer.Asked a) h = absurd h
  called_does (calls.Deliver x) (answer.Resent a) h = absurd h
  called_does (calls.Deliver x) (answer.Heard a) h = deliver_does x a (nonce_long x) refl h

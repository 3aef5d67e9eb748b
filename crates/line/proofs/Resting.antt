-- A call of one end over a channel that holds what is sent.
use Rattle.std.proofs.Common.{◌≡◌, ℕ, suc, ◌<◌, Bool, List, Some, None, Option, sym, refl, ◌∙◌, subst, inl, inr, ⊎_elim, arith}
use Rattle.wire.specs.declared.message.Request.{Request}
use Rattle.wire.specs.declared.message.Response.{Response}
use Rattle.protocol.specs.Model.{Nonce, Ask}
use Rattle.protocol.specs.Rows.{calm_lines}
use Rattle.protocol.specs.Node.{Bar, sense, idle, asked, Node, InStep}
use Rattle.nonce.specs.declared.side.Side.{Side}
use Rattle.nonce.specs.Sides.{other}
use Rattle.channel.specs.Meaning.{Meaning}
use Rattle.line.specs.Meaning.{Same, Sent, Got}
use Rattle.line.specs.Calls.{Want, ask, settle, taken_as, wire, heard, answer_wire, Msg, request, response, Coding}
use Rattle.line.specs.World.{Call, asking, resend, deliver, Answer, stopped, Uncounted, Did, refuses, asks, resends, gets_none, ignores, repeats, answers, settles, follows}
use Rattle.line.specs.Shapes.{Sends, Quiets}
use Rattle.line.specs.Rest.{Held, Holding, Short, due, owed, heavy, total, not_resent, effect}
use Rattle.line.proofs.Shapes.{ask_shape, Answered, answer_shape, Settled, settle_shape}
use Rattle.line.proofs.Moves.{due_sent, due_settled}
use Rattle.line.proofs.Waiting.{AllGood, all_good, sends_request, sends_reply, same_held, gets_nothing, gets_one}
use Rattle.line.specs.Line.{Sane, GoodStored}
use Rattle.line.proofs.Sanes.{out_good}
use Rattle.line.proofs.Dues as D

held_as :
    (K : Coding) (wide : ℕ) (s : Side) (m : Meaning) {x x' y y' v v' w w' : Option Msg}
    → x ≡ x'
    → y ≡ y'
    → v ≡ v'
    → w ≡ w'
    → Held K wide s m x y v w
    → Held K wide s m x' y' v' w'
held_as K wide s m {x} {x'} {y} {y'} {v} {v'} {w} {w'} e f g h k =
    subst (λ (o : Option Msg). Held K wide s m x' y' v' o) h
    (subst (λ (o : Option Msg). Held K wide s m x' y' o w) g
    (subst (λ (o : Option Msg). Held K wide s m x' o v w) f (subst (λ (o : Option Msg). Held K wide s m o y v w) e k)))

idle_owed : (P Q : Node) → P.out ≡ idle → owed Q P ≡ None
idle_owed P Q e = grind arith

pub record Rests (K : Coding) (wide : ℕ) (s : Side) (P Q P' : Node) (m m' : Meaning) (x : Call) (r : Answer) : Type 0 where
  pub holding : Holding K wide s P' Q m'
  pub pace : effect s x r m m' (total P Q) (total P' Q)

module _ {C : Type 0} (K : Coding) (wide : ℕ) (short : Short K wide) (meaning : C → Meaning) (s : Side) (P Q : Node) (c : C)
    (p_steps : InStep P Q) (p_sane : Sane K P) (q_sane : Sane K Q) (h : Holding K wide s P Q (meaning c)) where
  due_good : AllGood K (due Q P)
  due_good = all_good K (due Q P) (λ m e. let l = D.due_is P Q m e in rw l.2 (out_good K Q P.exp l.0 q_sane l.1))

  owed_good : AllGood K (owed Q P)
  owed_good = all_good K (owed Q P) (λ m e. let l = D.owed_is P Q m e in rw l.6 ((out_good K P l.0 l.1 p_sane l.2).0, subst (GoodStored K) l.5 q_sane.reply))

  asking_rests : (w : Want) (t : Bool) (P' : Node) (c' : C) (i : ℕ) (a : Ask) → Sane K P' → ask P w ≡ Some P' → P'.out ≡ asked i a
      → Sent (meaning c) (meaning c') (other s) (K.enc s (request i (wire a))) t → Holding K wide s P' Q (meaning c')
  asking_rests w t P' c' i a sn e o k =
      let sh = ask_shape P w P' e in
      let up = due_sent P Q p_steps sh.was in
      let f = sh.for in
      let x : P.next ≡ i = let y = sh.sends.out in cc in
      let z : f ≡ a = let y = sh.sends.out in cc in
      let new : due P' Q ≡ Some (request i (wire a)) = rw (← x, ← z) (D.sends_due P Q P' f sh.sends up p_steps) in
      let h₀ = held_as K wide s (meaning c) (D.sends_was P Q P' f sh.sends up p_steps) refl refl refl h in
      let h₁ = sends_request K wide short s (meaning c) (meaning c') (request i (wire a)) (owed P Q) (due Q P) (owed Q P) t (out_good K P' i a sn o) h₀ k in
      held_as K wide s (meaning c') (sym new) (sym (D.sends_owed P Q P' f sh.sends up p_steps)) (sym (D.sends_theirs P Q P' f sh.sends up p_steps))
      (idle_owed P Q sh.was ∙ sym (D.sends_owing P Q P' f sh.sends up p_steps)) h₁

  -- a request came
  came_request :
      (u : C) (d : List ℕ) (i : ℕ) (q : Request Nonce)
      → Got (meaning c) (meaning u) s (Some d)
      → K.dec (other s) d ≡ Some (request i q)
      → (a : Ask) × (Q.out ≡ asked P.exp a) × (i ≡ P.exp) × Held K wide s (meaning u) (due P Q) (owed P Q) None (owed Q P)
  came_request u d i q g e = ⊎_elim yes no (gets_one K wide short s (meaning c) (meaning u) (due P Q) (owed P Q) (due Q P) (owed Q P) d due_good owed_good h g)
    where
      yes : (m : Msg) × (due Q P ≡ Some m) × (K.dec (other s) d ≡ Some m) × Held K wide s (meaning u) (due P Q) (owed P Q) None (owed Q P)
          → (a : Ask) × (Q.out ≡ asked P.exp a) × (i ≡ P.exp) × Held K wide s (meaning u) (due P Q) (owed P Q) None (owed Q P)
      yes k =
          let l = D.due_is P Q k.0 k.1 in
          let w = k.2 in
          let v = l.2 in
          let x : i ≡ P.exp = cc in
          (l.0, l.1, x, k.3)

      no : (m : Msg) × (owed Q P ≡ Some m) × (K.dec (other s) d ≡ Some m) × Held K wide s (meaning u) (due P Q) (owed P Q) (due Q P) None
          → (a : Ask) × (Q.out ≡ asked P.exp a) × (i ≡ P.exp) × Held K wide s (meaning u) (due P Q) (owed P Q) None (owed Q P)
      no k =
          let l = D.owed_is P Q k.0 k.1 in
          let w = k.2 in
          let v = l.6 in
          absurd (let z : ◌≡◌ {A = ℕ} 0 1 = cc in omega arith)

  -- a response came
  came_response :
      (u : C) (d : List ℕ) (i : ℕ) (r : Response Nonce)
      → Got (meaning c) (meaning u) s (Some d)
      → K.dec (other s) d ≡ Some (response i r)
      → (a : Ask) × (P.out ≡ asked i a) × (Q.exp ≡ suc i) × Held K wide s (meaning u) (due P Q) (owed P Q) (due Q P) None
  came_response u d i r g e = ⊎_elim no yes (gets_one K wide short s (meaning c) (meaning u) (due P Q) (owed P Q) (due Q P) (owed Q P) d due_good owed_good h g)
    where
      no : (m : Msg) × (due Q P ≡ Some m) × (K.dec (other s) d ≡ Some m) × Held K wide s (meaning u) (due P Q) (owed P Q) None (owed Q P)
          → (a : Ask) × (P.out ≡ asked i a) × (Q.exp ≡ suc i) × Held K wide s (meaning u) (due P Q) (owed P Q) (due Q P) None
      no k =
          let l = D.due_is P Q k.0 k.1 in
          let w = k.2 in
          let v = l.2 in
          absurd (let z : ◌≡◌ {A = ℕ} 0 1 = cc in omega arith)

      yes : (m : Msg) × (owed Q P ≡ Some m) × (K.dec (other s) d ≡ Some m) × Held K wide s (meaning u) (due P Q) (owed P Q) (due Q P) None
          → (a : Ask) × (P.out ≡ asked i a) × (Q.exp ≡ suc i) × Held K wide s (meaning u) (due P Q) (owed P Q) (due Q P) None
      yes k =
          let l = D.owed_is P Q k.0 k.1 in
          let w = k.2 in
          let v = l.6 in
          let x : l.0 ≡ i = cc in
          (l.1, rw (← x) l.2, rw (← x) l.3, k.3)

  -- what waits always counts
  counts : (u : C) (d : List ℕ) → Got (meaning c) (meaning u) s (Some d) → Uncounted P (K.dec (other s) d) → ⊥
  counts u d g k = by (K.dec (other s) d) refl k
    where
      none : K.dec (other s) d ≡ None → ⊥
      none e =
          ⊎_elim (λ l. let w = l.2 in let z : ◌≡◌ {A = ℕ} 0 1 = cc in omega arith) (λ l. let w = l.2 in let z : ◌≡◌ {A = ℕ} 0 1 = cc in omega arith)
          (gets_one K wide short s (meaning c) (meaning u) (due P Q) (owed P Q) (due Q P) (owed Q P) d due_good owed_good h g)

      by : (m : Option Msg) → K.dec (other s) d ≡ m → Uncounted P m → ⊥
      by None e k = none e
      by (Some (request i q)) e k = k.0 (came_request u d i q g e).2
      by (Some (response i r)) e k = let l = came_response u d i r g e in let o = l.1 in grind arith

  answering_rests :
      (n : Nonce) (t : Bool) (P' : Node) (c' u : C) (d : List ℕ) (i : ℕ) (q : Request Nonce) (bar : Option Bar) (rp : Response Nonce)
      → Sane K P'
      → Got (meaning c) (meaning u) s (Some d)
      → K.dec (other s) d ≡ Some (request i q)
      → P' ≡ answer_wire P n bar q
      → P'.reply ≡ Some rp
      → Sent (meaning u) (meaning c') (other s) (K.enc s (response i rp)) t
      → Holding K wide s P' Q (meaning c') × (total P' Q < total P Q)
  answering_rests n t P' c' u d i q bar rp sn g e y sy k =
      let l = came_request u d i q g e in
      let a = l.0 in
      let sh : Answered P P' = subst (Answered P) (sym y) (answer_shape P n bar (heard (calm_lines P.rows) q)) in
      let h₀ = held_as K wide s (meaning u) refl (D.replies_was P Q P' a sh.shape l.1) refl refl l.3 in
      let h₁ = sends_reply K wide short s (meaning u) (meaning c') (response i rp) (due P Q) None (owed Q P) t (rw l.2 ((out_good K Q P.exp a q_sane l.1).0, subst (GoodStored K) sy sn.reply)) h₀ k in
      let new : owed P' Q ≡ Some (response i rp) = rw l.2 (D.replies_owed P Q P' a sh.shape l.1 rp sy) in
      let w₀ = D.replies_weight P Q P' a sh.shape l.1 in
      let w₁ = D.replies_other P Q P' a sh.shape l.1 in (
        held_as K wide s (meaning c') (sym (D.replies_due P Q P' a sh.shape l.1)) (sym new) (sym (D.replies_theirs P Q P' a sh.shape l.1))
            (sym (D.replies_owing P Q P' a sh.shape l.1)) h₁,
        omega arith,
      )

  settling_rests :
      (P' : Node) (c' : C) (d : List ℕ) (i : ℕ) (a : Ask) (r : Response Nonce)
      → Got (meaning c) (meaning c') s (Some d)
      → K.dec (other s) d ≡ Some (response i r)
      → P.out ≡ asked i a
      → P' ≡ settle P a (taken_as P.rows (sense r))
      → P'.out ≡ idle
      → Holding K wide s P' Q (meaning c') × (total P' Q < total P Q)
  settling_rests P' c' d i a r g e o y x =
      let sh : Settled P a P' = subst (Settled P a) (sym y) (settle_shape P a (taken_as P.rows (sense r))) in ⊎_elim quiet more sh.shape
    where
      quiet : Quiets P P' → Holding K wide s P' Q (meaning c') × (total P' Q < total P Q)
      quiet k =
          let l = came_response c' d i r g e in
          let up = due_settled P Q i a p_steps o l.2 in
          let w₀ = D.quiets_weight P Q P' k up p_steps in
          let w₁ = D.quiets_other P Q P' k up p_steps in
          let w₂ = D.settled_weight P Q i a o l.2 in (
            held_as K wide s (meaning c') (D.quiets_was P Q P' k up p_steps ∙ sym (D.quiets_due P Q P' k up p_steps)) (sym (D.quiets_owed P Q P' k up p_steps))
                (sym (D.quiets_theirs P Q P' k up p_steps)) (sym (D.quiets_owing P Q P' k up p_steps)) l.3,
            omega arith,
          )

      more : (b : Ask) × Sends P b P' × (heavy (wire a) ≡ 2) × (heavy (wire b) ≡ 0) → Holding K wide s P' Q (meaning c') × (total P' Q < total P Q)
      more k = let w = k.1.out in absurd (let z : ◌≡◌ {A = ℕ} 0 1 = cc in omega arith)

  following_rests :
      (t : Bool) (P' : Node) (c' u : C) (d : List ℕ) (i : ℕ) (a : Ask) (r : Response Nonce) (j : ℕ) (n : Ask)
      → Sane K P'
      → Got (meaning c) (meaning u) s (Some d)
      → K.dec (other s) d ≡ Some (response i r)
      → P.out ≡ asked i a
      → P' ≡ settle P a (taken_as P.rows (sense r))
      → P'.out ≡ asked j n
      → Sent (meaning u) (meaning c') (other s) (K.enc s (request j (wire n))) t
      → Holding K wide s P' Q (meaning c') × (total P' Q < total P Q)
  following_rests t P' c' u d i a r j n sn g e o y x k =
      let sh : Settled P a P' = subst (Settled P a) (sym y) (settle_shape P a (taken_as P.rows (sense r))) in ⊎_elim quiet more sh.shape
    where
      quiet : Quiets P P' → Holding K wide s P' Q (meaning c') × (total P' Q < total P Q)
      quiet q = let w = q.out in absurd (let z : ◌≡◌ {A = ℕ} 0 1 = cc in omega arith)

      more : (b : Ask) × Sends P b P' × (heavy (wire a) ≡ 2) × (heavy (wire b) ≡ 0) → Holding K wide s P' Q (meaning c') × (total P' Q < total P Q)
      more q =
          let f = q.0 in
          let v = q.1 in
          let l = came_response u d i r g e in
          let up = due_settled P Q i a p_steps o l.2 in
          let w = v.out in
          let p : P.next ≡ j = cc in
          let z : f ≡ n = cc in
          let new : due P' Q ≡ Some (request j (wire n)) = rw (← p, ← z) (D.sends_due P Q P' f v up p_steps) in
          let h₀ = held_as K wide s (meaning u) (D.sends_was P Q P' f v up p_steps) refl refl refl l.3 in
          let h₁ = sends_request K wide short s (meaning u) (meaning c') (request j (wire n)) (owed P Q) (due Q P) None t (out_good K P' j n sn x) h₀ k in
          let w₀ = D.sends_weight P Q P' f v up p_steps in
          let w₁ = D.sends_other P Q P' f v up p_steps in
          let w₂ = D.settled_weight P Q i a o l.2 in (
            held_as K wide s (meaning c') (sym new) (sym (D.sends_owed P Q P' f v up p_steps)) (sym (D.sends_theirs P Q P' f v up p_steps))
                (sym (D.sends_owing P Q P' f v up p_steps)) h₁,
            omega (arith, q.2, q.3),
          )

  refused_pace : (x : Call) (c' : C) → Same (meaning c) (meaning c') → effect s x stopped (meaning c) (meaning c') (total P Q) (total P Q)
  refused_pace (asking w) c' k = record { weighs = refl; waiting = k.waiting }
  refused_pace resend c' k = record { weighs = refl; waiting = k.waiting }
  refused_pace (deliver n) c' k = record { weighs = refl; waiting = k.waiting }

  pub rests : {x : Call} {r : Answer} {P' : Node} {c' : C} → Did K meaning s P c x r P' c' → Sane K P' → not_resent x r → Rests K wide s P Q P' (meaning c) (meaning c') x r
  rests {c' = c'} (refuses {x = x} k) sn n =
      record { holding = same_held K wide short s (meaning c) (meaning c') (due P Q) (owed P Q) (due Q P) (owed Q P) h k; pace = refused_pace x c' k }
  rests {c' = c'} (asks {w = w} {t = t} {P' = P'} i a al e o k) sn n = record { holding = asking_rests w t P' c' i a sn e o k; pace = tt }
  rests {c' = c'} (resends i a o k) sn n = cc
  rests {c' = c'} (gets_none k) sn n =
      let g = gets_nothing K wide short s (meaning c) (meaning c') (due P Q) (owed P Q) (due Q P) (owed Q P) h k in
      record {
        holding = same_held K wide short s (meaning c) (meaning c') (due P Q) (owed P Q) (due Q P) (owed Q P) h g.1;
        pace = inr (record { weighs = refl; waiting = g.1.waiting }, g.0);
      }
  rests {c' = c'} (ignores d k w) sn n = absurd (counts c' d k w)
  rests {c' = c'} (repeats u d i q r k e y m z) sn n = absurd (let l = came_request u d i q k e in omega (arith, l.2))
  rests {c' = c'} (answers {n = o} {t = t} {P' = P'} u d i q bar rp k e x fn rm y sy z) sn n =
      let g = answering_rests o t P' c' u d i q bar rp sn k e y sy z in record { holding = g.0; pace = inl g.1 }
  rests {c' = c'} (settles {P' = P'} d i a r k e o y x) sn n =
      let g = settling_rests P' c' d i a r k e o y x in record { holding = g.0; pace = inl g.1 }
  rests {c' = c'} (follows {t = t} {P' = P'} u d i a r j b k e o y x z) sn n =
      let g = following_rests t P' c' u d i a r j b sn k e o y x z in record { holding = g.0; pace = inl g.1 }

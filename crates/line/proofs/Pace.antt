-- Both ends come to rest.
use Rattle.std.proofs.Common.{◌≡◌, ℕ, ◌<◌, ◌≤◌, Bool, true, false, List, [], ◌∷◌, sym, refl, ◌∙◌, subst, subst₂, inl, inr, arith}
use Rattle.protocol.specs.Node.{idle, Node, link_of}
use Rattle.nonce.specs.declared.side.Side.{Side}
use Rattle.nonce.specs.declared.side.Side.TheVariants.{A, B}
use Rattle.channel.specs.Meaning.{Meaning, Sound}
use Rattle.line.specs.Calls.{Coding}
use Rattle.line.specs.World as world
use Rattle.line.specs.World.{Call, asking, resend, deliver, Answer, did, again, stopped, nothing, unused, World, Move, StepOn, Start}
use Rattle.line.specs.Rest.{Holding, Short, total, Tally, delivered, tallied, tally, rounds_since_ask, not_resent, none_resent, Deep, Still, Fell, effect, pace}
use Rattle.line.proofs.Dues.{no_weight, weight_most}
use Rattle.line.proofs.Dues as D
use Rattle.line.proofs.Waiting.{nothing_due}
use Rattle.line.proofs.Resting.{Rests, rests}
use Rattle.line.proofs.Runs.{Alive, step_alive, starts}

abbrev Texts : Type 0
Texts = List (List ℕ)

module _ (m m' : Meaning) (t t' : ℕ) where
  abbrev wa : Texts
  wa = m.waiting A

  abbrev wa' : Texts
  wa' = m'.waiting A

  still : (n : ℕ) (b : Bool) → Still m m' t t' → pace n b t wa → pace n b t' wa'
  still n b k h = subst₂ (λ (x : ℕ) (y : Texts). pace n b x y) (sym k.weighs) (sym (k.waiting A)) h

  on_a : (n : ℕ) (b : Bool) → Fell A m m' t t' → pace n b t wa → pace n true t' wa'
  on_a n false (inl l) (inl e) = absurd (omega arith)
  on_a n false (inl l) (inr e) = inr (inl (omega arith))
  on_a n false (inr k) (inl e) = inl (omega (arith, k.0.weighs))
  on_a n false (inr k) (inr e) = inr (inr (omega (arith, k.0.weighs), k.0.waiting A ∙ k.1))
  on_a n true (inl l) (inl e) = absurd (omega arith)
  on_a n true (inl l) (inr (inl e)) = inr (inl (omega arith))
  on_a n true (inl l) (inr (inr e)) = inr (inl (omega (arith, e.0)))
  on_a n true (inr k) (inl e) = inl (omega (arith, k.0.weighs))
  on_a n true (inr k) (inr (inl e)) = inr (inl (omega (arith, k.0.weighs)))
  on_a n true (inr k) (inr (inr e)) = inr (inr (omega (arith, k.0.weighs, e.0), k.0.waiting A ∙ k.1))

  on_b : (T : Tally) → Fell B m m' t t' → (wa ≡ [] → m.waiting B ≡ [] → t ≡ 0) → pace T.rounds T.half t wa
      → pace (delivered T B).rounds false t' wa'
  on_b T k q h = by T.half refl k h
    where
      by : (b : Bool) → T.half ≡ b → Fell B m m' t t' → pace T.rounds b t wa → pace (delivered T B).rounds false t' wa'
      by false e (inl l) (inl x) = absurd (omega arith)
      by false e (inl l) (inr x) = rw e (inr (omega arith))
      by false e (inr k) (inl x) = inl (omega (arith, k.0.weighs))
      by false e (inr k) (inr x) = rw e (inr (omega (arith, k.0.weighs)))
      by true e (inl l) (inl x) = absurd (omega arith)
      by true e (inl l) (inr (inl x)) = rw e (inr (omega arith))
      by true e (inl l) (inr (inr x)) = rw e (inr (omega (arith, x.0)))
      by true e (inr k) (inl x) = inl (omega (arith, k.0.weighs))
      by true e (inr k) (inr (inl x)) = rw e (inr (omega (arith, k.0.weighs)))
      by true e (inr k) (inr (inr x)) = inl (omega (arith, k.0.weighs, q x.1 k.1))

  arrived : (T : Tally) (s : Side) → Fell s m m' t t' → (wa ≡ [] → m.waiting B ≡ [] → t ≡ 0) → pace T.rounds T.half t wa
      → pace (delivered T s).rounds (delivered T s).half t' wa'
  arrived T A k q h = on_a T.rounds T.half k h
  arrived T B k q h = on_b T k q h

  -- one call, for the count
  pub goes :
      (T : Tally) (s : Side) (x : Call) (r : Answer)
      → effect s x r m m' t t'
      → t' ≤ 8
      → (wa ≡ [] → m.waiting B ≡ [] → t ≡ 0)
      → pace T.rounds T.half t wa
      → pace (tallied T s x r).rounds (tallied T s x r).half t' wa'
  goes T s (asking w) (did b) k l q h = inr (omega arith)
  goes T s (asking w) (again b) k l q h = still T.rounds T.half k h
  goes T s (asking w) stopped k l q h = still T.rounds T.half k h
  goes T s (asking w) nothing k l q h = still T.rounds T.half k h
  goes T s (asking w) unused k l q h = still T.rounds T.half k h
  goes T s resend r k l q h = still T.rounds T.half k h
  goes T s (deliver n) (did b) k l q h = arrived T s k q h
  goes T s (deliver n) (again b) k l q h = arrived T s k q h
  goes T s (deliver n) stopped k l q h = still T.rounds T.half k h
  goes T s (deliver n) nothing k l q h = arrived T s k q h
  goes T s (deliver n) unused k l q h = arrived T s k q h

-- some moments have led here
pub record Going {C : Type 0} (K : Coding) (meaning : C → Meaning) (w : World C) : Type 0 where
  pub us : List (World C)
  pub alive : Alive K meaning (λ s k. Unit {0}) us w

-- the whole
pub record Easing {C : Type 0} (K : Coding) (wide : ℕ) (meaning : C → Meaning) (T : Tally) (w : World C) : Type 0 where
  pub going : Going K meaning w
  pub holding : Holding K wide A w.a w.b (meaning w.ch)
  pub paced : pace T.rounds T.half (total w.a w.b) ((meaning w.ch).waiting A)

total_swap : (P Q : Node) → total P Q ≡ total Q P
total_swap P Q = omega arith

total_most : (P Q : Node) → total P Q ≤ 8
total_most P Q = let x = weight_most (link_of P Q) in let y = weight_most (link_of Q P) in omega arith

swap_held : (K : Coding) (wide : ℕ) (P Q : Node) (m : Meaning) → Holding K wide A P Q m → Holding K wide B Q P m
swap_held K wide P Q m h = record { deep = h.deep; long = h.long; there = h.here; here = h.there }

swap_back : (K : Coding) (wide : ℕ) (P Q : Node) (m : Meaning) → Holding K wide B Q P m → Holding K wide A P Q m
swap_back K wide P Q m h = record { deep = h.deep; long = h.long; there = h.here; here = h.there }

module _ {C : Type 0} (K : Coding) (wide : ℕ) (short : Short K wide) (meaning : C → Meaning) where
  -- where nothing waits nothing is outstanding
  all_still :
      (w : World C)
      → Going K meaning w
      → Holding K wide A w.a w.b (meaning w.ch)
      → (meaning w.ch).waiting A ≡ []
      → (meaning w.ch).waiting B ≡ []
      → total w.a w.b ≡ 0
  all_still w l h e f =
      let m = meaning w.ch in
      let x = nothing_due K wide short A m m _ _ _ _ h e in
      let y = nothing_due K wide short B m m _ _ _ _ (swap_held K wide w.a w.b m h) f in
      let p = no_weight w.a w.b l.alive.between.p_steps y.0 x.1 in
      let q = no_weight w.b w.a l.alive.between.q_steps x.0 y.1 in
      omega arith

  step_eases : (T : Tally) (v : World C) (s : Side) (x : Call) (r : Answer) (w : World C) → StepOn K meaning s v x r w → not_resent x r
      → Easing K wide meaning T v → Easing K wide meaning (tallied T s x r) w
  step_eases T v A x r w h n i =
      let m = meaning v.ch in
      let m' = meaning w.ch in
      let new = step_alive K meaning (λ s k. Unit {0}) i.going.us v A x r w h (λ k e. tt) i.going.alive in
      let k : Rests K wide A v.a v.b w.a m m' x r =
      rests K wide short meaning A v.a v.b v.ch i.going.alive.between.p_steps i.going.alive.between.p_sane i.going.alive.between.q_sane i.holding h.this new.between.p_sane n in
      record {
        going = record { us = w ∷ i.going.us; alive = new };
        holding = rw h.that k.holding;
        paced =
            rw h.that
            (goes m m' (total v.a v.b) (total w.a v.b) T A x r k.pace (total_most w.a v.b) (all_still v i.going i.holding) i.paced);
      }
  step_eases T v B x r w h n i =
      let m = meaning v.ch in
      let m' = meaning w.ch in
      let new = step_alive K meaning (λ s k. Unit {0}) i.going.us v B x r w h (λ k e. tt) i.going.alive in
      let k : Rests K wide B v.b v.a w.b m m' x r =
      rests K wide short meaning B v.b v.a v.ch i.going.alive.between.q_steps i.going.alive.between.q_sane i.going.alive.between.p_sane (swap_held K wide v.a v.b m i.holding) h.this new.between.q_sane n in
      let e : effect B x r m m' (total v.a v.b) (total v.a w.b) =
      subst₂ (λ (a b : ℕ). effect B x r m m' a b) (total_swap v.b v.a) (total_swap w.b v.a) k.pace in
      record {
        going = record { us = w ∷ i.going.us; alive = new };
        holding = rw h.that (swap_back K wide v.a w.b m' k.holding);
        paced =
            rw h.that
            (goes m m' (total v.a v.b) (total v.a w.b) T B x r e (total_most v.a w.b) (all_still v i.going i.holding) i.paced);
      }

  run_eases : (T : Tally) (v : World C) (xs : List Move) (rs : List Answer) (w : World C) → world.Run K meaning v xs rs w → none_resent xs rs
      → Easing K wide meaning T v → Easing K wide meaning (tally T xs rs) w
  run_eases T v [] [] w h n i = subst (λ (x : World C). Easing K wide meaning T x) h i
  run_eases T v [] (r ∷ rs) w h n i = elim h [ ]
  run_eases T v (x ∷ xs) [] w h n i = elim h [ ]
  run_eases T v (x ∷ xs) (r ∷ rs) w h n i =
      run_eases (tallied T x.side x.call r) h.0 xs rs w h.2 n.1 (step_eases T v x.side x.call r h.0 h.1 n.0 i)

  none_in : (m : Meaning) (e : Side) → ((d : List ℕ) → m.may e d → ⊥) → 0 < m.depth → Sound m → m.waiting e ≡ []
  none_in m e none l s = by (m.waiting e) refl
    where
      by : (ws : Texts) → m.waiting e ≡ ws → m.waiting e ≡ []
      by [] q = q
      by (x ∷ ws) q = absurd (none x (s.comes e x l (rw q (inl refl))))

  -- once eight rounds have followed the last ask that was taken, neither end is busy
  pub comes_to_rest :
      (v : World C) (xs : List Move) (rs : List Answer) (w : World C)
      → world.Run K meaning v xs rs w
      → Start K meaning v
      → Sound (meaning v.ch)
      → Deep wide (meaning v.ch)
      → none_resent xs rs
      → 8 ≤ rounds_since_ask xs rs
      → (w.a.out ≡ idle) × (w.b.out ≡ idle)
  comes_to_rest v xs rs w h s sound deep n l =
      let m = meaning v.ch in
      let ea = none_in m A (s.clean A) (omega (arith, deep.deep)) sound in
      let eb = none_in m B (s.clean B) (omega (arith, deep.deep)) sound in
      let hold : Holding K wide A v.a v.b m =
      rw (s.a_made, s.b_made) (record { deep = deep.deep; long = deep.long; there = eb; here = ea }) in
      let zero : total v.a v.b ≡ 0 = rw (s.a_made, s.b_made) in
      let start : Easing K wide meaning (record { rounds = 0; half = false }) v = record { going = record { us = v ∷ []; alive = starts K meaning (λ s k. Unit {0}) v s }; holding = hold; paced = inl zero } in
      let i = run_eases (record { rounds = 0; half = false }) v xs rs w h n start in
      let t : total w.a w.b ≡ 0 = done (tally (record { rounds = 0; half = false }) xs rs) w l i.paced in
      (D.rests w.a w.b (omega arith), D.rests w.b w.a (omega arith))
    where
      done : (T : Tally) (w : World C) → 8 ≤ T.rounds → pace T.rounds T.half (total w.a w.b) ((meaning w.ch).waiting A) → total w.a w.b ≡ 0
      done T w l h = by T.half h
        where
          by : (b : Bool) → pace T.rounds b (total w.a w.b) ((meaning w.ch).waiting A) → total w.a w.b ≡ 0
          by false (inl e) = e
          by false (inr e) = omega arith
          by true (inl e) = e
          by true (inr (inl e)) = absurd (omega arith)
          by true (inr (inr e)) = omega (arith, e.0)

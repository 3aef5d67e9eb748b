-- What holds at every moment of a run of calls.
use Rattle.std.proofs.Common.{◌≡◌, ℕ, false, ◌⊎◌, List, [], ◌∷◌, Some, sym, refl, ap, subst, subst₂, inl, inr, ⊎_elim, arith}
use Rattle.protocol.specs.Model.{quiet, Sa, St, live, given_up, End}
use Rattle.protocol.specs.Invariant.{Known}
use Rattle.protocol.specs.Law.{State, swapped, begin}
use Rattle.protocol.specs.Law as law
use Rattle.protocol.specs.Rows.{lookup}
use Rattle.protocol.specs.Node.{idle, Node, link_of, Ghost, end_of}
use Rattle.protocol.proofs.Kept.{run_keeps, books_agree}
use Rattle.nonce.specs.declared.side.Side.{Side}
use Rattle.nonce.specs.declared.side.Side.TheVariants.{A, B}
use Rattle.channel.specs.Meaning.{Meaning}
use Rattle.line.specs.Calls.{Coding}
use Rattle.line.specs.World as world
use Rattle.line.specs.World.{Call, Answer, World, Move, StepOn, Start}
use Rattle.line.specs.Ghosts.{state, Has, GivesUp, Learnt, blank}
use Rattle.line.specs.History.{trail, GivenUpBy}
use Rattle.line.specs.Line.{Between}
use Rattle.line.specs.Laws.{Mirrors}
use Rattle.line.proofs.Fit.{run_fits}
use Rattle.line.proofs.Moves.{Moved, keeps}

-- the model has come to this state
pub record Lived (v : State) : Type 0 where
  pub key_a : ℕ
  pub key_b : ℕ
  pub past : List State
  pub run : law.Run (begin key_a key_b) past v

-- one of them is such
abbrev pub Among : {W : Type 0} → (W → Type 0) → List W → Type 0
Among F [] = ⊥
Among F (u ∷ us) = F u ⊎ Among F us

-- what is known of an end is what its books had at the moments us, and what it was asked
pub record Told {W : Type 0} (node : W → Node) (us : List W) (γ : Ghost) (asked_for : ℕ → Type 0) : Type 0 where
  pub born : (k : ℕ) (s : Sa) → γ.born_here k ≡ Some s → Among (λ (u : W). Has (node u) k s) us
  pub kept : (k : ℕ) (s : Sa) → Among (λ (u : W). Has (node u) k s) us → γ.born_here k ≡ Some s
  pub gave : (k : ℕ) → γ.given k ≡ given_up → asked_for k

-- no ghost is part of the world: there are some
pub record Alive {C : Type 0} (K : Coding) (meaning : C → Meaning) (asked_for : Side → ℕ → Type 0) (us : List (World C)) (w : World C) : Type 0 where
  pub between : Between K A w.a w.b ((meaning w.ch).may A) ((meaning w.ch).may B)
  pub ghost_a : Ghost
  pub ghost_b : Ghost
  pub lived : Lived (state ghost_a ghost_b w.a w.b)
  pub told_a : Told (λ (u : World C). u.a) us ghost_a (asked_for A)
  pub told_b : Told (λ (u : World C). u.b) us ghost_b (asked_for B)

goes_on : (v w : State) → Lived v → Moved v w → Lived w
goes_on v w l m = ⊎_elim (λ e. subst Lived e l) (λ x. record { key_a = l.key_a; key_b = l.key_b; past = v ∷ l.past; run = law.then l.run x }) m

swap_moved : (α β β' : Ghost) (P Q Q' : Node) → Moved (state β α Q P) (state β' α Q' P) → Moved (state α β P Q) (state α β' P Q')
swap_moved α β β' P Q Q' m = ⊎_elim (λ e. inl (ap (λ (x : State). record { a = x.b; b = x.a }) e)) (λ x. inr (swapped x)) m

swap_ab : (K : Coding) (P Q : Node) (p q : List ℕ → Type 0) → Between K A P Q p q → Between K B Q P q p
swap_ab K P Q p q b = record { p_steps = b.q_steps; q_steps = b.p_steps; p_sane = b.q_sane; q_sane = b.p_sane; p_rows = b.q_rows; q_rows = b.p_rows; from_p = b.from_q; from_q = b.from_p }

swap_ba : (K : Coding) (P Q : Node) (p q : List ℕ → Type 0) → Between K B Q P q p → Between K A P Q p q
swap_ba K P Q p q b = record { p_steps = b.q_steps; q_steps = b.p_steps; p_sane = b.q_sane; q_sane = b.p_sane; p_rows = b.q_rows; q_rows = b.p_rows; from_p = b.from_q; from_q = b.from_p }

-- a row that the peer began is of an SA that is known
known_row : (P Q : End) (k : ℕ) (t : St) (s : Sa) → Known P Q k → P.book k ≡ Some (live t s) → s.mine ≡ false → P.born_here k ≡ Some s
known_row P Q k t s h e m = grind arith

has_known : (α β : Ghost) (P Q : Node) (k : ℕ) (s : Sa) → ((k : ℕ) → Known (end_of α P Q) (end_of β Q P) k) → Has P k s → α.born_here k ≡ Some s
has_known α β P Q k s h x = known_row (end_of α P Q) (end_of β Q P) k x.st s (h k) x.row x.theirs

-- a moment more
tells :
    {W : Type 0} (node : W → Node) (us : List W) (w : W) (γ γ' : Ghost) (asked_for named : ℕ → Type 0)
    → Told node us γ asked_for
    → Learnt named γ γ' (node w)
    → ((k : ℕ) → named k → asked_for k)
    → ((k : ℕ) (s : Sa) → Has (node w) k s → γ'.born_here k ≡ Some s)
    → Told node (w ∷ us) γ' asked_for
tells node us w γ γ' asked_for named t l n h =
    record {
      born = λ k s e. ⊎_elim (λ x. inr (t.born k s x)) (λ x. inl x) (l.only k s e);
      kept = λ k s e. ⊎_elim (λ x. h k s x) (λ x. l.keeps k s (t.kept k s x)) e;
      gave = λ k e. ⊎_elim (λ x. t.gave k x) (λ x. n k x) (l.gave k e);
    }

unchanged : (γ : Ghost) (P : Node) → Learnt (λ _. ⊥) γ γ P
unchanged γ P = record { keeps = λ k s e. e; only = λ k s e. inl e; gave = λ k e. inl e }

module _ {C : Type 0} (K : Coding) (meaning : C → Meaning) (asked_for : Side → ℕ → Type 0) where
  pub step_alive : (us : List (World C)) (v : World C) (s : Side) (x : Call) (r : Answer) (w : World C) → StepOn K meaning s v x r w
      → ((k : ℕ) → GivesUp x r k → asked_for s k) → Alive K meaning asked_for us v → Alive K meaning asked_for (w ∷ us) w
  step_alive us v A x r w h n l =
      let i = run_keeps l.lived.run in
      let f = run_fits l.lived.run in
      let k = keeps K meaning A v.a v.b v.ch l.between l.ghost_a l.ghost_b i f.0 f.1 h.this in
      let new : Lived (state k.ghost l.ghost_b w.a w.b) =
      subst (λ (N : Node). Lived (state k.ghost l.ghost_b w.a N)) (sym h.that) (goes_on _ _ l.lived k.moved) in
      let j = run_keeps new.run in
      record {
        between = subst (λ (N : Node). Between K A w.a N ((meaning w.ch).may A) ((meaning w.ch).may B)) (sym h.that) k.between;
        ghost_a = k.ghost;
        ghost_b = l.ghost_b;
        lived = new;
        told_a = tells (λ (u : World C). u.a) us w l.ghost_a k.ghost (asked_for A) (GivesUp x r) l.told_a k.learnt n (λ y z. has_known k.ghost l.ghost_b w.a w.b y z j.here.known);
        told_b =
            tells (λ (u : World C). u.b) us w l.ghost_b l.ghost_b (asked_for B) (λ _. ⊥) l.told_b (unchanged l.ghost_b w.b) (λ k e. absurd e)
            (λ y z. has_known l.ghost_b k.ghost w.b w.a y z j.there.known);
      }
  step_alive us v B x r w h n l =
      let i = run_keeps l.lived.run in
      let f = run_fits l.lived.run in
      let k = keeps K meaning B v.b v.a v.ch (swap_ab K v.a v.b _ _ l.between) l.ghost_b l.ghost_a (record { here = i.there; there = i.here }) f.1 f.0 h.this in
      let new : Lived (state l.ghost_a k.ghost w.a w.b) =
      subst (λ (N : Node). Lived (state l.ghost_a k.ghost N w.b)) (sym h.that)
      (goes_on _ _ l.lived (swap_moved l.ghost_a l.ghost_b k.ghost v.a v.b w.b k.moved)) in
      let j = run_keeps new.run in
      record {
        between =
            subst (λ (N : Node). Between K A N w.b ((meaning w.ch).may A) ((meaning w.ch).may B)) (sym h.that)
            (swap_ba K v.a w.b _ _ k.between);
        ghost_a = l.ghost_a;
        ghost_b = k.ghost;
        lived = new;
        told_a =
            tells (λ (u : World C). u.a) us w l.ghost_a l.ghost_a (asked_for A) (λ _. ⊥) l.told_a (unchanged l.ghost_a w.a) (λ k e. absurd e)
            (λ y z. has_known l.ghost_a k.ghost w.a w.b y z j.here.known);
        told_b = tells (λ (u : World C). u.b) us w l.ghost_b k.ghost (asked_for B) (GivesUp x r) l.told_b k.learnt n (λ y z. has_known k.ghost l.ghost_a w.b w.a y z j.there.known);
      }

  pub run_alive : (us : List (World C)) (v : World C) (xs : List Move) (rs : List Answer) (w : World C) (h : world.Run K meaning v xs rs w)
      → ((s : Side) (k : ℕ) → GivenUpBy xs rs s k → asked_for s k) → Alive K meaning asked_for us v → Alive K meaning asked_for (trail K meaning us v xs rs w h) w
  run_alive us v [] [] w h n l = subst (λ (x : World C). Alive K meaning asked_for us x) h l
  run_alive us v [] (r ∷ rs) w h n l = elim h [ ]
  run_alive us v (x ∷ xs) [] w h n l = elim h [ ]
  run_alive us v (x ∷ xs) (r ∷ rs) w h n l =
      run_alive (h.0 ∷ us) h.0 xs rs w h.2 (λ s k e. n s k (inr e))
      (step_alive us v x.side x.call r h.0 h.1 (λ k e. n x.side k (inl (refl, e))) l)

  empty_has : (w : Rattle.line.specs.World.Move → Type 0) (N : Node) (k : ℕ) (s : Sa) → N.rows ≡ [] → Has N k s → ⊥
  empty_has w N k s e h = let r = h.row in let z : lookup [] k ≡ Some (live h.st s) = rw e at r in let y : ◌≡◌ {A = ℕ} 0 1 = cc in omega arith

  fresh_told : (node : World C → Node) (v : World C) (acc : ℕ → Type 0) → (node v).rows ≡ [] → Told node (v ∷ []) blank acc
  fresh_told node v acc e =
      record {
        born = λ k s e. absurd (let z : ◌≡◌ {A = ℕ} 0 1 = cc in omega arith);
        kept = λ k s h. absurd (⊎_elim (λ x. empty_has (λ _. ⊥) (node v) k s e x) (λ x. x) h);
        gave = λ k e. absurd (let z : ◌≡◌ {A = ℕ} 0 1 = cc in omega arith);
      }

  pub starts : (v : World C) → Start K meaning v → Alive K meaning asked_for (v ∷ []) v
  starts v h =
      record {
        between =
            subst₂ (λ (M N : Node). Between K A M N ((meaning v.ch).may A) ((meaning v.ch).may B)) (sym h.a_made) (sym h.b_made)
            (record { p_steps = refl; q_steps = refl; p_sane = record { spi = h.room_a; least = h.least_a; next = h.within_a; out = tt; reply = tt; made_high = tt }; q_sane = record { spi = h.room_b; least = h.least_b; next = h.within_b; out = tt; reply = tt; made_high = tt }; p_rows = tt; q_rows = tt; from_p = λ d m. absurd (h.clean B d m); from_q = λ d m. absurd (h.clean A d m) });
        ghost_a = blank;
        ghost_b = blank;
        lived =
            subst₂ (λ (M N : Node). Lived (state blank blank M N)) (sym h.a_made) (sym h.b_made) (record { key_a = h.spi_a; key_b = h.spi_b; past = []; run = law.start });
        told_a = fresh_told (λ (u : World C). u.a) v (asked_for A) (ap (λ (N : Node). N.rows) h.a_made);
        told_b = fresh_told (λ (u : World C). u.b) v (asked_for B) (ap (λ (N : Node). N.rows) h.b_made);
      }

pub quiet_link : (P Q : Node) → P.out ≡ idle → link_of P Q ≡ quiet
quiet_link P Q e = grind arith

module _ {C : Type 0} (K : Coding) (meaning : C → Meaning) where
  pub mirrors : (v : World C) (xs : List Move) (rs : List Answer) (w : World C) → world.Run K meaning v xs rs w → Start K meaning v → Mirrors w
  mirrors v xs rs w h s =
      let l = run_alive K meaning (GivenUpBy xs rs) (v ∷ []) v xs rs w h (λ s k e. e) (starts K meaning (GivenUpBy xs rs) v s) in
      let agree = λ (p : w.a.out ≡ idle) (q : w.b.out ≡ idle).
      books_agree l.lived.key_a l.lived.key_b l.lived.past (state l.ghost_a l.ghost_b w.a w.b) l.lived.run (quiet_link w.a w.b p) (quiet_link w.b w.a q) in
      record { a_in_b = λ p q. (agree p q).a_in_b; b_in_a = λ p q. (agree p q).b_in_a }

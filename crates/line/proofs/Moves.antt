-- A call of one end keeps the line, and is a step of the model or none.
use Rattle.std.proofs.Common.{◌≡◌, ℕ, suc, ◌<◌, Bool, true, false, ◌⊎◌, List, Some, None, Option, sym, refl, ap, ◌∙◌, subst, inl, inr, ⊎_elim, arith}
use Rattle.wire.specs.declared.message.Request.{Request}
use Rattle.wire.specs.declared.message.Response.{Response}
use Rattle.protocol.specs.Model.{Nonce, Ask, sent, End, Asks, Acts, Settles, with_book, calm, put, Sa, live, fresh}
use Rattle.protocol.specs.Invariant.{Inv, Made}
use Rattle.protocol.specs.Law.{State, Step, swapped}
use Rattle.protocol.specs.Law as law
use Rattle.protocol.specs.Rows.{ordered, lookup}
use Rattle.protocol.specs.Node.{Bar, sense, stored, Out, idle, asked, Node, link_by, link_of, Ghost, end_of, InStep, answer}
use Rattle.protocol.proofs.Nodes.{answers_as, bearing}
use Rattle.nonce.specs.declared.side.Side.{Side}
use Rattle.nonce.specs.declared.side.Side.TheVariants.{A, B}
use Rattle.nonce.specs.Sides.{other}
use Rattle.channel.specs.Meaning.{Meaning}
use Rattle.line.specs.Meaning.{Sent, Got}
use Rattle.line.specs.Calls.{Want, names, ask, settle, taken_as, wire, answer_wire, Msg, request, response, GoodReply, Coding, Good, Allowed}
use Rattle.line.specs.World.{Call, Answer, Did, refuses, asks, resends, gets_none, ignores, repeats, answers, settles, follows}
use Rattle.line.specs.Ghosts.{state, GivesUp, Learnt}
use Rattle.line.specs.Line.{AsksNow, OnWay, Sane, GoodStored, Between, fits}
use Rattle.line.specs.Shapes.{Sends, Quiets, Replies}
use Rattle.line.specs.Rest.{heavy}
use Rattle.line.proofs.Ends.{asks_as, settles_as, answered_link}
use Rattle.line.proofs.Taken.{taken_whole}
use Rattle.line.proofs.Sanes.{ask_sane, answer_sane, settle_sane, settles_below, out_good}
use Rattle.line.proofs.Heard.{as_asked}
use Rattle.line.proofs.Shapes.{ask_shape, Answered, answer_shape, Settled, settle_shape}
use Rattle.line.proofs.Frames.{sends_out, sends_in, sends_new, sends_steps, sends_back, quiets_out, quiets_in, quiets_steps, quiets_back, replies_out, replies_in, replies_new, replies_steps, replies_back}

-- nothing new to the sender
pub sent_back : (s : Side) (m n : Meaning) (d : List ℕ) (t : Bool) → Sent m n (other s) d t → (x : List ℕ) → n.may s x → m.may s x
sent_back A m n d t h = h.there
sent_back B m n d t h = h.there

module _ (K : Coding) (s : Side) (P Q : Node) (p q p' q' : List ℕ → Type 0) where
  -- less may come
  pub narrow : Between K s P Q p q → ((x : List ℕ) → p' x → p x) → ((x : List ℕ) → q' x → q x) → Between K s P Q p' q'
  narrow b f g =
      record {
        p_steps = b.p_steps;
        q_steps = b.q_steps;
        p_sane = b.p_sane;
        q_sane = b.q_sane;
        p_rows = b.p_rows;
        q_rows = b.q_rows;
        from_p = λ d h. b.from_p d (g d h);
        from_q = λ d h. b.from_q d (f d h);
      }

  -- one more message may come
  pub widen :
      (m : Msg) (t : Bool)
      → Between K s P Q p q
      → ((x : List ℕ) → p' x → p x)
      → ((x : List ℕ) → q' x → q x ⊎ ((t ≡ true) × (K.enc s m ≡ x)))
      → OnWay P Q m
      → Good K m
      → Between K s P Q p' q'
  widen m t b f g o y =
      record {
        p_steps = b.p_steps;
        q_steps = b.q_steps;
        p_sane = b.p_sane;
        q_sane = b.q_sane;
        p_rows = b.p_rows;
        q_rows = b.q_rows;
        from_p = λ d h. ⊎_elim (λ k. b.from_p d k) (λ e. (m, sym e.1, o, y)) (g d h);
        from_q = λ d h. b.from_q d (f d h);
      }

-- the end P has changed
module _ (K : Coding) (s : Side) (P Q P' : Node) (p q : List ℕ → Type 0) (b : Between K s P Q p q) where
  pub changed :
      InStep P' Q
      → InStep Q P'
      → Sane K P'
      → ordered P'.rows
      → ((m : Msg) → OnWay P Q m → OnWay P' Q m)
      → ((m : Msg) → OnWay Q P m → OnWay Q P' m)
      → Between K s P' Q p q
  changed i j y o f g =
      record {
        p_steps = i;
        q_steps = j;
        p_sane = y;
        q_sane = b.q_sane;
        p_rows = o;
        q_rows = b.q_rows;
        from_p = λ d h. let w = b.from_p d h in (w.0, w.1, f w.0 w.2, w.3);
        from_q = λ d h. let w = b.from_q d h in (w.0, w.1, g w.0 w.2, w.3);
      }

  pub by_sends : (a : Ask) → Sends P a P' → P.next ≡ Q.exp → Sane K P' → ordered P'.rows → Between K s P' Q p q
  by_sends a h due y o =
      changed (sends_steps P Q P' a h due) (sends_back P Q P' a h due b.q_steps) y o (sends_out P Q P' a h due) (sends_in P Q P' a h due)

  pub by_quiets : Quiets P P' → P.next ≡ Q.exp → Sane K P' → ordered P'.rows → Between K s P' Q p q
  by_quiets h due y o =
      changed (quiets_steps P Q P' h due) (quiets_back P Q P' h due b.q_steps) y o (quiets_out P Q P' h due) (quiets_in P Q P' h due)

  pub by_replies : (a : Ask) → Replies P P' → Q.out ≡ asked P.exp a → Sane K P' → ordered P'.rows → Between K s P' Q p q
  by_replies a h out y o =
      changed (replies_steps P Q P' a h out b.q_steps b.p_steps) (replies_back P Q P' a h out b.q_steps) y o
      (replies_out P Q P' a h out b.q_steps) (replies_in P Q P' a h out b.q_steps)

-- as the model has it: one step, or none
abbrev pub Moved : State → State → Type 0
Moved v w = (v ≡ w) ⊎ Step v w

-- what came to P is a message of Q
module _ (K : Coding) (s : Side) (P Q : Node) (p q : List ℕ → Type 0) (b : Between K s P Q p q) where
  pub came : (d : List ℕ) (m : Msg) → p d → K.dec (other s) d ≡ Some m → OnWay Q P m
  came d m h e =
      let w = b.from_q d h in
      let f : K.dec (other s) d ≡ Some w.0 = ap (K.dec (other s)) w.1 ∙ K.back (other s) w.0 w.3 in
      let g : w.0 ≡ m = cc in
      subst (OnWay Q P) g w.2

-- the request that P expects is the one that Q has outstanding
pub expected : (P Q : Node) (i : ℕ) (w : Request Nonce) → OnWay Q P (request i w) → i ≡ P.exp → (a : Ask) × (Q.out ≡ asked P.exp a) × (w ≡ wire a)
expected P Q i w h e = by Q.out refl (h.1 e)
  where
    by : (o : Out) → Q.out ≡ o → AsksNow o i w → (a : Ask) × (Q.out ≡ asked P.exp a) × (w ≡ wire a)
    by idle u k = elim k [ ]
    by (asked j a) u k = (a, u ∙ ap (λ x. asked x a) (k.0 ∙ e), k.1)

-- the response to the outstanding request is the reply that Q has stored
pub replied : (P Q : Node) (i : ℕ) (a : Ask) (r : Response Nonce) → OnWay Q P (response i r) → P.out ≡ asked i a → (Q.exp ≡ suc i) × (Q.reply ≡ Some r)
replied P Q i a r h u = grind arith

pub due_sent : (P Q : Node) → InStep P Q → P.out ≡ idle → P.next ≡ Q.exp
due_sent P Q h u = grind arith

pub due_settled : (P Q : Node) (i : ℕ) (a : Ask) → InStep P Q → P.out ≡ asked i a → Q.exp ≡ suc i → P.next ≡ Q.exp
due_settled P Q i a h u e = grind arith

pub sent_link : (P Q : Node) (a : Ask) → Q.out ≡ asked P.exp a → link_of Q P ≡ sent a
sent_link P Q a u = grind arith

pub still_out : (P Q : Node) (i : ℕ) (a : Ask) → InStep P Q → P.out ≡ asked i a → OnWay P Q (request i (wire a))
still_out P Q i a h u = grind arith

-- the stored reply, sent again
pub said_again : (P Q : Node) (i : ℕ) (w : Request Nonce) (r : Response Nonce) → InStep Q P → OnWay Q P (request i w) → suc i ≡ P.exp → P.reply ≡ Some r → OnWay P Q (response i r)
said_again P Q i w r h k e m = grind arith

reply_good : (K : Coding) (P : Node) (r : Response Nonce) → Sane K P → P.reply ≡ Some r → GoodReply K.top K.fine r
reply_good K P r s e = subst (GoodStored K) e s.reply

-- Q sees of P its expected ID and its reply
peer_same : (β : Ghost) (P P' Q : Node) → P'.exp ≡ P.exp → P'.reply ≡ P.reply → end_of β Q P ≡ end_of β Q P'
peer_same β P P' Q e r = λ i. record { first = Q.first; book = lookup Q.rows; spi = Q.spi; link = link_by Q.out (sym e i) (sym r i); born_here = β.born_here; given = β.given }

as_asks : (α α' β : Ghost) (P P' Q : Node) → P'.exp ≡ P.exp → P'.reply ≡ P.reply → Asks (end_of α P Q) (end_of α' P' Q) → Step (state α β P Q) (state α' β P' Q)
as_asks α α' β P P' Q e r h =
    subst (λ (x : End). Step (state α β P Q) (record { a = end_of α' P' Q; b = x })) (peer_same β P P' Q e r) (law.asks h)

as_settles : (α α' β : Ghost) (P P' Q : Node) → P'.exp ≡ P.exp → P'.reply ≡ P.reply → Settles (end_of α P Q) (end_of α' P' Q) → Step (state α β P Q) (state α' β P' Q)
as_settles α α' β P P' Q e r h =
    subst (λ (x : End). Step (state α β P Q) (record { a = end_of α' P' Q; b = x })) (peer_same β P P' Q e r) (law.settles h)

pub record Kept (K : Coding) (s : Side) (α β : Ghost) (P Q P' : Node) (p q : List ℕ → Type 0) (named : ℕ → Type 0) : Type 0 where
  pub between : Between K s P' Q p q
  pub ghost : Ghost
  pub moved : Moved (state α β P Q) (state ghost β P' Q)
  pub learnt : Learnt named α ghost P'

same_ghost : (named : ℕ → Type 0) (α : Ghost) (P' : Node) → Learnt named α α P'
same_ghost named α P' = record { keeps = λ k s e. e; only = λ k s e. inl e; gave = λ k e. inl e }

-- a key that was used is not used again
born_kept : (α : Ghost) (x : ℕ) (z : Sa) (k : ℕ) (s : Sa) → (α.born_here k ≡ Some s → k < x) → α.born_here k ≡ Some s → put α.born_here x (Some z) k ≡ Some s
born_kept α x z k s l e = let m = l e in grind arith

born_only : (α : Ghost) (x : ℕ) (z : Sa) (k : ℕ) (s : Sa) → put α.born_here x (Some z) k ≡ Some s → (α.born_here k ≡ Some s) ⊎ ((k ≡ x) × (z ≡ s))
born_only α x z k s e = grind arith

used : (P Q : End) (k : ℕ) (s : Sa) → Made P Q k → P.born_here k ≡ Some s → k < P.spi
used P Q k s m e = grind arith

module _ {C : Type 0} (K : Coding) (meaning : C → Meaning) (s : Side) (P Q : Node) (c : C)
    (b : Between K s P Q ((meaning c).may s) ((meaning c).may (other s)))
    (α β : Ghost) (v : Inv (end_of α P Q) (end_of β Q P)) (f : fits (link_of P Q)) (g : fits (link_of Q P)) where
  abbrev goal : Node → C → (ℕ → Type 0) → Type 0
  goal P' c' named = Kept K s α β P Q P' ((meaning c').may s) ((meaning c').may (other s)) named

  abbrev none_named : ℕ → Type 0
  none_named k = ⊥

  abbrev acting : Ghost → Node → Type 0
  acting γ R = Acts (end_of β Q P) (with_book (end_of α P Q) (calm (lookup P.rows))) (end_of β Q R) (end_of γ R Q)

  sends_one :
      (P' : Node) (u c' : C) (m : Msg) (t : Bool)
      → ((e : Side) (x : List ℕ) → (meaning u).may e x → (meaning c).may e x)
      → Between K s P' Q ((meaning c).may s) ((meaning c).may (other s))
      → Sent (meaning u) (meaning c') (other s) (K.enc s m) t
      → OnWay P' Q m
      → Good K m
      → Between K s P' Q ((meaning c').may s) ((meaning c').may (other s))
  sends_one P' u c' m t less k h o y =
      widen K s P' Q ((meaning u).may s) ((meaning u).may (other s)) ((meaning c').may s) ((meaning c').may (other s)) m t
      (narrow K s P' Q _ _ ((meaning u).may s) ((meaning u).may (other s)) k (less s) (less (other s)))
      (sent_back s (meaning u) (meaning c') (K.enc s m) t h) h.here o y

  pub asking_keeps : (w : Want) (t : Bool) (P' : Node) (c' : C) (i : ℕ) (a : Ask) → Allowed K P w → ask P w ≡ Some P' → P'.out ≡ asked i a
      → Sent (meaning c) (meaning c') (other s) (K.enc s (request i (wire a))) t → goal P' c' (names w)
  asking_keeps w t P' c' i a al e o h =
      let k = ask_shape P w P' e in
      let due = due_sent P Q b.p_steps k.was in
      let x : P.next ≡ i = let y = k.sends.out in cc in
      let z : k.for ≡ a = let y = k.sends.out in cc in
      let sn : Sane K P' = ask_sane K P b.p_sane α Q v.here.rows w P' al e in
      let n : OnWay P' Q (request P.next (wire k.for)) = sends_new P Q P' k.for k.sends due in
      record {
        between =
            sends_one P' c c' (request i (wire a)) t (λ e x y. y) (by_sends K s P Q P' _ _ b k.for k.sends due sn (k.rows b.p_rows)) h
            (rw (← x, ← z) n) (out_good K P' i a sn o);
        ghost = (asks_as α P Q b.p_steps w P' e).ghost;
        moved = inr (as_asks α _ β P P' Q k.sends.exp k.sends.reply (asks_as α P Q b.p_steps w P' e).asks);
        learnt = (asks_as α P Q b.p_steps w P' e).learnt;
      }

  answering_keeps :
      (n : Nonce) (t : Bool) (P' : Node) (c' u : C) (d : List ℕ) (i : ℕ) (q : Request Nonce) (bar : Option Bar) (rp : Response Nonce)
      → Got (meaning c) (meaning u) s (Some d)
      → K.dec (other s) d ≡ Some (request i q)
      → i ≡ P.exp
      → K.fine n ≡ true
      → (bar ≡ None → P.spi < K.top)
      → P' ≡ answer_wire P n bar q
      → P'.reply ≡ Some rp
      → Sent (meaning u) (meaning c') (other s) (K.enc s (response i rp)) t
      → goal P' c' none_named
  answering_keeps n t P' c' u d i q bar rp r e x fn rm y sy h =
      let w = came K s P Q _ _ b d (request i q) r.gives e in
      let k = expected P Q i q w x in
      let a = k.0 in
      let l = sent_link P Q a k.1 in
      let z : P' ≡ answer P n bar a =
      y ∙ ap (answer_wire P n bar) k.2 ∙ as_asked β α Q P b.p_rows v.there v.here n bar a l g in
      let sh : Answered P P' = subst (Answered P) (sym z) (answer_shape P n bar a) in
      let sn : Sane K P' = subst (Sane K) (sym z) (answer_sane K P b.p_sane α Q b.p_rows v.here.rows n bar a (out_good K Q P.exp a b.q_sane k.1).1 fn rm) in
      let new : Between K s P' Q ((meaning c').may s) ((meaning c').may (other s)) =
      sends_one P' u c' (response i rp) t r.only (by_replies K s P Q P' _ _ b a sh.shape k.1 sn (sh.rows b.p_rows)) h
      (rw x (replies_new P Q P' a sh.shape k.1 b.q_steps rp sy)) (rw x ((out_good K Q P.exp a b.q_sane k.1).0, reply_good K P' rp sn sy)) in
      ⊎_elim (plain new z) (bears new z) (answers_as β α Q P P.exp b.q_steps refl b.p_rows n bar a k.1)
    where
      plain : {N : Node} → Between K s P' Q ((meaning c').may s) ((meaning c').may (other s)) → P' ≡ N → acting α N → goal P' c' none_named
      plain new z act =
          record {
            between = new;
            ghost = α;
            moved = inr (subst (λ (N : Node). Step (state α β P Q) (state α β N Q)) (sym z) (swapped (law.answers act)));
            learnt = same_ghost none_named α P';
          }

      bears :
          {N : Node}
          → Between K s P' Q ((meaning c').may s) ((meaning c').may (other s))
          → P' ≡ N
          → (o : Sa) × (o.mine ≡ false) × (lookup N.rows P.spi ≡ Some (live fresh o)) × acting (bearing α P.spi o) N
          → goal P' c' none_named
      bears new z w =
          let row : lookup P'.rows P.spi ≡ Some (live fresh w.0) = ap (λ (M : Node). lookup M.rows P.spi) z ∙ w.2 in
          record {
            between = new;
            ghost = bearing α P.spi w.0;
            moved = inr (subst (λ (N : Node). Step (state α β P Q) (state (bearing α P.spi w.0) β N Q)) (sym z) (swapped (law.answers w.3)));
            learnt =
                record {
                  keeps = λ k o e. born_kept α P.spi w.0 k o (used (end_of α P Q) (end_of β Q P) k o (v.here.children k)) e;
                  only =
                      λ k o e. ⊎_elim inl (λ m. inr (record { st = fresh; row = ap (lookup P'.rows) m.0 ∙ row ∙ ap (λ (x : Sa). Some (live fresh x)) m.1; theirs = ap (λ (x : Sa). x.mine) (sym m.1) ∙ w.1 }))
                      (born_only α P.spi w.0 k o e);
                  gave = λ k e. inl e;
                };
          }

  settling_between :
      (P' : Node) (a : Ask) (i : ℕ)
      → P.out ≡ asked i a
      → Q.exp ≡ suc i
      → Settled P a P'
      → Sane K P'
      → P'.out ≡ idle
      → Between K s P' Q ((meaning c).may s) ((meaning c).may (other s))
  settling_between P' a i o e k y x = ⊎_elim quiet more k.shape
    where
      quiet : Quiets P P' → Between K s P' Q ((meaning c).may s) ((meaning c).may (other s))
      quiet q = by_quiets K s P Q P' _ _ b q (due_settled P Q i a b.p_steps o e) y (k.rows b.p_rows)

      more : (m : Ask) × Sends P m P' × (heavy (wire a) ≡ 2) × (heavy (wire m) ≡ 0) → Between K s P' Q ((meaning c).may s) ((meaning c).may (other s))
      more m = let w = m.1.out in absurd (let z : ◌≡◌ {A = ℕ} 0 1 = cc in omega arith)

  settled_exp : (a : Ask) (P' : Node) → Settled P a P' → (P'.exp ≡ P.exp) × (P'.reply ≡ P.reply)
  settled_exp a P' k = ⊎_elim (λ q. (q.exp, q.reply)) (λ m. (m.1.exp, m.1.reply)) k.shape

  record MovesOn (P' : Node) (a : Ask) : Type 0 where
    shape : Settled P a P'
    sane : Sane K P'
    ghost : Ghost
    moved : Step (state α β P Q) (state ghost β P' Q)
    learnt : Learnt none_named α ghost P'

  settling_moves :
      (P' : Node) (i : ℕ) (a : Ask) (r : Response Nonce)
      → (Q.exp ≡ suc i) × (Q.reply ≡ Some r)
      → P.out ≡ asked i a
      → P' ≡ settle P a (taken_as P.rows (sense r))
      → MovesOn P' a
  settling_moves P' i a r k o y =
      let z : P' ≡ settle P a (stored Q.reply) =
      y ∙ ap (λ (x : Option (Response Nonce)). settle P a (taken_as P.rows (stored x))) (sym k.1)
      ∙ taken_whole α β P Q b.p_rows v.here a (stored Q.reply) b.q_sane.made_high (answered_link α P Q i b.p_steps b.p_rows k.0 a o) in
      let sh : Settled P a P' = subst (Settled P a) (sym z) (settle_shape P a (stored Q.reply)) in
      let e = settled_exp a P' sh in
      let act = settles_as α P Q i b.p_steps b.p_rows k.0 a o f v.here.own in
      record {
        shape = sh;
        sane = subst (Sane K) (sym z) (settle_sane K P b.p_sane a (stored Q.reply) (settles_below K α P Q i a (stored Q.reply) b.p_sane o (answered_link α P Q i b.p_steps b.p_rows k.0 a o) v.here.rows v.here.own));
        ghost = act.ghost;
        moved = as_settles α act.ghost β P P' Q e.0 e.1 (subst (λ (N : Node). Settles (end_of α P Q) (end_of act.ghost N Q)) (sym z) act.settles);
        learnt = subst (λ (N : Node). Learnt none_named α act.ghost N) (sym z) act.learnt;
      }

  settling_keeps :
      (P' : Node) (c' : C) (d : List ℕ) (i : ℕ) (a : Ask) (r : Response Nonce)
      → Got (meaning c) (meaning c') s (Some d)
      → K.dec (other s) d ≡ Some (response i r)
      → P.out ≡ asked i a
      → P' ≡ settle P a (taken_as P.rows (sense r))
      → P'.out ≡ idle
      → goal P' c' none_named
  settling_keeps P' c' d i a r y e o z x =
      let k = replied P Q i a r (came K s P Q _ _ b d (response i r) y.gives e) o in
      let m = settling_moves P' i a r k o z in
      record {
        between =
            narrow K s P' Q _ _ ((meaning c').may s) ((meaning c').may (other s)) (settling_between P' a i o k.0 m.shape m.sane x) (y.only s) (y.only (other s));
        ghost = m.ghost;
        moved = inr m.moved;
        learnt = m.learnt;
      }

  following_keeps :
      (t : Bool) (P' : Node) (c' u : C) (d : List ℕ) (i : ℕ) (a : Ask) (r : Response Nonce) (j : ℕ) (n : Ask)
      → Got (meaning c) (meaning u) s (Some d)
      → K.dec (other s) d ≡ Some (response i r)
      → P.out ≡ asked i a
      → P' ≡ settle P a (taken_as P.rows (sense r))
      → P'.out ≡ asked j n
      → Sent (meaning u) (meaning c') (other s) (K.enc s (request j (wire n))) t
      → goal P' c' none_named
  following_keeps t P' c' u d i a r j n y e o z x h =
      let k = replied P Q i a r (came K s P Q _ _ b d (response i r) y.gives e) o in
      let m = settling_moves P' i a r k o z in
      let due = due_settled P Q i a b.p_steps o k.0 in
      record { between = ⊎_elim (none m.shape) (more m.shape m.sane due) m.shape.shape; ghost = m.ghost; moved = inr m.moved; learnt = m.learnt }
    where
      none : Settled P a P' → Quiets P P' → Between K s P' Q ((meaning c').may s) ((meaning c').may (other s))
      none k q = let w = q.out in absurd (let z : ◌≡◌ {A = ℕ} 0 1 = cc in omega arith)

      more : Settled P a P' → Sane K P' → P.next ≡ Q.exp → (l : Ask) × Sends P l P' × (heavy (wire a) ≡ 2) × (heavy (wire l) ≡ 0) → Between K s P' Q ((meaning c').may s) ((meaning c').may (other s))
      more k sn due l =
          let w = l.1.out in
          let p : P.next ≡ j = cc in
          let q : l.0 ≡ n = cc in
          sends_one P' u c' (request j (wire n)) t y.only (by_sends K s P Q P' _ _ b l.0 l.1 due sn (k.rows b.p_rows)) h
          (rw (← p, ← q) (sends_new P Q P' l.0 l.1 due)) (out_good K P' j n sn x)

  pub keeps : {x : Call} {r : Answer} {P' : Node} {c' : C} → Did K meaning s P c x r P' c' → goal P' c' (GivesUp x r)
  keeps {c' = c'} (refuses h) =
      record { between = narrow K s P Q _ _ ((meaning c').may s) ((meaning c').may (other s)) b (h.less s) (h.less (other s)); ghost = α; moved = inl refl; learnt = same_ghost _ α P }
  keeps {c' = c'} (asks {w = w} {t = t} {P' = P'} i a al e o h) = asking_keeps w t P' c' i a al e o h
  keeps {c' = c'} (resends {t = t} i a o h) =
      record { between = sends_one P c c' (request i (wire a)) t (λ e x y. y) b h (still_out P Q i a b.p_steps o) (out_good K P i a b.p_sane o); ghost = α; moved = inl refl; learnt = same_ghost _ α P }
  keeps {c' = c'} (gets_none h) =
      record { between = narrow K s P Q _ _ ((meaning c').may s) ((meaning c').may (other s)) b (h.only s) (h.only (other s)); ghost = α; moved = inl refl; learnt = same_ghost _ α P }
  keeps {c' = c'} (ignores d h w) =
      record { between = narrow K s P Q _ _ ((meaning c').may s) ((meaning c').may (other s)) b (h.only s) (h.only (other s)); ghost = α; moved = inl refl; learnt = same_ghost _ α P }
  keeps {c' = c'} (repeats {t = t} u d i q r h e y m k) =
      record {
        between =
            sends_one P u c' (response i r) t h.only b k
            (said_again P Q i q r b.q_steps (came K s P Q _ _ b d (request i q) h.gives e) y m)
            (let z = came K s P Q _ _ b d (request i q) h.gives e in (omega (arith, z.0, b.q_sane.next), reply_good K P r b.p_sane m));
        ghost = α;
        moved = inl refl;
        learnt = same_ghost _ α P;
      }
  keeps {c' = c'} (answers {n = n} {t = t} {P' = P'} u d i q bar rp h e x fn rm y sy k) = answering_keeps n t P' c' u d i q bar rp h e x fn rm y sy k
  keeps {c' = c'} (settles {P' = P'} d i a r h e o y x) = settling_keeps P' c' d i a r h e o y x
  keeps {c' = c'} (follows {t = t} {P' = P'} u d i a r j n h e o y x k) = following_keeps t P' c' u d i a r j n h e o y x k

-- What has become of the SAs of a run.
use Rattle.std.proofs.Common.{◌≡◌, ℕ, Bool, true, false, ◌⊎◌, List, [], ◌∷◌, Some, None, Option, refl, subst, inl, inr, ⊎_elim, arith}
use Rattle.protocol.specs.Model.{Sa, Why, kept, given_up, lost}
use Rattle.protocol.specs.Invariant.{Loses, LostTo}
use Rattle.protocol.specs.Law.{Fate, FateAt, GoneWith}
use Rattle.protocol.specs.Rows.{lookup}
use Rattle.protocol.specs.Node.{idle, Node, Ghost, end_of}
use Rattle.protocol.proofs.Fates as fates
use Rattle.protocol.proofs.Gone as gone
use Rattle.nonce.specs.declared.side.Side.{Side}
use Rattle.nonce.specs.declared.side.Side.TheVariants.{A, B}
use Rattle.channel.specs.Meaning.{Meaning}
use Rattle.line.specs.Calls.{Coding}
use Rattle.line.specs.World as world
use Rattle.line.specs.World.{World, Move, Answer, Start}
use Rattle.line.specs.Ghosts.{state, Has}
use Rattle.line.specs.History.{ever, trail, GivenUpBy}
use Rattle.line.specs.Laws.{Succeeds}
use Rattle.line.proofs.Extra.{More, run_more, run_first}
use Rattle.line.proofs.Runs.{Among, Told, run_alive, starts, quiet_link}

module _ {C : Type 0} (K : Coding) (meaning : C → Meaning) (F : World C → Type 0) where
  -- the moments of a run, as a list and as a statement
  among_more : (us : List (World C)) (v : World C) (xs : List Move) (rs : List Answer) (w : World C) (h : world.Run K meaning v xs rs w)
      → Among F us → Among F (trail K meaning us v xs rs w h)
  among_more us v [] [] w h a = a
  among_more us v [] (r ∷ rs) w h a = a
  among_more us v (x ∷ xs) [] w h a = a
  among_more us v (x ∷ xs) (r ∷ rs) w h a = among_more (h.0 ∷ us) h.0 xs rs w h.2 (inr a)

  pub to_trail : (us : List (World C)) (v : World C) (xs : List Move) (rs : List Answer) (w : World C) (h : world.Run K meaning v xs rs w)
      → (F v → Among F us) → ever K meaning F v xs rs w h → Among F (trail K meaning us v xs rs w h)
  to_trail us v [] [] w h a e = a e
  to_trail us v [] (r ∷ rs) w h a e = elim e [ ]
  to_trail us v (x ∷ xs) [] w h a e = elim e [ ]
  to_trail us v (x ∷ xs) (r ∷ rs) w h a e =
      ⊎_elim (λ y. among_more (h.0 ∷ us) h.0 xs rs w h.2 (inr (a y))) (λ y. to_trail (h.0 ∷ us) h.0 xs rs w h.2 inl y) e

  ever_now : (v : World C) (xs : List Move) (rs : List Answer) (w : World C) (h : world.Run K meaning v xs rs w) → F v → ever K meaning F v xs rs w h
  ever_now v [] [] w h f = f
  ever_now v [] (r ∷ rs) w h f = elim h [ ]
  ever_now v (x ∷ xs) [] w h f = elim h [ ]
  ever_now v (x ∷ xs) (r ∷ rs) w h f = inl f

  pub from_trail : (us : List (World C)) (v : World C) (xs : List Move) (rs : List Answer) (w : World C) (h : world.Run K meaning v xs rs w)
      → Among F (trail K meaning us v xs rs w h) → Among F us ⊎ ever K meaning F v xs rs w h
  from_trail us v [] [] w h e = inl e
  from_trail us v [] (r ∷ rs) w h e = elim h [ ]
  from_trail us v (x ∷ xs) [] w h e = elim h [ ]
  from_trail us v (x ∷ xs) (r ∷ rs) w h e =
      ⊎_elim (λ y. ⊎_elim (λ z. inr (inr (ever_now h.0 xs rs w h.2 z))) inl y) (λ y. inr (inr y)) (from_trail (h.0 ∷ us) h.0 xs rs w h.2 e)

module _ {C : Type 0} (p q : World C → Node) (first : Bool) (side_p side_q : Side) (ev : (World C → Type 0) → Type 0) (given : Side → ℕ → Type 0) (us : List (World C)) (w : World C)
    (to : (F : World C → Type 0) → ev F → Among F us) (back : (F : World C → Type 0) → Among F us → ev F) (α β : Ghost)
    (told_p : Told p us α (given side_p)) (told_q : Told q us β (given side_q))
    (is_first : (q w).first ≡ first) (more : More (end_of α (p w) (q w)))
    (old : (k : ℕ) → GoneWith (lookup (p w).rows) (lookup (q w).rows) (α.born_here k))
    (fate : (k : ℕ) → FateAt (end_of α (p w) (q w)) (end_of β (q w) (p w)) k (α.born_here k)) where
  is_born : (k : ℕ) (s : Sa) → ev (λ u. Has (p u) k s) → α.born_here k ≡ Some s
  is_born k s e = told_p.kept k s (to (λ u. Has (p u) k s) e)

  fate_of : (k : ℕ) (s : Sa) → ev (λ u. Has (p u) k s) → Fate (end_of α (p w) (q w)) (end_of β (q w) (p w)) k s
  fate_of k s e = subst (FateAt (end_of α (p w) (q w)) (end_of β (q w) (p w)) k) (is_born k s e) (fate k)

  -- an end has given up what it made for its peer only by an ask
  not_given : (k : ℕ) (s : Sa) → α.born_here k ≡ Some s → (given side_p k → ⊥) → (y : Why) → α.given k ≡ y → α.given k ≡ kept
  not_given k s b n kept e = e
  not_given k s b n given_up e = absurd (n (told_p.gave k e))
  not_given k s b n (lost j) e = absurd (let x = more.apart k j e in let z : ◌≡◌ {A = ℕ} 0 1 = cc in omega arith)

  -- the peer has given it up only by an ask, or as the loser
  not_lost :
      (k : ℕ) (s : Sa)
      → Fate (end_of α (p w) (q w)) (end_of β (q w) (p w)) k s
      → ((j : ℕ) (t : Sa) → ev (λ u. Has (q u) j t) → Loses first s t → ⊥)
      → (given side_q s.peer → ⊥)
      → (y : Why)
      → β.given s.peer ≡ y
      → β.given s.peer ≡ kept
  not_lost k s f beat n kept e = e
  not_lost k s f beat n given_up e = absurd (n (told_q.gave s.peer e))
  not_lost k s f beat n (lost j) e = absurd (by (β.born_here j) refl (f.lost_truly j e))
    where
      by : (x : Option Sa) → β.born_here j ≡ x → LostTo (q w).first s x → ⊥
      by None b l = l
      by (Some t) b l = beat j t (back (λ u. Has (q u) j t) (told_q.born j t b)) (rw is_first at l)

  pub succeeds : Succeeds p q first side_p side_q ev given w
  succeeds =
      record {
        old_gone = λ k s e h. subst (GoneWith (lookup (p w).rows) (lookup (q w).rows)) (is_born k s e) (old k) h;
        one = λ k l s t e f. more.one k l s t (is_born k s e) (is_born l t f);
        loser_gone =
            λ k j s t e f l. (fate_of k s e).loser_gone j t (told_q.kept j t (to (λ u. Has (q u) j t) f)) (rw is_first l);
        successor =
            λ k s e beat m n. let f = fate_of k s e in
            f.stands (not_given k s (is_born k s e) m (α.given k) refl) (not_lost k s f beat n (β.given s.peer) refl);
      }

module _ {C : Type 0} (K : Coding) (meaning : C → Meaning) where
  -- at every moment of every run at which both ends are quiet
  pub succession :
      (v : World C) (xs : List Move) (rs : List Answer) (w : World C) (h : world.Run K meaning v xs rs w)
      → Start K meaning v
      → w.a.out ≡ idle
      → w.b.out ≡ idle
      → Succeeds (λ (u : World C). u.a) (λ (u : World C). u.b) false A B (λ F. ever K meaning F v xs rs w h) (GivenUpBy xs rs) w
      × Succeeds (λ (u : World C). u.b) (λ (u : World C). u.a) true B A (λ F. ever K meaning F v xs rs w h) (GivenUpBy xs rs) w
  succession v xs rs w h s p q =
      let l = run_alive K meaning (GivenUpBy xs rs) (v ∷ []) v xs rs w h (λ s k e. e) (starts K meaning (GivenUpBy xs rs) v s) in
      let us = trail K meaning (v ∷ []) v xs rs w h in
      let st = state l.ghost_a l.ghost_b w.a w.b in
      let m = run_more l.lived.run in
      let f = run_first l.lived.run in
      let qa = quiet_link w.a w.b p in
      let qb = quiet_link w.b w.a q in
      let old = gone.rekeyed_gone l.lived.key_a l.lived.key_b l.lived.past st l.lived.run qa qb in
      let fate = fates.succession l.lived.key_a l.lived.key_b l.lived.past st l.lived.run qa qb in
      let to = λ (F : World C → Type 0) (e : ever K meaning F v xs rs w h). to_trail K meaning F (v ∷ []) v xs rs w h inl e in
      let back = λ (F : World C → Type 0) (e : Among F us). ⊎_elim (λ a. ⊎_elim (λ y. ever_now K meaning F v xs rs w h y) (λ y. absurd y) a) (λ y. y) (from_trail K meaning F (v ∷ []) v xs rs w h e) in (
        succeeds (λ (u : World C). u.a) (λ (u : World C). u.b) false A B _ (GivenUpBy xs rs) us w to back l.ghost_a l.ghost_b l.told_a l.told_b f.1 m.0 (λ k. (old k).0) (λ k. (fate k).0),
        succeeds (λ (u : World C). u.b) (λ (u : World C). u.a) true B A _ (GivenUpBy xs rs) us w to back l.ghost_b l.ghost_a l.told_b l.told_a f.0 m.1 (λ k. (old k).1) (λ k. (fate k).1),
      )

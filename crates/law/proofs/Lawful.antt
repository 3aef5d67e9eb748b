-- Every run of two ends keeps the law.
use Rattle.std.proofs.Common.{◌≡◌, ℕ, ◌^◌, ◌<◌, ◌≤◌, Bool, true, false, not, List, [], ◌∷◌, ◌++◌, Some, None, Ok, Err, Option, sym, refl, ap, ◌∙◌, subst, inl, inr, ⊎_elim, arith}
use Rattle.std.proofs.lemmas.Bool.{ne_eqb, eq-eqb, not-true, not_from_false, true≢false}
use Rattle.nonce.specs.declared.side.Side.{Side}
use Rattle.nonce.specs.declared.side.Side.TheVariants.{A, B}
use Rattle.nonce.specs.Sides.{other, is_side}
use Rattle.book.specs.Rows.{is_opening, kept_octets, nr_octets, mirrors, Mirror}
use Rattle.book.specs.Shelves as shelf
use Rattle.book.proofs.Lookups.{lookup_own}
use Rattle.book.proofs.Mirrors.{mirror_mirrors}
use Rattle.book.specs.declared.row.Beginner.{Beginner}
use Rattle.book.specs.declared.row.Beginner.TheVariants.{ThisEnd, Peer}
use Rattle.book.specs.declared.row.Row.{Row}
use Rattle.book.specs.declared.row.RowState.{RowState}
use Rattle.book.specs.declared.row.RowState.TheVariants as state
use Rattle.channel.specs.Behaviour.{Behaviour}
use Rattle.channel.specs.Meaning.{Sound}
use Rattle.calls.specs.declared.answers.Answer.{Answer}
use Rattle.calls.specs.declared.answers.Answer.TheVariants as answer
use Rattle.calls.specs.declared.answers.Delivered.TheVariants.{Done, Again}
use Rattle.calls.specs.declared.making.Making.{Making}
use Rattle.calls.specs.declared.moves.Call.{Call}
use Rattle.calls.specs.declared.moves.Call.TheVariants as calls
use Rattle.calls.specs.declared.moves.Move.{Move}
use Rattle.calls.specs.declared.refusals.DeliverRefusal.{DeliverRefusal}
use Rattle.calls.specs.declared.refusals.DeliverRefusal.TheVariants as refusal
use Rattle.protocol.specs.Invariant as invariant
use Rattle.protocol.specs.Law.{SameIn}
use Rattle.protocol.specs.Model.{St, Sa, Cell, live, mirror, lose}
use Rattle.protocol.specs.Node.{Out, idle, asked}
use Rattle.protocol.specs.Rows.{lookup}
use Rattle.line.specs.Calls.{Coding}
use Rattle.line.specs.Ghosts.{GivesUp}
use Rattle.line.specs.History as line_history
use Rattle.line.specs.Laws.{Succeeds}
use Rattle.line.specs.Rest as line_rest
use Rattle.line.specs.Whole as line_law
use Rattle.line.specs.World as line
use Rattle.line.proofs.Codes.{coding, short}
use Rattle.line.proofs.Runs.{starts}
use Rattle.line.proofs.Whole.{law_of}
use Rattle.law.specs.Ends.{End, Outstanding, made_end}
use Rattle.law.specs.Runs.{World, at, Called, Run, Fit, Start, ever}
use Rattle.law.specs.Laws as laws
use Rattle.law.specs.Laws.{row_of, Quiet, Mirrored, MadeAt, InNeither, InBook, InBoth, Replaces, loser_of, Loses, Accepted, Names, GivenUpBy, Succession, Tally, tally, rounds_since_ask, NothingResent, HoldsTwo, Law, front, Lawful, GoesOn}
use Rattle.law.proofs.Calling.{call_of, answer_of, refusal_of, idle_of}
use Rattle.law.proofs.Cells.{is_mine, is_heir, sa_of, cell_by, cell_in, lines, lines_lookup}
use Rattle.law.proofs.Followed.{moves_of, answers_of, row_live, Ties, image, node_at, Followed, follow}
use Rattle.law.proofs.Sending.{Named}
use Rattle.law.proofs.Tied.{node, OutTied, Tied}

-- Rows with their SAs. An SA of the line and the mirror of its row.
module _ (r m : Row) (own : ℕ) (sa : sa_of m ≡ mirror own (sa_of r)) where
  apart : (a b : Beginner) → is_mine b ≡ not (is_mine a) → a ≡ b → ⊥
  apart ThisEnd ThisEnd h e = let z : ◌≡◌ {A = ℕ} 0 1 = cc in omega arith
  apart ThisEnd Peer h e = let z : ◌≡◌ {A = ℕ} 0 1 = cc in omega arith
  apart Peer ThisEnd h e = let z : ◌≡◌ {A = ℕ} 0 1 = cc in omega arith
  apart Peer Peer h e = let z : ◌≡◌ {A = ℕ} 0 1 = cc in omega arith

  made_nr : (y : Row) → is_opening y.state ≡ false → nr_octets y ≡ kept_octets y.nr
  made_nr y h = rw h

  mirror_of : r.own ≡ own → m.own ≡ r.peer → is_opening r.state ≡ false → is_opening m.state ≡ false → Mirror r m
  mirror_of k l a b =
      record {
        own = k ∙ sym (ap (λ (z : Sa). z.peer) sa);
        peer = sym l;
        parent_own = sym (ap (λ (z : Sa). z.pp) sa);
        parent_peer = sym (ap (λ (z : Sa). z.po) sa);
        began = apart r.began m.began (ap (λ (z : Sa). z.mine) sa);
        ni = sym (ap (λ (z : Sa). z.ni) sa);
        nr = made_nr r a ∙ sym (ap (λ (z : Sa). z.nr) sa) ∙ sym (made_nr m b);
      }

-- a cell that has its like in the other book is of a row that is not Opening
same_by :
    (q : ℕ → Option Cell) (own : ℕ) (r : Row) (s : RowState) → SameIn q own (Some (cell_by s r)) →
    (is_opening s ≡ false) × ((t : St) × (q r.peer ≡ Some (live t (mirror own (sa_of r)))))
same_by q own r state.Opening h = absurd h
same_by q own r state.Fresh h = (refl, h)
same_by q own r state.Standing h = (refl, h)
same_by q own r state.Superseded h = (refl, h)
same_by q own r state.Closing h = (refl, h)

mirrored :
    (rs qs : List Row) → ((k : ℕ) → SameIn (lookup (lines qs)) k (lookup (lines rs) k)) → (own : ℕ) (r : Row) →
    shelf.lookup rs own ≡ Some r → (m : Row) × (shelf.lookup qs r.peer ≡ Some m) × (mirrors r m ≡ true)
mirrored rs qs h own r e =
    let p = same_by (lookup (lines qs)) own r r.state (subst (SameIn (lookup (lines qs)) own) (lines_lookup rs own ∙ ap cell_in e) (h own)) in
    let q = row_live qs r.peer p.1.0 (mirror own (sa_of r)) p.1.1 in (
      q.row,
      q.is,
      mirror_mirrors r q.row
          (mirror_of r q.row own q.sa (lookup_own rs own r e) (lookup_own qs r.peer q.row q.is) p.0 q.made),
    )

-- no row, no cell
row_none : (q : Option Row) → cell_in q ≡ None → q ≡ None
row_none None h = refl
row_none (Some y) h = let z : ◌≡◌ {A = ℕ} 0 1 = cc in absurd (omega arith)

row_gone : (rs : List Row) (k : ℕ) → lookup (lines rs) k ≡ None → shelf.lookup rs k ≡ None
row_gone rs k h = row_none (shelf.lookup rs k) (sym (lines_lookup rs k) ∙ h)

-- heirs
heir_of : (r : Row) → Replaces r → is_heir r ≡ true
heir_of r h = not_from_false _ (ne_eqb r.parent.own 0 h)

replaces_of : (r : Row) → is_heir r ≡ true → Replaces r
replaces_of r h e = true≢false (sym (eq-eqb r.parent.own 0 e) ∙ not-true _ h)

side_is : (x s : Side) → is_side x s ≡ true → x ≡ s
side_is A A h = refl
side_is A B h = let z : ◌≡◌ {A = ℕ} 0 1 = cc in absurd (omega arith)
side_is B A h = let z : ◌≡◌ {A = ℕ} 0 1 = cc in absurd (omega arith)
side_is B B h = refl

is_same : (x s : Side) → x ≡ s → is_side x s ≡ true
is_same A A h = refl
is_same A B h = let z : ◌≡◌ {A = ℕ} 0 1 = cc in absurd (omega arith)
is_same B A h = let z : ◌≡◌ {A = ℕ} 0 1 = cc in absurd (omega arith)
is_same B B h = refl

-- the peer of A is not the first end, that of B is
abbrev first_across : Side → Bool
first_across A = false
first_across B = true

lose_to : (s : Side) (r t : Row) → loser_of s r t ≡ other s → lose (first_across s) (kept_octets r.ni) (kept_octets r.nr) (kept_octets t.ni) (kept_octets t.nr) ≡ true
unfolding lose
lose_to A r t h = is_same _ B h
lose_to B r t h = is_same _ A h

lose_back : (s : Side) (r t : Row) → lose (first_across s) (kept_octets r.ni) (kept_octets r.nr) (kept_octets t.ni) (kept_octets t.nr) ≡ true → loser_of s r t ≡ other s
unfolding lose
lose_back A r t h = side_is _ B h
lose_back B r t h = side_is _ A h

loses_to : (s : Side) (r t : Row) → Loses s r t → invariant.Loses (first_across s) (sa_of r) (sa_of t)
loses_to s r t h = record { s_heir = heir_of r h.here; t_heir = heir_of t h.there; one = sym h.one; other = sym h.same; less = lose_to s r t h.loser }

loses_back : (s : Side) (r t : Row) → invariant.Loses (first_across s) (sa_of r) (sa_of t) → Loses s r t
loses_back s r t h = record { here = replaces_of r h.s_heir; there = replaces_of t h.t_heir; one = sym h.one; same = sym h.other; loser = lose_back s r t h.less }

module _ {C : Type 0} (behaviour : Behaviour C) where
  -- an ask that gives up an SA was accepted
  gives_up :
      (e e' : End) (c c' : C) (x : Call (List ℕ)) (a : Answer) (k : ℕ) → Called behaviour e c x a e' c' → GivesUp (call_of x) (answer_of a) k →
      Names x k × Accepted a
  gives_up e e' c c' (calls.Create n) (answer.Asked (Ok s)) k h g = absurd g
  gives_up e e' c c' (calls.Create n) (answer.Asked (Err f)) k h g = absurd g
  gives_up e e' c c' (calls.Create n) (answer.Resent r) k h g = absurd h
  gives_up e e' c c' (calls.Create n) (answer.Heard r) k h g = absurd h
  gives_up e e' c c' (calls.Rekey own n) (answer.Asked (Ok s)) k h g = (g, tt)
  gives_up e e' c c' (calls.Rekey own n) (answer.Asked (Err f)) k h g = absurd g
  gives_up e e' c c' (calls.Rekey own n) (answer.Resent r) k h g = absurd h
  gives_up e e' c c' (calls.Rekey own n) (answer.Heard r) k h g = absurd h
  gives_up e e' c c' (calls.Delete own) (answer.Asked (Ok s)) k h g = (g, tt)
  gives_up e e' c c' (calls.Delete own) (answer.Asked (Err f)) k h g = absurd g
  gives_up e e' c c' (calls.Delete own) (answer.Resent r) k h g = absurd h
  gives_up e e' c c' (calls.Delete own) (answer.Heard r) k h g = absurd h
  gives_up e e' c c' calls.Check (answer.Asked (Ok s)) k h g = absurd g
  gives_up e e' c c' calls.Check (answer.Asked (Err f)) k h g = absurd g
  gives_up e e' c c' calls.Check (answer.Resent r) k h g = absurd h
  gives_up e e' c c' calls.Check (answer.Heard r) k h g = absurd h
  gives_up e e' c c' calls.Resend a k h g = absurd g
  gives_up e e' c c' (calls.Deliver n) a k h g = absurd g

  given_up :
      (v : World C) (ms : List (Move (List ℕ))) (rs : List Answer) (w : World C) (s : Side) (k : ℕ) → Run behaviour v ms rs w →
      line_history.GivenUpBy (moves_of ms) (answers_of rs) s k → GivenUpBy ms rs s k
  given_up v [] rs w s k h g = absurd g
  given_up v (m ∷ ms) [] w s k h g = absurd h
  given_up v (m ∷ ms) (a ∷ rs) w s k h g =
      ⊎_elim (λ z. let p = gives_up _ _ _ _ m.call a k h.1.this z.1 in inl (z.0, p.0, p.1))
      (λ z. inr (given_up h.0 ms rs w s k h.2 z)) g

  -- rounds are counted alike
  abbrev as_line : Tally → line_rest.Tally
  as_line t = record { rounds = t.rounds; half = t.half }

  delivered_alike : (t : Tally) (s : Side) → line_rest.delivered (as_line t) s ≡ as_line (laws.delivered t s)
  delivered_alike t A = refl
  delivered_alike t B = refl

  refused_alike : (t : Tally) (s : Side) (n : List ℕ) (f : DeliverRefusal) → line_rest.tallied (as_line t) s (line.deliver n) (refusal_of f) ≡ as_line (laws.refused_by f t (laws.delivered t s))
  refused_alike t s n refusal.NonceLength = refl
  refused_alike t s n refusal.NothingCame = delivered_alike t s
  refused_alike t s n (refusal.NoMessage f) = delivered_alike t s
  refused_alike t s n refusal.NotThePeer = delivered_alike t s
  refused_alike t s n refusal.WrongId = delivered_alike t s

  tallied_alike :
      (e e' : End) (c c' : C) (t : Tally) (s : Side) (x : Call (List ℕ)) (a : Answer) → Called behaviour e c x a e' c' →
      line_rest.tallied (as_line t) s (call_of x) (answer_of a) ≡ as_line (laws.tallied t s a)
  tallied_alike e e' c c' t s (calls.Create n) (answer.Asked (Ok a)) h = refl
  tallied_alike e e' c c' t s (calls.Create n) (answer.Asked (Err f)) h = refl
  tallied_alike e e' c c' t s (calls.Create n) (answer.Resent r) h = absurd h
  tallied_alike e e' c c' t s (calls.Create n) (answer.Heard r) h = absurd h
  tallied_alike e e' c c' t s (calls.Rekey own n) (answer.Asked (Ok a)) h = refl
  tallied_alike e e' c c' t s (calls.Rekey own n) (answer.Asked (Err f)) h = refl
  tallied_alike e e' c c' t s (calls.Rekey own n) (answer.Resent r) h = absurd h
  tallied_alike e e' c c' t s (calls.Rekey own n) (answer.Heard r) h = absurd h
  tallied_alike e e' c c' t s (calls.Delete own) (answer.Asked (Ok a)) h = refl
  tallied_alike e e' c c' t s (calls.Delete own) (answer.Asked (Err f)) h = refl
  tallied_alike e e' c c' t s (calls.Delete own) (answer.Resent r) h = absurd h
  tallied_alike e e' c c' t s (calls.Delete own) (answer.Heard r) h = absurd h
  tallied_alike e e' c c' t s calls.Check (answer.Asked (Ok a)) h = refl
  tallied_alike e e' c c' t s calls.Check (answer.Asked (Err f)) h = refl
  tallied_alike e e' c c' t s calls.Check (answer.Resent r) h = absurd h
  tallied_alike e e' c c' t s calls.Check (answer.Heard r) h = absurd h
  tallied_alike e e' c c' t s calls.Resend (answer.Asked r) h = absurd h
  tallied_alike e e' c c' t s calls.Resend (answer.Resent r) h = refl
  tallied_alike e e' c c' t s calls.Resend (answer.Heard r) h = absurd h
  tallied_alike e e' c c' t s (calls.Deliver n) (answer.Asked r) h = absurd h
  tallied_alike e e' c c' t s (calls.Deliver n) (answer.Resent r) h = absurd h
  tallied_alike e e' c c' t s (calls.Deliver n) (answer.Heard (Ok (Done a))) h = delivered_alike t s
  tallied_alike e e' c c' t s (calls.Deliver n) (answer.Heard (Ok (Again a))) h = delivered_alike t s
  tallied_alike e e' c c' t s (calls.Deliver n) (answer.Heard (Err f)) h = refused_alike t s n f

  tally_alike :
      (v : World C) (ms : List (Move (List ℕ))) (rs : List Answer) (w : World C) (t : Tally) → Run behaviour v ms rs w →
      line_rest.tally (as_line t) (moves_of ms) (answers_of rs) ≡ as_line (tally t ms rs)
  tally_alike v [] rs w t h = refl
  tally_alike v (m ∷ ms) [] w t h = refl
  tally_alike v (m ∷ ms) (a ∷ rs) w t h =
      ap (λ (u : line_rest.Tally). line_rest.tally u (moves_of ms) (answers_of rs)) (tallied_alike _ _ _ _ t m.side m.call a h.1.this)
      ∙ tally_alike h.0 ms rs w (laws.tallied t m.side a) h.2

  -- a call at which nothing was sent again
  not_resent :
      (e e' : End) (c c' : C) (x : Call (List ℕ)) (a : Answer) → Called behaviour e c x a e' c' → laws.is_resent a ≡ false →
      line_rest.not_resent (call_of x) (answer_of a)
  not_resent e e' c c' (calls.Create n) a k h = tt
  not_resent e e' c c' (calls.Rekey own n) a k h = tt
  not_resent e e' c c' (calls.Delete own) a k h = tt
  not_resent e e' c c' calls.Check a k h = tt
  not_resent e e' c c' calls.Resend (answer.Asked r) k h = absurd k
  not_resent e e' c c' calls.Resend (answer.Resent (Ok s)) k h = let z : ◌≡◌ {A = ℕ} 0 1 = cc in absurd (omega arith)
  not_resent e e' c c' calls.Resend (answer.Resent (Err f)) k h = refl
  not_resent e e' c c' calls.Resend (answer.Heard r) k h = absurd k
  not_resent e e' c c' (calls.Deliver n) a k h = tt

  none_resent :
      (v : World C) (ms : List (Move (List ℕ))) (rs : List Answer) (w : World C) → Run behaviour v ms rs w → NothingResent rs →
      line_rest.none_resent (moves_of ms) (answers_of rs)
  none_resent v [] rs w h n = tt
  none_resent v (m ∷ ms) [] w h n = tt
  none_resent v (m ∷ ms) (a ∷ rs) w h n = (not_resent _ _ _ _ m.call a h.1.this n.0, none_resent h.0 ms rs w h.2 n.1)

-- an end as it is made
made_tied : (m : Making) (s : Side) (most : ℕ) → Fit m → Tied (made_end m s most) None idle
made_tied m A most f = record { reply = tt; out = tt; rising = tt; below = tt; begun = tt; least = f.least_a }
made_tied m B most f = record { reply = tt; out = tt; rising = tt; below = tt; begun = tt; least = f.least_b }

made_named : (m : Making) (s : Side) (most : ℕ) → Named m.initiator m.responder s (made_end m s most)
made_named m A most = record { side = refl; initiator = refl; responder = refl }
made_named m B most = record { side = refl; initiator = refl; responder = refl }

-- a request that is tied to none
none_of : (e : End) (o : Option Outstanding) (busy : Out) → OutTied e o busy → busy ≡ idle → o ≡ None
none_of e None b t h = refl
none_of e (Some o) idle t h = absurd t
none_of e (Some o) (asked i a) t h = let z : ◌≡◌ {A = ℕ} 0 1 = cc in absurd (omega arith)

node_rows : {C : Type 0} {i r : ℕ} (w : World C) (y : Ties i r w) (s : Side) → (node_at s (image w y)).rows ≡ lines (at s w).shelf.rows
node_rows w y A = refl
node_rows w y B = refl

module _ {C : Type 0} (behaviour : Behaviour C) (i r : ℕ) (fits_i : i < 2 ^ 64) (fits_r : r < 2 ^ 64) (v : World C) (ms : List (Move (List ℕ))) (rs : List Answer) (w : World C)
    (h : Run behaviour v ms rs w) (x : Ties i r v) (f : Followed behaviour i r fits_i fits_r v ms rs w h x) where
  abbrev K : Coding
  K = coding i r fits_i fits_r

  -- what is not in a node is not in the book
  absent : (s : Side) (k : ℕ) → lookup (node_at s (image w f.ties)).rows k ≡ None → row_of s w k ≡ None
  absent s k e = row_gone (at s w).shelf.rows k (sym (ap (λ ls. lookup ls k) (node_rows w f.ties s)) ∙ e)

  present : (s : Side) (k : ℕ) (t : St) (z : Sa) → lookup (node_at s (image w f.ties)).rows k ≡ Some (live t z) → InBook s k z.peer w
  present s k t z e =
      let p = row_live (at s w).shelf.rows k t z (sym (ap (λ ls. lookup ls k) (node_rows w f.ties s)) ∙ e) in
      (p.row, p.is, ap (λ (y : Sa). y.peer) p.sa)

  succession :
      (s : Side) →
      Succeeds (λ (u : line.World C). node_at s u) (λ (u : line.World C). node_at (other s) u) (first_across s) s (other s)
      (λ F. line_history.ever K behaviour.meaning F (image v x) (moves_of ms) (answers_of rs) (image w f.ties) f.run)
      (line_history.GivenUpBy (moves_of ms) (answers_of rs)) (image w f.ties) →
      Succession s (λ F. ever behaviour F v ms rs w h) (GivenUpBy ms rs) w
  succession s S =
      record {
        rekeyed = λ own y e k.
            let p = S.old_gone own (sa_of y) (f.to s own y e) (heir_of y k) in
            record { here = absent s y.parent.own p.0; there = absent (other s) y.parent.peer p.1 };
        once = λ own two y t e g k one.
            S.one own two (sa_of y) (sa_of t) (f.to s own y e) (f.to s two t g) (heir_of y k) (heir_of t (λ z. k (one ∙ z))) one;
        loser = λ own j y t e g l.
            let p = S.loser_gone own j (sa_of y) (sa_of t) (f.to s own y e) (f.to (other s) j t g) (loses_to s y t l) in
            record { here = absent s own p.0; there = absent (other s) y.peer p.1 };
        successor = λ own y e beat mine theirs.
            let p =
            S.successor own (sa_of y) (f.to s own y e)
            (λ j z g l.
            let q = f.back (other s) j z g in
            beat j q.0 q.1 (loses_back s y q.0 (subst (invariant.Loses (first_across s) (sa_of y)) (sym q.2) l)))
            (λ g. mine (given_up behaviour v ms rs w s own h g)) (λ g. theirs (given_up behaviour v ms rs w (other s) y.peer h g))
            in
            record {
              here = present s own p.0.0 (sa_of y) p.0.1;
              there = present (other s) y.peer p.1.0 (mirror own (sa_of y)) p.1.1;
            };
      }

-- of both sides
both : (F : Side → Type 0) → F A → F B → (s : Side) → F s
both F a b A = a
both F a b B = b

module _ {C : Type 0} (behaviour : Behaviour C) (sound : (c : C) → Sound (behaviour.meaning c)) where
  -- the law at the last moment
  law_at : (v : World C) (ms : List (Move (List ℕ))) (rs : List Answer) (w : World C) (h : Run behaviour v ms rs w) → Start behaviour v → Law behaviour v ms rs w h
  law_at v ms rs w h s =
      let m = s.making in
      let i = m.initiator in
      let r = m.responder in
      let fits_i = s.fit.initiator in
      let fits_r = s.fit.responder in
      let K = coding i r fits_i fits_r in
      let x : Ties i r v = record {
        said_a = None;
        busy_a = idle;
        said_b = None;
        busy_b = idle;
        tied_a = subst (λ e. Tied e None idle) (sym s.a) (made_tied m A s.most_a s.fit);
        tied_b = subst (λ e. Tied e None idle) (sym s.b) (made_tied m B s.most_b s.fit);
        named_a = subst (Named i r A) (sym s.a) (made_named m A s.most_a);
        named_b = subst (Named i r B) (sym s.b) (made_named m B s.most_b);
      } in
      let start : line.Start K behaviour.meaning (image v x) = record {
        id_a = m.a.id;
        id_b = m.b.id;
        within_a = omega (arith, s.fit.id_a);
        within_b = omega (arith, s.fit.id_b);
        spi_a = m.a.spi;
        spi_b = m.b.spi;
        room_a = omega (arith, s.fit.spi_a);
        room_b = omega (arith, s.fit.spi_b);
        least_a = s.fit.least_a;
        least_b = s.fit.least_b;
        a_made = ap (λ e. node e None idle) s.a;
        b_made = ap (λ e. node e None idle) s.b;
        clean = s.clean;
      } in
      let f : Followed behaviour i r fits_i fits_r v ms rs w h x =
      follow behaviour i r fits_i fits_r (image v x ∷ []) v ms rs w h x (starts K behaviour.meaning (λ s k. Unit {0}) (image v x) start)
      in
      let l = law_of K 160 (short i r fits_i fits_r) behaviour.meaning (image v x) (moves_of ms) (answers_of rs) (image w f.ties) f.run start in
      let quiet : Quiet w → line_law.Quiet (image w f.ties) =
      λ q. record {
        a = idle_of w.a w.a.outstanding f.ties.busy_a f.ties.tied_a.out q.a;
        b = idle_of w.b w.b.outstanding f.ties.busy_b f.ties.tied_b.out q.b;
      } in
      record {
        mirrors = λ q. both (λ t. Mirrored t w)
            (mirrored w.a.shelf.rows w.b.shelf.rows (l.mirrors.a_in_b (quiet q).a (quiet q).b))
            (mirrored w.b.shelf.rows w.a.shelf.rows (l.mirrors.b_in_a (quiet q).a (quiet q).b));
        succession = λ q. both (λ t. Succession t (λ F. ever behaviour F v ms rs w h) (GivenUpBy ms rs) w)
            (succession behaviour i r fits_i fits_r v ms rs w h x f A (l.made_by_a (quiet q)))
            (succession behaviour i r fits_i fits_r v ms rs w h x f B (l.made_by_b (quiet q)));
        rest = λ deep calm n.
            let z =
            l.rest (sound v.channel) (record { deep = deep.deep; long = deep.long }) (none_resent behaviour v ms rs w h calm)
            (subst (λ t. 8 ≤ t) (sym (ap (λ (t : line_rest.Tally). t.rounds) (tally_alike behaviour v ms rs w (record { rounds = 0; half = false }) h))) n)
            in
            record {
              a = none_of w.a w.a.outstanding f.ties.busy_a f.ties.tied_a.out z.a;
              b = none_of w.b w.b.outstanding f.ties.busy_b f.ties.tied_b.out z.b;
            };
      }

  pub lawful : (v : World C) (ms : List (Move (List ℕ))) (rs : List Answer) (w : World C) → Run behaviour v ms rs w → Lawful behaviour v ms rs w
  lawful v ms rs w h =
      record { run = h; law = λ s n. let f = front behaviour n v ms rs w h in law_at v _ _ f.world f.run s }

-- one run after another
pub run_append :
    {C : Type 0} (behaviour : Behaviour C) (v u w : World C) (ms ns : List (Move (List ℕ))) (rs ss : List Answer) → Run behaviour v ms rs u →
    Run behaviour u ns ss w → Run behaviour v (ms ++ ns) (rs ++ ss) w
run_append behaviour v u w [] ns [] ss h k = subst (λ x. Run behaviour x ns ss w) (sym h) k
run_append behaviour v u w [] ns (r ∷ rs) ss h k = absurd h
run_append behaviour v u w (m ∷ ms) ns [] ss h k = absurd h
run_append behaviour v u w (m ∷ ms) ns (r ∷ rs) ss h k = (h.0, h.1, run_append behaviour h.0 u w ms ns rs ss h.2 k)

pub goes_on :
    {C : Type 0} (behaviour : Behaviour C) → ((c : C) → Sound (behaviour.meaning c)) → (u : World C) (ms : List (Move (List ℕ))) (rs : List Answer) (w : World C) →
    Run behaviour u ms rs w → GoesOn behaviour u ms rs w
goes_on behaviour sound u ms rs w h v before said k =
    lawful behaviour sound v (before ++ ms) (said ++ rs) w (run_append behaviour v u w before ms said rs k h)

-- Asks and settles of nodes are those of ends.
use Rattle.std.proofs.Common.{◌≡◌, ℕ, suc, Bool, true, false, ◌⊎◌, List, Some, None, Option, sym, refl, subst, subst₂, inl, arith}
use mathlib.Core.Path.{fun_ext}
use Rattle.protocol.specs.Model.{Nonce, fresh, standing, superseded, closing, Sa, Seed, Cell, opening, live, Book, put, Coll, alone, met, Ask, create, rekey, delete, check, Reply, made, no_such, refused, done, Why, given_up, lost, mark, loses, grown, plain, Link, quiet, sent, answered, End, with_both, Asks, ask_check, ask_create, ask_rekey, ask_delete, Settles, settle_check, settle_delete, settle_create, create_refused, rekey_refused, rekey_no_such, rekey_lost, rekey_won, rekey_won_gone}
use Rattle.protocol.specs.Invariant.{Own, LinkOwned}
use Rattle.protocol.specs.Rows.{Line, lookup, insert, remove, ordered}
use Rattle.protocol.specs.Node.{stored, Out, idle, asked, Node, link_of, Ghost, end_of, InStep, sending}
use Rattle.protocol.proofs.Rows.{lookup_insert, lookup_remove, ordered_remove}
use Rattle.line.specs.Calls.{Want, to_create, to_rekey, to_delete, to_check, names, quieted, seed_of, rekeying, deleting, if_standing, ask_quiet, if_idle, ask, settle_won, settle_made, settle}
use Rattle.line.specs.Line.{fits, FitReply}
use Rattle.line.specs.Ghosts.{Learnt}

pub standing_row :
    (x : ℕ) (f : Sa → Node) (P' : Node) (c : Option Cell)
    → if_standing f c ≡ Some P'
    → (a : Sa) × (c ≡ Some (live standing a)) × (P' ≡ f a)
standing_row x f P' None e = absurd (let z : ◌≡◌ {A = ℕ} 0 1 = cc in omega arith)
standing_row x f P' (Some (opening d)) e = absurd (let z : ◌≡◌ {A = ℕ} 0 1 = cc in omega arith)
standing_row x f P' (Some (live fresh a)) e = absurd (let z : ◌≡◌ {A = ℕ} 0 1 = cc in omega arith)
standing_row x f P' (Some (live standing a)) e = (a, refl, cc)
standing_row x f P' (Some (live superseded a)) e = absurd (let z : ◌≡◌ {A = ℕ} 0 1 = cc in omega arith)
standing_row x f P' (Some (live closing a)) e = absurd (let z : ◌≡◌ {A = ℕ} 0 1 = cc in omega arith)

module _ (γ : Ghost) (P Q : Node) (steps : InStep P Q) where
  -- after a request is sent
  now_sent : (a : Ask) (rs : List Line) (s : ℕ) → P.out ≡ idle → link_of (sending P a rs s) Q ≡ sent a
  now_sent a rs s e = grind arith

  was_quiet : P.out ≡ idle → link_of P Q ≡ quiet
  was_quiet e = grind arith

  abbrev E : End
  E = end_of γ P Q

  -- the new end, by its book and link
  sends :
      (a : Ask) (rs : List Line) (s : ℕ) (g : ℕ → Why) (b : Book)
      → P.out ≡ idle
      → ((j : ℕ) → lookup rs j ≡ b j)
      → Asks E (record { first = P.first; book = b; spi = s; link = sent a; born_here = γ.born_here; given = g })
      → Asks E (record { first = P.first; book = lookup rs; spi = s; link = link_of (sending P a rs s) Q; born_here = γ.born_here; given = g })
  sends a rs s g b e p =
      subst₂ (λ (l : Link) (c : Book). Asks E (record { first = P.first; book = c; spi = s; link = l; born_here = γ.born_here; given = g }))
      (sym (now_sent a rs s e))
      (fun_ext (λ j. sym (p j)))

  abbrev with_given : (ℕ → Why) → Ghost
  with_given x = record { born_here = γ.born_here; given = x }

  learns : (named : ℕ → Type 0) (x : ℕ → Why) (P' : Node) → ((k : ℕ) → x k ≡ given_up → (γ.given k ≡ given_up) ⊎ named k) → Learnt named γ (with_given x) P'
  learns named x P' h = record { keeps = λ k s e. e; only = λ k s e. inl e; gave = h }

  marked : (x k : ℕ) → mark γ.given x given_up k ≡ given_up → (γ.given k ≡ given_up) ⊎ (x ≡ k)
  marked x k e = grind arith

  -- what P has asked for, as the model has it, and what it has given up by it
  pub record AsksAs (w : Want) (P' : Node) : Type 0 where
    pub ghost : Ghost
    pub asks : Asks E (end_of ghost P' Q)
    pub learnt : Learnt (names w) γ ghost P'

  quiet_asks : P.out ≡ idle → (w : Want) (P' : Node) → ask_quiet P w ≡ Some P' → AsksAs w P'
  quiet_asks o (to_create n) P' e =
      let q : sending P (create P.spi (plain n)) (insert P.spi (opening (plain n)) P.rows) (suc P.spi) ≡ P' = cc in
      record {
        ghost = with_given γ.given;
        asks = subst (λ (x : Node). Asks E (end_of (with_given γ.given) x Q)) q
            (sends _ _ _ γ.given _ o (lookup_insert P.spi (opening (plain n)) P.rows) (ask_create n (was_quiet o)));
        learnt = learns _ _ _ (λ k h. inl h);
      }
  quiet_asks o (to_rekey x n) P' e =
      let r = standing_row x (rekeying P x n) P' (lookup P.rows x) e in
      let d = seed_of x r.0.peer n in
      record {
        ghost = with_given (mark γ.given x given_up);
        asks = subst (λ (y : Node). Asks E (end_of (with_given (mark γ.given x given_up)) y Q)) (sym r.2)
            (sends _ _ _ (mark γ.given x given_up) _ o (lookup_insert P.spi (opening d) P.rows) (ask_rekey x r.0 d (was_quiet o) r.1 refl refl refl));
        learnt = learns _ _ _ (marked x);
      }
  quiet_asks o (to_delete x) P' e =
      let r = standing_row x (deleting P x) P' (lookup P.rows x) e in
      record {
        ghost = with_given (mark γ.given x given_up);
        asks = subst (λ (y : Node). Asks E (end_of (with_given (mark γ.given x given_up)) y Q)) (sym r.2)
            (sends _ _ _ (mark γ.given x given_up) _ o (lookup_insert x (live closing r.0) P.rows) (ask_delete x r.0 (was_quiet o) r.1));
        learnt = learns _ _ _ (marked x);
      }
  quiet_asks o to_check P' e =
      let q : sending P check P.rows P.spi ≡ P' = cc in
      record {
        ghost = with_given γ.given;
        asks = subst (λ (x : Node). Asks E (end_of (with_given γ.given) x Q)) q (sends _ _ _ γ.given _ o (λ j. refl) (ask_check (was_quiet o)));
        learnt = learns _ _ _ (λ k h. inl h);
      }

  -- an ask that is taken is one of the model's
  pub asks_as : (w : Want) (P' : Node) → ask P w ≡ Some P' → AsksAs w P'
  asks_as w P' e = by P.out refl e
    where
      by : (o : Out) → P.out ≡ o → if_idle o (ask_quiet P w) ≡ Some P' → AsksAs w P'
      by idle o e = quiet_asks o w P' e
      by (asked i a) o e = absurd (let z : ◌≡◌ {A = ℕ} 0 1 = cc in omega arith)

-- P settles a with the reply of Q
module _ (γ : Ghost) (P Q : Node) (i : ℕ) (steps : InStep P Q) (asc : ordered P.rows) (now : Q.exp ≡ suc i) where
  abbrev F : End
  F = end_of γ P Q

  pub answered_link : (a : Ask) → P.out ≡ asked i a → link_of P Q ≡ answered a (stored Q.reply)
  answered_link a o = grind arith

  next_link : (a b : Ask) (rs : List Line) (s : ℕ) → P.out ≡ asked i a → link_of (sending P b rs s) Q ≡ sent b
  next_link a b rs s o = grind arith

  quiets :
      (rs : List Line) (b : Book)
      → ((j : ℕ) → lookup rs j ≡ b j)
      → Settles F (with_both F b quiet)
      → Settles F (end_of γ (quieted P rs) Q)
  quiets rs b p = subst (λ (c : Book). Settles F (with_both F c quiet)) (fun_ext (λ j. sym (p j)))

  goes_on :
      (a b : Ask) (rs : List Line) (g : ℕ → Why) (k : Book)
      → P.out ≡ asked i a
      → ((j : ℕ) → lookup rs j ≡ k j)
      → Settles F (record { first = P.first; book = k; spi = P.spi; link = sent b; born_here = γ.born_here; given = g })
      → Settles F (record { first = P.first; book = lookup rs; spi = P.spi; link = link_of (sending P b rs P.spi) Q; born_here = γ.born_here; given = g })
  goes_on a b rs g k o p =
      subst₂ (λ (l : Link) (c : Book). Settles F (record { first = P.first; book = c; spi = P.spi; link = l; born_here = γ.born_here; given = g }))
      (sym (next_link a b rs P.spi o))
      (fun_ext (λ j. sym (p j)))

  removed : (k j : ℕ) → lookup (remove k P.rows) j ≡ put (lookup P.rows) k None j
  removed k j = lookup_remove k P.rows j asc

  removed_two : (k l j : ℕ) → lookup (remove l (remove k P.rows)) j ≡ put (put (lookup P.rows) k None) l None j
  removed_two k l j =
      let x = lookup_remove l (remove k P.rows) j (ordered_remove k P.rows asc) in let y = removed k j in grind arith

  added_two :
      (k l : ℕ) (c e : Cell) (j : ℕ)
      → lookup (insert l e (insert k c P.rows)) j ≡ put (put (lookup P.rows) k (Some c)) l (Some e) j
  added_two k l c e j = let x = lookup_insert l e (insert k c P.rows) j in let y = lookup_insert k c P.rows j in grind arith

  pub record SettlesAs (P' : Node) : Type 0 where
    pub ghost : Ghost
    pub settles : Settles F (end_of ghost P' Q)
    pub learnt : Learnt (λ _. ⊥) γ ghost P'

  plainly : (P' : Node) → Settles F (end_of γ P' Q) → SettlesAs P'
  plainly P' h = record { ghost = γ; settles = h; learnt = record { keeps = λ k s e. e; only = λ k s e. inl e; gave = λ k e. inl e } }

  not_marked : (x j k : ℕ) → mark γ.given x (lost j) k ≡ given_up → γ.given k ≡ given_up
  not_marked x j k e = grind arith

  losing : (P' : Node) (x j : ℕ) → Settles F (end_of (record { born_here = γ.born_here; given = mark γ.given x (lost j) }) P' Q) → SettlesAs P'
  losing P' x j h =
      record {
        ghost = record { born_here = γ.born_here; given = mark γ.given x (lost j) };
        settles = h;
        learnt = record { keeps = λ k s e. e; only = λ k s e. inl e; gave = λ k e. inl (not_marked x j k e) };
      }

  -- no row is opening where the old row should be
  wins :
      (o : ℕ) (d : Seed) (c : Coll) (k : ℕ) (n : Nonce)
      → P.out ≡ asked i (rekey o d c)
      → link_of P Q ≡ answered (rekey o d c) (made k n)
      → loses P.first d n c ≡ false
      → (x : Option Cell)
      → lookup P.rows d.po ≡ x
      → ((e : Seed) → x ≡ Some (opening e) → ⊥)
      → Settles F (end_of γ (settle_won P o d k n x) Q)
  wins o d c k n u w l None e q = quiets _ _ (lookup_insert o (live standing (grown k d n)) P.rows) (rekey_won_gone o d c k n w l e)
  wins o d c k n u w l (Some (opening z)) e q = absurd (q z refl)
  wins o d c k n u w l (Some (live s a)) e q =
      goes_on _ _ _ γ.given _ u (added_two o d.po (live standing (grown k d n)) (live closing a)) (rekey_won o d c k n s a w l e)

  news :
      (o : ℕ) (d : Seed) (c : Coll) (k : ℕ) (n : Nonce)
      → P.out ≡ asked i (rekey o d c)
      → link_of P Q ≡ answered (rekey o d c) (made k n)
      → (v : Bool)
      → loses P.first d n c ≡ v
      → ((e : Seed) → lookup P.rows d.po ≡ Some (opening e) → ⊥)
      → SettlesAs (settle_made P o d c k n v)
  news o d alone k n u w true l q = absurd (let z : ◌≡◌ {A = ℕ} 0 1 = cc in omega arith)
  news o d (met j e f) k n u w true l q =
      losing _ o j (goes_on _ _ _ (mark γ.given o (lost j)) _ u (lookup_insert o (live closing (grown k d n)) P.rows) (rekey_lost o d j e f k n w l))
  news o d c k n u w false l q = plainly _ (wins o d c k n u w l (lookup P.rows d.po) refl q)

  abbrev settled : Ask → Reply → Type 0
  settled a r = SettlesAs (settle P a r)

  abbrev no_opening : Ask → Type 0
  no_opening (create o d) = Unit {0}
  no_opening (rekey o d c) = (e : Seed) → lookup P.rows d.po ≡ Some (opening e) → ⊥
  no_opening (delete x) = Unit {0}
  no_opening check = Unit {0}

  by_reply : (a : Ask) (r : Reply) → P.out ≡ asked i a → link_of P Q ≡ answered a r → FitReply a r → no_opening a → settled a r
  by_reply (create o d) (made k n) u w f q = plainly _ (quiets _ _ (lookup_insert o (live standing (grown k d n)) P.rows) (settle_create o d k n w))
  by_reply (create o d) no_such u w f q = elim f [ ]
  by_reply (create o d) refused u w f q = plainly _ (quiets _ _ (removed o) (create_refused o d w))
  by_reply (create o d) done u w f q = elim f [ ]
  by_reply (rekey o d c) (made k n) u w f q = news o d c k n u w (loses P.first d n c) refl q
  by_reply (rekey o d c) no_such u w f q = plainly _ (quiets _ _ (removed_two o d.po) (rekey_no_such o d c w))
  by_reply (rekey o d c) refused u w f q = plainly _ (quiets _ _ (removed o) (rekey_refused o d c w))
  by_reply (rekey o d c) done u w f q = elim f [ ]
  by_reply (delete x) r u w f q = plainly _ (quiets _ _ (removed x) (settle_delete x r w))
  by_reply check r u w f q = plainly _ (quiets _ _ (λ j. refl) (settle_check r w))

  pub settles_as :
      (a : Ask)
      → P.out ≡ asked i a
      → fits (link_of P Q)
      → Own (end_of γ P Q)
      → SettlesAs (settle P a (stored Q.reply))
  settles_as a u f own =
      let l = answered_link a u in
      let g : fits (answered a (stored Q.reply)) = subst fits l f in
      let w : LinkOwned P.spi (lookup P.rows) (answered a (stored Q.reply)) = subst (LinkOwned P.spi (lookup P.rows)) l own in
      by_reply a (stored Q.reply) u l g.1 (old a w)
    where
      old : (a : Ask) → LinkOwned P.spi (lookup P.rows) (answered a (stored Q.reply)) → no_opening a
      old (create o d) w = tt
      old (rekey o d c) w = λ e h. let x = w.1 in grind arith
      old (delete x) w = tt
      old check w = tt

-- What a response does to an end, it does to its node.
use Rattle.std.proofs.Common.{◌≡◌, ℕ, Bool, true, false, cond, ◌||◌, eqb, ltb, List, [], ◌∷◌, is_some, Some, None, Option, sym, refl, ap, ◌∙◌, subst, arith}
use Rattle.std.proofs.lemmas.Bool.{both_ways, cond_both, cond-true, cond-false, eq-eqb, ne_eqb}
use Rattle.std.proofs.lemmas.Bool.Decides.{nat_tests}
use Rattle.nonce.specs.Nonces.{nonce_long}
use Rattle.nonce.specs.declared.side.Side.{Side}
use Rattle.nonce.specs.declared.side.Side.TheVariants.{A, B}
use Rattle.nonce.specs.Sides.{is_side}
use Rattle.nonce.specs.Spis.{last_reserved, lowest_spi}
use Rattle.book.specs.Rows.{is_opening, kept_octets}
use Rattle.book.specs.Shelves as shelf
use Rattle.book.specs.Shelves.{Shelf, Rising, has}
use Rattle.book.proofs.Firsts.{find_some}
use Rattle.book.proofs.Lookups.{lookup_own, lookup_replace}
use Rattle.book.specs.declared.row.Beginner.TheVariants.{ThisEnd}
use Rattle.book.specs.declared.row.Row.{Row}
use Rattle.book.specs.declared.row.RowState.{RowState}
use Rattle.book.specs.declared.row.RowState.TheVariants as state
use Rattle.wire.specs.declared.message.Failure.TheVariants.{NoProposalChosen, NoAdditionalSas, TemporaryFailure, ChildSaNotFound}
use Rattle.wire.specs.declared.message.Response.{Response}
use Rattle.wire.specs.declared.message.Response.TheVariants as response
use Rattle.protocol.specs.Model as model
use Rattle.protocol.specs.Model.{St, fresh, standing, superseded, closing, Seed, Cell, opening, live, Coll, alone, met, Ask, create, rekey, delete, check, Reply, made, no_such, refused, done, lose, grown}
use Rattle.protocol.specs.Invariant.{OldRow, AskOwned}
use Rattle.protocol.specs.Node.{Out, idle, asked, Node, sending, sense}
use Rattle.protocol.specs.Rows.{Line, lookup, insert, remove, find}
use Rattle.line.specs.Calls.{Coding, quieted, wire, settle, settle_made, settle_won, unless_found, taken_as}
use Rattle.line.specs.Tidy.{Tidy}
use Rattle.law.specs.Asks.{closing as closing_of}
use Rattle.law.specs.Ends.{End, Outstanding, Collision, request_octets}
use Rattle.law.specs.Requests.{row_at}
use Rattle.law.specs.Responses as responses
use Rattle.law.specs.Responses.{Settled, rests, goes_on, counted, dropped, new_settled, won, create_settled, rekey_settled, settled_by, settled}
use Rattle.law.specs.Rows.{in_state, made_row, rewritten, without}
use Rattle.law.proofs.Asking.{kept_back, write_new, lines_rewritten, rising_rewritten, below_rewritten, begun_rewritten}
use Rattle.law.proofs.Cells.{seed_of, sa_of, cell_by, cell_in, lines, lines_lookup, lines_find, found_by, found_as}
use Rattle.law.proofs.Dropping.{lines_without, rising_without, below_without, begun_without}
use Rattle.law.proofs.Tied.{is_a, node, CollTied, AskTied, OutTied, Tied, SameName, Below, Begun, BegunBy, RowBegun, all_lookup}

-- what goes out with a response: nothing, or the request that the end has then
abbrev pub Said : End → Out → Option (List ℕ) → Type 0
Said e idle None = Unit {0}
Said e idle (Some s) = ⊥
Said e (asked j b) None = ⊥
Said e (asked j b) (Some s) = s ≡ request_octets e j (wire b)

-- what a reply to the request a of an end is of the node
pub record SettlesAs (e : End) (said : Option (Response (List ℕ))) (i : ℕ) (a : Ask) (q : Reply) (s : Settled) : Type 0 where
  pub after : Out
  pub does : node s.end said after ≡ settle (node e said (asked i a)) a q
  pub says : Said e after s.says
  pub tied : Tied s.end said after
  pub same : SameName e s.end

-- the same of a response, as the end takes it
abbrev pub Settling : End → Option (Response (List ℕ)) → ℕ → Ask → Response (List ℕ) → Settled → Type 0
Settling e said i a r s = SettlesAs e said i a (taken_as (lines e.shelf.rows) (sense r)) s

-- the nonce of a response has the length of one
abbrev pub ResponseFine : Response (List ℕ) → Type 0
ResponseFine (response.NewSa k n) = nonce_long n ≡ true
ResponseFine (response.Failed f) = Unit {0}
ResponseFine (response.Delete k) = Unit {0}
ResponseFine response.Empty = Unit {0}

-- a new SA under an SPI that is reserved, or is the peer's in a row, counts as a refusal
unless_live : (s : RowState) (x : Row) (p : ℕ) (n : List ℕ) → is_opening s ≡ false → refused ≡ unless_found p n (found_by s x)
unless_live state.Opening x p n h = absurd (both_ways true h refl)
unless_live state.Fresh x p n h = refl
unless_live state.Standing x p n h = refl
unless_live state.Superseded x p n h = refl
unless_live state.Closing x p n h = refl

module _ (rs : List Row) (rising : Rising last_reserved rs) (p : ℕ) (n : List ℕ) where
  counted_at :
      (q : Option ℕ) → shelf.find rs p ≡ q →
      sense (cond (is_some q) (response.Failed NoProposalChosen) (response.NewSa p n)) ≡ unless_found p n (found_as (row_at rs q))
  counted_at None e = refl
  counted_at (Some k) e =
      let f = find_some last_reserved rs p k rising e in
      unless_live f.0.state f.0 p n f.3 ∙ sym (ap (λ y. unless_found p n (found_as y)) f.1)

  counted_by :
      (b : Bool) →
      sense (cond (b || is_some (shelf.find rs p)) (response.Failed NoProposalChosen) (response.NewSa p n))
      ≡ cond b refused (unless_found p n (find p (lines rs)))
  counted_by true = refl
  counted_by false = counted_at (shelf.find rs p) refl ∙ sym (ap (unless_found p n) (lines_find last_reserved rs p rising))

counted_as : (rs : List Row) → Rising last_reserved rs → (r : Response (List ℕ)) → sense (counted rs r) ≡ taken_as (lines rs) (sense r)
counted_as rs s (response.NewSa p n) = counted_by rs s p n (ltb p lowest_spi)
counted_as rs s (response.Failed NoProposalChosen) = refl
counted_as rs s (response.Failed NoAdditionalSas) = refl
counted_as rs s (response.Failed TemporaryFailure) = refl
counted_as rs s (response.Failed (ChildSaNotFound x)) = refl
counted_as rs s (response.Delete k) = refl
counted_as rs s response.Empty = refl

counted_fine : (rs : List Row) (r : Response (List ℕ)) → ResponseFine r → ResponseFine (counted rs r)
counted_fine rs (response.NewSa p n) h =
    cond_both (ltb p lowest_spi || is_some (shelf.find rs p)) (response.Failed NoProposalChosen) (response.NewSa p n) ResponseFine (λ t. tt) (λ f. h)
counted_fine rs (response.Failed f) h = tt
counted_fine rs (response.Delete k) h = tt
counted_fine rs response.Empty h = tt

-- whose new SA loses
same_loser :
    (s : Side) (oi or ti tr : List ℕ) → is_side (responses.collision_loser s oi or ti tr) s ≡ lose (is_a s) oi or ti tr
unfolding lose
same_loser A oi or ti tr = refl
same_loser B oi or ti tr = refl

loses_as :
    (s : Side) (r : Row) (n : List ℕ) (o : Option Collision) (c : Coll) → CollTied o c →
    responses.loses s r n o ≡ model.loses (is_a s) (seed_of r) n c
loses_as s r n None alone h = refl
loses_as s r n None (met j i f) h = absurd h
loses_as s r n (Some o) alone h = absurd h
loses_as s r n (Some o) (met j i f) h =
    same_loser s (kept_octets r.ni) n o.initiator o.responder
    ∙ ap (λ y. lose (is_a s) (kept_octets r.ni) n y o.responder) h.0
    ∙ ap (λ y. lose (is_a s) (kept_octets r.ni) n i y) h.1

-- a row that is written twice
insert_twice : (k : ℕ) (c b : Cell) (ls : List Line) → insert k c (insert k b ls) ≡ insert k c ls
insert_twice k c b [] = grind (arith, nat_tests)
insert_twice k c b (l ∷ ls) = let h = insert_twice k c b ls in grind (arith, nat_tests)

-- The two ways in which a response ends: the end is quiet, or it deletes a row.
module _ (e : End) (said : Option (Response (List ℕ))) (i : ℕ) (a : Ask) (t : Tied e said (asked i a)) (q : Reply) where
  rests_settles :
      (s : Shelf) (ls : List Line) → lines s.rows ≡ ls → Rising last_reserved s.rows → Below e.spi s.rows → Begun s.rows →
      quieted (node e said (asked i a)) ls ≡ settle (node e said (asked i a)) a q → SettlesAs e said i a q (rests e s)
  rests_settles s ls l rising below begun h = record {
    after = idle;
    does = ap (quieted (node e said (asked i a))) l ∙ h;
    says = tt;
    tied = record { reply = t.reply; out = tt; rising = rising; below = below; begun = begun; least = t.least };
    same = record { side = refl; initiator = refl; responder = refl };
  }

  closes_settles :
      (s : Shelf) (x : Row) (k : ℕ) (ls : List Line) → x.own ≡ k → has s.rows k ≡ true →
      insert k (live closing (sa_of x)) (lines s.rows) ≡ ls → Rising last_reserved s.rows → Below e.spi s.rows → Begun s.rows →
      sending (node e said (asked i a)) (delete k) ls e.spi ≡ settle (node e said (asked i a)) a q →
      SettlesAs e said i a q (goes_on (closing_of e x s))
  closes_settles s x k ls own here l rising below begun h =
      let y = in_state state.Closing x in
      let present : has s.rows y.own ≡ true = ap (has s.rows) own ∙ here in
      let m : lines (rewritten s y).rows ≡ ls =
      lines_rewritten s y rising present ∙ ap (λ j. insert j (live closing (sa_of x)) (lines s.rows)) own ∙ l
      in
      let w = ap (λ j. request_octets e e.next (wire (delete j))) own in
      record {
        after = asked e.next (delete k);
        does = ap (λ z. sending (node e said (asked i a)) (delete k) z e.spi) m ∙ h;
        says = w;
        tied = record {
          reply = t.reply;
          out = (refl, (refl, own), w);
          rising = rising_rewritten s y rising present;
          below = below_rewritten s y rising present e.spi below;
          begun = begun_rewritten s y rising present tt begun;
          least = t.least;
        };
        same = record { side = refl; initiator = refl; responder = refl };
      }

  -- the row of the request is dropped
  dropped_settles :
      (o : Outstanding) (k : ℕ) → o.own ≡ k →
      quieted (node e said (asked i a)) (remove k (lines e.shelf.rows)) ≡ settle (node e said (asked i a)) a q →
      SettlesAs e said i a q (dropped e o)
  dropped_settles o k own h =
      rests_settles (without e.shelf o.own) _ (lines_without e.shelf o.own ∙ ap (λ j. remove j (lines e.shelf.rows)) own)
      (rising_without e.shelf o.own t.rising) (below_without e.shelf o.own e.spi t.below)
      (begun_without e.shelf o.own t.begun) h

-- the Opening row of the outstanding request, with its seed
record Opened (e : End) (k : ℕ) (d : Seed) : Type 0 where
  row : Row
  here : shelf.lookup e.shelf.rows k ≡ Some row
  own : row.own ≡ k
  began : row.began ≡ ThisEnd
  seed : seed_of row ≡ d

opened_by :
    (s : RowState) (r : Row) (d : Seed) → Some (cell_by s r) ≡ Some (opening d) → BegunBy s r.began →
    (r.began ≡ ThisEnd) × (seed_of r ≡ d)
opened_by state.Opening r d h b = (b, cc)
opened_by state.Fresh r d h b = let z : ◌≡◌ {A = ℕ} 0 1 = cc in absurd (omega arith)
opened_by state.Standing r d h b = let z : ◌≡◌ {A = ℕ} 0 1 = cc in absurd (omega arith)
opened_by state.Superseded r d h b = let z : ◌≡◌ {A = ℕ} 0 1 = cc in absurd (omega arith)
opened_by state.Closing r d h b = let z : ◌≡◌ {A = ℕ} 0 1 = cc in absurd (omega arith)

opened_at :
    (e : End) (k : ℕ) (d : Seed) (f : Option Row) → Begun e.shelf.rows → shelf.lookup e.shelf.rows k ≡ f →
    cell_in f ≡ Some (opening d) → Opened e k d
opened_at e k d None b h c = let z : ◌≡◌ {A = ℕ} 0 1 = cc in absurd (omega arith)
opened_at e k d (Some r) b h c =
    let y = opened_by r.state r d c (all_lookup RowBegun e.shelf.rows k r b h) in
    record { row = r; here = h; own = lookup_own e.shelf.rows k r h; began = y.0; seed = y.1 }

opened : (e : End) (k : ℕ) (d : Seed) → Begun e.shelf.rows → lookup (lines e.shelf.rows) k ≡ Some (opening d) → Opened e k d
opened e k d b h = opened_at e k d (shelf.lookup e.shelf.rows k) b refl (sym (lines_lookup e.shelf.rows k) ∙ h)

-- The peer has made the SA, under its SPI p and with its nonce n: the row stands.
module _ (e : End) (k : ℕ) (d : Seed) (w : Opened e k d) (rising : Rising last_reserved e.shelf.rows) (p : ℕ) (n : List ℕ) (fine : nonce_long n ≡ true) where
  abbrev new : Row
  new = made_row p n w.row

  new_sa : sa_of new ≡ grown p d n
  new_sa = rw (w.began, kept_back n fine) (ap (λ y. grown p y n) w.seed)

  there : has e.shelf.rows new.own ≡ true
  there = ap is_some (ap (shelf.lookup e.shelf.rows) w.own ∙ w.here)

  abbrev filed : Shelf
  filed = rewritten e.shelf new

  filed_lines : lines filed.rows ≡ insert k (live standing (grown p d n)) (lines e.shelf.rows)
  filed_lines =
      lines_rewritten e.shelf new rising there ∙ ap (λ j. insert j (live standing (sa_of new)) (lines e.shelf.rows)) w.own
      ∙ ap (λ y. insert k (live standing y) (lines e.shelf.rows)) new_sa

  filed_rising : Rising last_reserved filed.rows
  filed_rising = rising_rewritten e.shelf new rising there

  filed_below : Below e.spi e.shelf.rows → Below e.spi filed.rows
  filed_below b = below_rewritten e.shelf new rising there e.spi b

  filed_begun : Begun e.shelf.rows → Begun filed.rows
  filed_begun b = begun_rewritten e.shelf new rising there tt b

  filed_lookup : (j : ℕ) → shelf.lookup filed.rows j ≡ cond (eqb k j) (Some new) (shelf.lookup e.shelf.rows j)
  filed_lookup j =
      ap (λ y. shelf.lookup y.rows j) (write_new e.shelf new rising there) ∙ lookup_replace e.shelf.rows new j there
      ∙ ap (λ y. cond (eqb y j) (Some new) (shelf.lookup e.shelf.rows j)) w.own

  filed_here : has filed.rows k ≡ true
  filed_here = ap is_some (filed_lookup k ∙ cond-true (eqb k k) _ _ (eq-eqb k k refl))

  filed_others : (j : ℕ) → (k ≡ j → ⊥) → shelf.lookup filed.rows j ≡ shelf.lookup e.shelf.rows j
  filed_others j h = filed_lookup j ∙ cond-false (eqb k j) _ _ (ne_eqb k j h)

-- how a response ends that way: the end is quiet, or it deletes the row x
module _ (e : End) (said : Option (Response (List ℕ))) (i : ℕ) (a : Ask) (t : Tied e said (asked i a)) (q : Reply) (k : ℕ) (d : Seed) (w : Opened e k d) (p : ℕ) (n : List ℕ) (fine : nonce_long n ≡ true) where
  filed_rests :
      quieted (node e said (asked i a)) (insert k (live standing (grown p d n)) (lines e.shelf.rows)) ≡ settle (node e said (asked i a)) a q →
      SettlesAs e said i a q (rests e (filed e k d w t.rising p n fine))
  filed_rests h =
      rests_settles e said i a t q (filed e k d w t.rising p n fine) _ (filed_lines e k d w t.rising p n fine)
      (filed_rising e k d w t.rising p n fine) (filed_below e k d w t.rising p n fine t.below)
      (filed_begun e k d w t.rising p n fine t.begun) h

  filed_closes :
      (x : Row) (j : ℕ) (ls : List Line) → x.own ≡ j → has (filed e k d w t.rising p n fine).rows j ≡ true →
      insert j (live closing (sa_of x)) (insert k (live standing (grown p d n)) (lines e.shelf.rows)) ≡ ls →
      sending (node e said (asked i a)) (delete j) ls e.spi ≡ settle (node e said (asked i a)) a q →
      SettlesAs e said i a q (goes_on (closing_of e x (filed e k d w t.rising p n fine)))
  filed_closes x j ls own here l h =
      closes_settles e said i a t q (filed e k d w t.rising p n fine) x j ls own here
      (ap (insert j (live closing (sa_of x))) (filed_lines e k d w t.rising p n fine) ∙ l)
      (filed_rising e k d w t.rising p n fine) (filed_below e k d w t.rising p n fine t.below)
      (filed_begun e k d w t.rising p n fine t.begun) h

-- a create
module _ (e : End) (said : Option (Response (List ℕ))) (i k : ℕ) (d : Seed) (t : Tied e said (asked i (create k d))) (o : Outstanding) (own : o.own ≡ k) (w : Opened e k d) where
  create_settles :
      (r : Response (List ℕ)) → ResponseFine r → SettlesAs e said i (create k d) (sense r) (create_settled e o r)
  create_settles (response.NewSa p n) fine =
      subst (λ f. SettlesAs e said i (create k d) (made p n) (responses.create_made e p n f))
      (sym (ap (shelf.lookup e.shelf.rows) own ∙ w.here))
      (filed_rests e said i (create k d) t (made p n) k d w p n fine refl)
  create_settles (response.Failed NoProposalChosen) fine = dropped_settles e said i (create k d) t refused o k own refl
  create_settles (response.Failed NoAdditionalSas) fine = dropped_settles e said i (create k d) t refused o k own refl
  create_settles (response.Failed TemporaryFailure) fine = dropped_settles e said i (create k d) t refused o k own refl
  create_settles (response.Failed (ChildSaNotFound x)) fine = dropped_settles e said i (create k d) t no_such o k own refl
  create_settles (response.Delete x) fine = dropped_settles e said i (create k d) t done o k own refl
  create_settles response.Empty fine = dropped_settles e said i (create k d) t done o k own refl

-- the old row of a rekey is not Opening
old_live : (s : RowState) (x : Row) (d : Seed) → OldRow d (Some (cell_by s x)) → (st : St) × (cell_by s x ≡ live st (sa_of x))
old_live state.Opening x d h = absurd h
old_live state.Fresh x d h = (fresh, refl)
old_live state.Standing x d h = (standing, refl)
old_live state.Superseded x d h = (superseded, refl)
old_live state.Closing x d h = (closing, refl)

-- a rekey
module _ (e : End) (said : Option (Response (List ℕ))) (i k : ℕ) (d : Seed) (c : Coll) (t : Tied e said (asked i (rekey k d c))) (o : Outstanding) (ties : AskTied o (rekey k d c)) (w : Opened e k d) (apart : k ≡ d.po → ⊥) (old : OldRow d (lookup (lines e.shelf.rows) d.po)) where
  -- the peer has made the new SA
  module _ (p : ℕ) (n : List ℕ) (fine : nonce_long n ≡ true) where
    abbrev now_new : Row
    now_new = new e k d w t.rising p n fine

    abbrev now_filed : Shelf
    now_filed = filed e k d w t.rising p n fine

    -- what the node does, by who loses
    abbrev now_settled : Bool → Node
    now_settled b = settle_made (node e said (asked i (rekey k d c))) k d c p n b

    -- the old row is deleted if it is still there
    won_settles :
        (f : Option Row) → shelf.lookup e.shelf.rows d.po ≡ f → now_settled false ≡ now_settled (model.loses (is_a e.side) d n c) →
        SettlesAs e said i (rekey k d c) (made p n) (won e now_filed f)
    won_settles None h l =
        let at : None ≡ lookup (lines e.shelf.rows) d.po = sym (lines_lookup e.shelf.rows d.po ∙ ap cell_in h) in
        filed_rests e said i (rekey k d c) t (made p n) k d w p n fine
        (ap (settle_won (node e said (asked i (rekey k d c))) k d p n) at ∙ l)
    won_settles (Some x) h l =
        let y = lines_lookup e.shelf.rows d.po ∙ ap cell_in h in
        let z = old_live x.state x d (subst (OldRow d) y old) in
        let at : Some (live z.0 (sa_of x)) ≡ lookup (lines e.shelf.rows) d.po = sym (y ∙ ap (λ v. Some v) z.1) in
        filed_closes e said i (rekey k d c) t (made p n) k d w p n fine x d.po _ (lookup_own e.shelf.rows d.po x h)
        (ap is_some (filed_others e k d w t.rising p n fine d.po apart ∙ h)) refl
        (ap (settle_won (node e said (asked i (rekey k d c))) k d p n) at ∙ l)

    -- the new row is deleted
    lost_settles :
        now_settled true ≡ now_settled (model.loses (is_a e.side) d n c) →
        SettlesAs e said i (rekey k d c) (made p n) (goes_on (closing_of e now_new now_filed))
    lost_settles l =
        filed_closes e said i (rekey k d c) t (made p n) k d w p n fine now_new k _ w.own (filed_here e k d w t.rising p n fine)
        (insert_twice k (live closing (sa_of now_new)) (live standing (grown p d n)) (lines e.shelf.rows)
        ∙ ap (λ y. insert k (live closing y) (lines e.shelf.rows)) (new_sa e k d w t.rising p n fine)) l

    made_settles :
        (b : Bool) → b ≡ model.loses (is_a e.side) d n c →
        SettlesAs e said i (rekey k d c) (made p n) (new_settled e o b now_new now_filed)
    made_settles true l = lost_settles (ap now_settled l)
    made_settles false l =
        let same : shelf.lookup now_filed.rows o.old ≡ shelf.lookup e.shelf.rows d.po =
        ap (shelf.lookup now_filed.rows) ties.2 ∙ filed_others e k d w t.rising p n fine d.po apart
        in
        rw same (won_settles (shelf.lookup e.shelf.rows d.po) refl (ap now_settled l))

  -- there is no such SA: both rows go
  gone_settles :
      SettlesAs e said i (rekey k d c) no_such (rests e (without (without e.shelf o.own) o.old))
  gone_settles =
      let less = without e.shelf o.own in
      rests_settles e said i (rekey k d c) t no_such (without less o.old) (remove d.po (remove k (lines e.shelf.rows)))
      (lines_without less o.old ∙ ap (remove o.old) (lines_without e.shelf o.own) ∙ ap (λ j. remove o.old (remove j (lines e.shelf.rows))) ties.1
      ∙ ap (λ j. remove j (remove k (lines e.shelf.rows))) ties.2)
      (rising_without less o.old (rising_without e.shelf o.own t.rising))
      (below_without less o.old e.spi (below_without e.shelf o.own e.spi t.below))
      (begun_without less o.old (begun_without e.shelf o.own t.begun)) refl

  rekey_settles :
      (r : Response (List ℕ)) → ResponseFine r → SettlesAs e said i (rekey k d c) (sense r) (rekey_settled e o r)
  rekey_settles (response.NewSa p n) fine =
      subst (λ f. SettlesAs e said i (rekey k d c) (made p n) (responses.rekey_made e o p n f))
      (sym (ap (shelf.lookup e.shelf.rows) ties.1 ∙ w.here))
      (made_settles p n fine (responses.loses e.side w.row n o.collision)
      (loses_as e.side w.row n o.collision c ties.3 ∙ ap (λ y. model.loses (is_a e.side) y n c) w.seed))
  rekey_settles (response.Failed NoProposalChosen) fine = dropped_settles e said i (rekey k d c) t refused o k ties.1 refl
  rekey_settles (response.Failed NoAdditionalSas) fine = dropped_settles e said i (rekey k d c) t refused o k ties.1 refl
  rekey_settles (response.Failed TemporaryFailure) fine = dropped_settles e said i (rekey k d c) t refused o k ties.1 refl
  rekey_settles (response.Failed (ChildSaNotFound x)) fine = gone_settles
  rekey_settles (response.Delete x) fine = dropped_settles e said i (rekey k d c) t done o k ties.1 refl
  rekey_settles response.Empty fine = dropped_settles e said i (rekey k d c) t done o k ties.1 refl

-- the own row of a rekey is Opening, and the old one is not
old_apart : (b : ℕ → Option Cell) (k : ℕ) (d : Seed) → b k ≡ Some (opening d) → OldRow d (b d.po) → k ≡ d.po → ⊥
old_apart b k d h old same = subst (OldRow d) (ap b (sym same) ∙ h) old

-- a response that counts as it is
settles_ask :
    (e : End) (said : Option (Response (List ℕ))) (i : ℕ) (a : Ask) (o : Outstanding) (r : Response (List ℕ)) → Tied e said (asked i a) →
    AskTied o a → AskOwned e.spi (lookup (lines e.shelf.rows)) a → ResponseFine r →
    SettlesAs e said i a (sense r) (settled_by e o o.kind r)
settles_ask e said i (create k d) o r t ties h fine =
    subst (λ y. SettlesAs e said i (create k d) (sense r) (settled_by e o y r)) (sym ties.0)
    (create_settles e said i k d t o ties.1 (opened e k d t.begun h.0) r fine)
settles_ask e said i (rekey k d c) o r t ties h fine =
    subst (λ y. SettlesAs e said i (rekey k d c) (sense r) (settled_by e o y r)) (sym ties.0)
    (rekey_settles e said i k d c t o ties (opened e k d t.begun h.0)
    (old_apart (lookup (lines e.shelf.rows)) k d h.0 h.1) h.1 r fine)
settles_ask e said i (delete x) o r t ties h fine =
    subst (λ y. SettlesAs e said i (delete x) (sense r) (settled_by e o y r)) (sym ties.0)
    (dropped_settles e said i (delete x) t (sense r) o x ties.1 refl)
settles_ask e said i check o r t ties h fine =
    subst (λ y. SettlesAs e said i check (sense r) (settled_by e o y r)) (sym ties)
    (rests_settles e said i check t (sense r) e.shelf _ refl t.rising t.below t.begun refl)

-- the response to the outstanding request
pub settles :
    (K : Coding) (e : End) (said : Option (Response (List ℕ))) (i : ℕ) (a : Ask) (o : Outstanding) (r : Response (List ℕ)) →
    e.outstanding ≡ Some o → Tied e said (asked i a) → Tidy K (node e said (asked i a)) → ResponseFine r →
    Settling e said i a r (settled e o r)
unfolding settled
settles K e said i a o r h t tidy fine =
    subst (λ q. SettlesAs e said i a q (settled_by e o o.kind (counted e.shelf.rows r)))
    (counted_as e.shelf.rows t.rising r)
    (settles_ask e said i a o (counted e.shelf.rows r) t (subst (λ y. OutTied e y (asked i a)) h t.out).1 tidy.own
    (counted_fine e.shelf.rows r fine))

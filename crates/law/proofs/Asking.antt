-- An ask of an end is one of its node.
use Rattle.std.proofs.Common.{◌≡◌, ℕ, suc, ◌^◌, ◌<◌, ◌≤◌, Bool, true, false, not, eqb, List, length, is_some, Some, None, Ok, Option, sym, refl, ap, ◌∙◌, subst, arith}
use Rattle.std.proofs.lemmas.Bool.{ne_eqb, not-true, leb-false, both_ways}
use Rattle.std.proofs.lemmas.Bool.Decides.{nat_tests}
use Rattle.nonce.specs.Nonces.{nonce_long}
use Rattle.nonce.specs.Spis.{last_reserved, lowest_spi}
use Rattle.book.specs.Rows.{kept, kept_octets}
use Rattle.book.specs.Shelves as shelf
use Rattle.book.specs.Shelves.{Shelf, Rising, has}
use Rattle.book.proofs.Changes.{put_done, write_done}
use Rattle.book.proofs.Lookups.{lookup_own, rising_insert, rising_replace}
use Rattle.book.proofs.Firsts.{above_start}
use Rattle.line.specs.Calls as calls
use Rattle.book.specs.declared.row.Row.{Row}
use Rattle.book.specs.declared.row.RowState.{RowState}
use Rattle.book.specs.declared.row.RowState.TheVariants as state
use Rattle.wire.specs.declared.message.Response.{Response}
use Rattle.protocol.specs.Model.{Seed, opening, live, standing, closing, Ask, create, rekey, delete, check, alone, plain}
use Rattle.protocol.specs.Node.{idle, asked, sending}
use Rattle.protocol.specs.Rows.{lookup, insert}
use Rattle.line.specs.Calls.{Want, to_create, to_rekey, to_delete, to_check, ask, wire}
use Rattle.law.specs.Ends.{End, Outstanding, is_quiet, is_spent, request_octets}
use Rattle.law.specs.Rows.{none, opening_row, in_state, with_row, rewritten}
use Rattle.law.specs.Asks.{Asked, Doing, where_holds, has_room, create_asked, rekey_asked, delete_asked, check_asked}
use Rattle.law.specs.Ends as after
use Rattle.law.specs.declared.kinds.Kind.TheVariants as kind
use Rattle.wire.specs.declared.message.Request.TheVariants as request
use Rattle.std.proofs.lemmas.List.{take_at}
use Rattle.law.specs.Asks as asks
use Rattle.law.specs.Asks.{by_state, of_row}
use Rattle.calls.specs.declared.refusals.AskRefusal.{AskRefusal}
use Rattle.law.proofs.Cells.{sa_of, cell_of, cell_in, lines, lines_lookup, lines_insert, lines_replace}
use Rattle.law.proofs.Tied.{node, Tied, SameName, Below, RowBegun, Begun, below_absent, below_more, below_insert, below_replace, begun_insert, begun_replace}

-- a nonce in a row is what was put there
pub kept_back : (n : List ℕ) → nonce_long n ≡ true → kept_octets (kept n) ≡ n
kept_back n h = take_at n _ (length n) refl

-- what an accepted ask is of the node: the request goes out under the next ID
pub record Asks (e : End) (said : Option (Response (List ℕ))) (w : Want) (d : Doing) : Type 0 where
  pub request : Ask
  pub quiet : e.outstanding ≡ None
  pub does : ask (node e said idle) w ≡ Some (node d.end said (asked e.next request))
  pub says : d.says ≡ request_octets e e.next (wire request)
  pub tied : Tied d.end said (asked e.next request)
  pub same : SameName e d.end

pub holds : (b : Bool) (f : AskRefusal) (r : Asked) (d : Doing) → where_holds b f r ≡ Ok d → (b ≡ true) × (r ≡ Ok d)
holds true f r d e = (refl, e)
holds false f r d e = let z : ◌≡◌ {A = ℕ} 0 1 = cc in absurd (omega arith)

pub quiet_none : (o : Option Outstanding) → is_quiet o ≡ true → o ≡ None
quiet_none None q = refl
quiet_none (Some o) q = absurd (both_ways false refl q)

unspent : (n : ℕ) → not (is_spent n) ≡ true → n < 2 ^ 32
unspent n h = grind (arith, nat_tests)

-- a check
pub check_asks :
    (e : End) (said : Option (Response (List ℕ))) (d : Doing) → Tied e said idle → check_asked e ≡ Ok d →
    Asks e said to_check d × (e.next < 2 ^ 32)
unfolding check_asked
check_asks e said d t h =
    let p = holds (is_quiet e.outstanding) _ _ d h in
    let q = holds (not (is_spent e.next)) _ _ d p.1 in
    let given : Doing = record {
      end = after.sending e e.shelf e.spi kind.Check 0 0 request.Empty;
      says = request_octets e e.next request.Empty;
    } in
    let z : given ≡ d = cc in (
      subst (λ x. Asks e said to_check x) z
          (record {
            request = check;
            quiet = quiet_none e.outstanding p.0;
            does = refl;
            says = refl;
            tied = record { reply = t.reply; out = (refl, refl, refl); rising = t.rising; below = t.below; begun = t.begun; least = t.least };
            same = record { side = refl; initiator = refl; responder = refl };
          }),
      unspent e.next q.0,
    )

-- a row with the next own SPI
module _ (e : End) (x : Row) (own : x.own ≡ e.spi) (rising : Rising last_reserved e.shelf.rows) (below : Below e.spi e.shelf.rows) (least : lowest_spi ≤ e.spi) (room : has_room e.shelf ≡ true) where
  absent : has e.shelf.rows x.own ≡ false
  absent = rw own (below_absent e.spi e.shelf.rows below)

  put_new : with_row e.shelf x ≡ record { rows = shelf.insert e.shelf.rows x; most = e.shelf.most }
  put_new =
      let l : length e.shelf.rows < e.shelf.most = leb-false _ _ (not-true _ room) in
      ap (λ p. p.1) (put_done e.shelf x (omega (arith, own)) absent l)

  lines_new : lines (with_row e.shelf x).rows ≡ insert e.spi (cell_of x) (lines e.shelf.rows)
  lines_new = ap (λ s. lines s.rows) put_new ∙ lines_insert e.shelf.rows x absent ∙ ap (λ k. insert k (cell_of x) (lines e.shelf.rows)) own

  rising_new : Rising last_reserved (with_row e.shelf x).rows
  rising_new = rw put_new (rising_insert last_reserved e.shelf.rows x (omega (arith, own)) absent rising)

  below_new : Below (suc e.spi) (with_row e.shelf x).rows
  below_new =
      rw put_new
      (below_insert (suc e.spi) e.shelf.rows x (omega (arith, own)) (below_more e.spi (suc e.spi) e.shelf.rows (omega arith) below))

  begun_new : RowBegun x → Begun e.shelf.rows → Begun (with_row e.shelf x).rows
  begun_new h b = rw put_new (begun_insert e.shelf.rows x h b)

-- a create
pub create_asks :
    (e : End) (said : Option (Response (List ℕ))) (n : List ℕ) (d : Doing) → Tied e said idle → create_asked e n ≡ Ok d →
    Asks e said (to_create n) d × (nonce_long n ≡ true) × (e.next < 2 ^ 32) × (e.spi < 2 ^ 32)
unfolding create_asked
create_asks e said n d t h =
    let o = holds (nonce_long n) _ _ d h in
    let p = holds (is_quiet e.outstanding) _ _ d o.1 in
    let q = holds (not (is_spent e.next)) _ _ d p.1 in
    let r = holds (not (is_spent e.spi)) _ _ d q.1 in
    let s = holds (has_room e.shelf) _ _ d r.1 in
    let x = opening_row e.spi none n in
    let given : Doing = record {
      end = after.sending e (with_row e.shelf x) (suc e.spi) kind.Create e.spi 0 (request.Create e.spi n);
      says = request_octets e e.next (request.Create e.spi n);
    } in
    let z : given ≡ d = cc in
    let c : cell_of x ≡ opening (plain n) = ap (λ m. opening (plain m)) (kept_back n o.0) in
    let l : lines (with_row e.shelf x).rows ≡ insert e.spi (opening (plain n)) (lines e.shelf.rows) =
    lines_new e x refl t.rising t.below t.least s.0 ∙ ap (λ y. insert e.spi y (lines e.shelf.rows)) c
    in (
      subst (λ y. Asks e said (to_create n) y) z
          (record {
            request = create e.spi (plain n);
            quiet = quiet_none e.outstanding p.0;
            does = ap (λ ls. Some (sending (node e said idle) (create e.spi (plain n)) ls (suc e.spi))) (sym l);
            says = refl;
            tied = record {
              reply = t.reply;
              out = (refl, (refl, refl), refl);
              rising = rising_new e x refl t.rising t.below t.least s.0;
              below = below_new e x refl t.rising t.below t.least s.0;
              begun = begun_new e x refl t.rising t.below t.least s.0 refl t.begun;
              least = omega (arith, t.least);
            };
            same = record { side = refl; initiator = refl; responder = refl };
          }),
      o.0,
      unspent e.next q.0,
      unspent e.spi r.0,
    )

-- a quiet end has no row of an own request
abbrev pub NotOwn : RowState → Type 0
NotOwn state.Opening = ⊥
NotOwn state.Fresh = Unit {0}
NotOwn state.Standing = Unit {0}
NotOwn state.Superseded = Unit {0}
NotOwn state.Closing = ⊥

-- a row that may be rekeyed or deleted is Standing
standing_only :
    (s : RowState) (r : Asked) (d : Doing) → NotOwn s → by_state s r ≡ Ok d → (s ≡ state.Standing) × (r ≡ Ok d)
standing_only state.Opening r d o e = absurd o
standing_only state.Fresh r d o e = let z : ◌≡◌ {A = ℕ} 0 1 = cc in absurd (omega arith)
standing_only state.Standing r d o e = (refl, e)
standing_only state.Superseded r d o e = let z : ◌≡◌ {A = ℕ} 0 1 = cc in absurd (omega arith)
standing_only state.Closing r d o e = absurd o

of_some :
    (q : Option Row) (f : Row → Asked) (d : Doing) → of_row q f ≡ Ok d →
    (r : Row) × (q ≡ Some r) × (by_state r.state (f r) ≡ Ok d)
of_some (Some r) f d e = (r, refl, e)
of_some None f d e = let z : ◌≡◌ {A = ℕ} 0 1 = cc in absurd (omega arith)

-- the cell of a Standing row
standing_cell : (r : Row) (s : RowState) → r.state ≡ s → s ≡ state.Standing → cell_of r ≡ live standing (sa_of r)
standing_cell r s e f = rw (e, f)

-- a rekey
pub rekey_asks :
    (e : End) (said : Option (Response (List ℕ))) (own : ℕ) (n : List ℕ) (d : Doing) → Tied e said idle →
    ((r : Row) → shelf.lookup e.shelf.rows own ≡ Some r → NotOwn r.state) → rekey_asked e own n ≡ Ok d →
    Asks e said (to_rekey own n) d × (nonce_long n ≡ true) × (suc e.next < 2 ^ 32) × (e.spi < 2 ^ 32)
unfolding rekey_asked
rekey_asks e said own n d t calm h =
    let o = holds (nonce_long n) _ _ d h in
    let p = holds (is_quiet e.outstanding) _ _ d o.1 in
    let q = holds (not (is_spent (suc e.next))) _ _ d p.1 in
    let s = holds (not (is_spent e.spi)) _ _ d q.1 in
    let f = of_some (shelf.lookup e.shelf.rows own) _ d s.1 in
    let r = f.0 in
    let g = standing_only r.state _ d (calm r f.1) f.2 in
    let m = holds (has_room e.shelf) _ _ d g.1 in
    let x = opening_row e.spi (record { own = r.own; peer = r.peer }) n in
    let given : Doing = record {
      end = after.sending e (with_row e.shelf x) (suc e.spi) kind.Rekey e.spi r.own (request.Rekey r.own e.spi n);
      says = request_octets e e.next (request.Rekey r.own e.spi n);
    } in
    let z : given ≡ d = cc in
    let k : r.own ≡ own = lookup_own e.shelf.rows own r f.1 in
    let above : last_reserved < own = above_start last_reserved e.shelf.rows own r t.rising f.1 in
    let seed : Seed = calls.seed_of own r.peer n in
    let nz : eqb own 0 ≡ false = ne_eqb own 0 (λ y. omega arith) in
    let c : cell_of x ≡ opening seed = rw (k, nz, kept_back n o.0) in
    let l : lines (with_row e.shelf x).rows ≡ insert e.spi (opening seed) (lines e.shelf.rows) =
    lines_new e x refl t.rising t.below t.least m.0 ∙ ap (λ y. insert e.spi y (lines e.shelf.rows)) c
    in
    let at : lookup (lines e.shelf.rows) own ≡ Some (live standing (sa_of r)) =
    lines_lookup e.shelf.rows own ∙ ap cell_in f.1 ∙ ap (λ y. Some y) (standing_cell r r.state refl g.0)
    in
    let w = ap (λ y. request_octets e e.next (request.Rekey y e.spi n)) k in (
      subst (λ y. Asks e said (to_rekey own n) y) z
          (record {
            request = rekey e.spi seed alone;
            quiet = quiet_none e.outstanding p.0;
            does =
                ap (λ y. calls.if_standing (calls.rekeying (node e said idle) own n) y) at
                ∙ ap (λ ls. Some (sending (node e said idle) (rekey e.spi seed alone) ls (suc e.spi))) (sym l);
            says = w;
            tied = record {
              reply = t.reply;
              out = (refl, (refl, refl, k, tt), w);
              rising = rising_new e x refl t.rising t.below t.least m.0;
              below = below_new e x refl t.rising t.below t.least m.0;
              begun = begun_new e x refl t.rising t.below t.least m.0 refl t.begun;
              least = omega (arith, t.least);
            };
            same = record { side = refl; initiator = refl; responder = refl };
          }),
      o.0,
      unspent (suc e.next) q.0,
      unspent e.spi s.0,
    )

-- a row that is present is rewritten
module _ (s : Shelf) (x : Row) (rising : Rising last_reserved s.rows) (here : has s.rows x.own ≡ true) where
  pub write_new : rewritten s x ≡ record { rows = shelf.replace s.rows x; most = s.most }
  write_new = ap (λ p. p.1) (write_done s x here)

  pub lines_rewritten : lines (rewritten s x).rows ≡ insert x.own (cell_of x) (lines s.rows)
  lines_rewritten = ap (λ y. lines y.rows) write_new ∙ lines_replace last_reserved s.rows x rising here

  pub rising_rewritten : Rising last_reserved (rewritten s x).rows
  rising_rewritten = rw write_new (rising_replace last_reserved s.rows x rising)

  pub below_rewritten : (k : ℕ) → Below k s.rows → Below k (rewritten s x).rows
  below_rewritten k b = rw write_new (below_replace k s.rows x b)

  pub begun_rewritten : RowBegun x → Begun s.rows → Begun (rewritten s x).rows
  begun_rewritten h b = rw write_new (begun_replace s.rows x h b)

-- a delete
pub delete_asks :
    (e : End) (said : Option (Response (List ℕ))) (own : ℕ) (d : Doing) → Tied e said idle →
    ((r : Row) → shelf.lookup e.shelf.rows own ≡ Some r → NotOwn r.state) → delete_asked e own ≡ Ok d →
    Asks e said (to_delete own) d × (e.next < 2 ^ 32)
unfolding delete_asked
delete_asks e said own d t calm h =
    let p = holds (is_quiet e.outstanding) _ _ d h in
    let q = holds (not (is_spent e.next)) _ _ d p.1 in
    let f = of_some (shelf.lookup e.shelf.rows own) _ d q.1 in
    let r = f.0 in
    let g = standing_only r.state _ d (calm r f.1) f.2 in
    let given : Doing = asks.closing e r e.shelf in
    let z : given ≡ d = cc in
    let k : r.own ≡ own = lookup_own e.shelf.rows own r f.1 in
    let x = in_state state.Closing r in
    let here : has e.shelf.rows x.own ≡ true = ap is_some (ap (shelf.lookup e.shelf.rows) k ∙ f.1) in
    let l : lines (rewritten e.shelf x).rows ≡ insert own (live closing (sa_of r)) (lines e.shelf.rows) =
    lines_rewritten e.shelf x t.rising here ∙ ap (λ y. insert y (live closing (sa_of r)) (lines e.shelf.rows)) k
    in
    let at : lookup (lines e.shelf.rows) own ≡ Some (live standing (sa_of r)) =
    lines_lookup e.shelf.rows own ∙ ap cell_in f.1 ∙ ap (λ y. Some y) (standing_cell r r.state refl g.0)
    in
    let w = ap (λ y. request_octets e e.next (request.Delete y)) k in (
      subst (λ y. Asks e said (to_delete own) y) z
          (record {
            request = delete own;
            quiet = quiet_none e.outstanding p.0;
            does =
                ap (λ y. calls.if_standing (calls.deleting (node e said idle) own) y) at
                ∙ ap (λ ls. Some (sending (node e said idle) (delete own) ls e.spi)) (sym l);
            says = w;
            tied = record {
              reply = t.reply;
              out = (refl, (refl, k), w);
              rising = rising_rewritten e.shelf x t.rising here;
              below = below_rewritten e.shelf x t.rising here e.spi t.below;
              begun = begun_rewritten e.shelf x t.rising here tt t.begun;
              least = t.least;
            };
            same = record { side = refl; initiator = refl; responder = refl };
          }),
      unspent e.next q.0,
    )

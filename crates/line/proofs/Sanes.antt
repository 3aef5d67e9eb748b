-- What an end holds can be encoded.
use Rattle.std.proofs.Common.{◌≡◌, ℕ, suc, ◌<◌, Bool, true, false, List, Some, None, Option, sym, refl, ◌∙◌, subst, arith}
use Rattle.wire.specs.declared.message.Failure.TheVariants.{NoProposalChosen, NoAdditionalSas, TemporaryFailure, ChildSaNotFound}
use Rattle.wire.specs.declared.message.Response.{Response}
use Rattle.wire.specs.declared.message.Response.TheVariants as responses
use Rattle.protocol.specs.Model.{Nonce, St, fresh, standing, superseded, closing, Sa, Seed, Cell, opening, live, Coll, Ask, create, rekey, delete, check, Reply, made, no_such, refused, done, answered, End, calm, loses, plain}
use Rattle.protocol.specs.Invariant.{Row, Own, LinkOwned}
use Rattle.protocol.specs.Rows.{ordered, remove, Line, lookup, insert, calm_lines, Found, nowhere, at, find}
use Rattle.protocol.specs.Node.{Bar, unusable, no_more, sense, replying, Out, idle, asked, Node, Ghost, link_of, end_of, sending, noted_out, answer, answer_create, answer_rekey, answer_delete}
use Rattle.line.specs.Calls.{Want, to_create, to_rekey, to_delete, to_check, rekeying, deleting, ask_quiet, if_idle, ask, settle, settle_made, settle_won, quieted, wire, request, GoodWire, GoodReply, Coding, Good, Allowed}
use Rattle.line.specs.Line.{high, OutSane, Sane}
use Rattle.protocol.proofs.Rows.{lookup_calm, ordered_calm, find_at}
use Rattle.line.proofs.Ends.{standing_row}

-- a row's key is below the next
row_below : (E : End) (k : ℕ) (a : Sa) → Row E k → E.book k ≡ Some (live standing a) → k < E.spi
row_below E k a r e = grind arith

found_below : (E : End) (k : ℕ) (t : St) (a : Sa) → Row E k → calm E.book k ≡ Some (live t a) → k < E.spi
found_below E k t a r e = grind arith

module _ (K : Coding) (P : Node) (s : Sane K P) where
  quiet_sane : (below : (k : ℕ) (a : Sa) → lookup P.rows k ≡ Some (live standing a) → k < P.spi) (w : Want) (P' : Node) → Allowed K P w → ask_quiet P w ≡ Some P' → Sane K P'
  quiet_sane below (to_create n) P' l e =
      let q : sending P (create P.spi (plain n)) (insert P.spi (opening (plain n)) P.rows) (suc P.spi) ≡ P' = cc in
      subst (Sane K) q (record { spi = l.2; least = omega (arith, s.least); next = l.1; out = ((l.1, (l.2, l.0)), tt); reply = s.reply; made_high = s.made_high })
  quiet_sane below (to_rekey x n) P' l e =
      let r = standing_row x (rekeying P x n) P' (lookup P.rows x) e in
      let b = below x r.0 r.1 in
      subst (Sane K) (sym r.2)
      (record { spi = l.2; least = omega (arith, s.least); next = omega (arith, l.1); out = ((omega (arith, l.1), (l.2, omega (arith, s.spi), l.0)), l.1); reply = s.reply; made_high = s.made_high })
  quiet_sane below (to_delete x) P' l e =
      let r = standing_row x (deleting P x) P' (lookup P.rows x) e in
      let b = below x r.0 r.1 in
      subst (Sane K) (sym r.2) (record { spi = s.spi; least = s.least; next = l; out = ((l, omega (arith, s.spi)), tt); reply = s.reply; made_high = s.made_high })
  quiet_sane below to_check P' l e =
      let q : sending P check P.rows P.spi ≡ P' = cc in
      subst (Sane K) q (record { spi = s.spi; least = s.least; next = l; out = ((l, tt), tt); reply = s.reply; made_high = s.made_high })

  pub ask_sane : (γ : Ghost) (Q : Node) → ((k : ℕ) → Row (end_of γ P Q) k) → (w : Want) (P' : Node) → Allowed K P w → ask P w ≡ Some P' → Sane K P'
  ask_sane γ Q rows w P' l e = by P.out e
    where
      by : (o : Out) → if_idle o (ask_quiet P w) ≡ Some P' → Sane K P'
      by idle e = quiet_sane (λ k a r. row_below (end_of γ P Q) k a (rows k) r) w P' l e
      by (asked i a) e = absurd (let z : ◌≡◌ {A = ℕ} 0 1 = cc in omega arith)

  noted_sane : (q j : ℕ) (e f : Nonce) (o : Out) → OutSane K P.next o → OutSane K P.next (noted_out q j e f o)
  noted_sane q j e f idle h = tt
  noted_sane q j e f (asked i (create o d)) h = h
  noted_sane q j e f (asked i (rekey o d c)) h = h
  noted_sane q j e f (asked i (delete x)) h = h
  noted_sane q j e f (asked i check) h = h

  abbrev rs : List Line
  rs = calm_lines P.rows

  said : (r : Response Nonce) (xs : List Line) → GoodReply K.top K.fine r → high (sense r) → Sane K (replying P r xs P.spi)
  said r xs g h = record { spi = s.spi; least = s.least; next = s.next; out = s.out; reply = g; made_high = h }

  created : (o : ℕ) (d : Seed) (n : Nonce) (bar : Option Bar) → K.fine n ≡ true → (bar ≡ None → P.spi < K.top) → Sane K (answer_create P rs o d n bar)
  created o d n (Some unusable) f l = said (responses.Failed NoProposalChosen) rs tt tt
  created o d n (Some no_more) f l = said (responses.Failed NoAdditionalSas) rs tt tt
  created o d n None f l = record { spi = l refl; least = omega (arith, s.least); next = s.next; out = s.out; reply = (l refl, f); made_high = s.least }

  rekeyed : (o : ℕ) (d : Seed) (n : Nonce) (bar : Option Bar) (x : Found) → d.po < K.top → K.fine n ≡ true → (bar ≡ None → P.spi < K.top) → Sane K (answer_rekey P rs o d n bar x)
  rekeyed o d n bar nowhere b f l = said (responses.Failed (ChildSaNotFound d.po)) rs b tt
  rekeyed o d n bar (at k fresh c) b f l = said (responses.Failed TemporaryFailure) rs tt tt
  rekeyed o d n (Some unusable) (at k standing c) b f l = said (responses.Failed NoProposalChosen) rs tt tt
  rekeyed o d n (Some no_more) (at k standing c) b f l = said (responses.Failed NoAdditionalSas) rs tt tt
  rekeyed o d n None (at k standing c) b f l =
      record { spi = l refl; least = omega (arith, s.least); next = s.next; out = noted_sane k P.spi d.ni n P.out s.out; reply = (l refl, f); made_high = s.least }
  rekeyed o d n bar (at k superseded c) b f l = said (responses.Failed TemporaryFailure) rs tt tt
  rekeyed o d n bar (at k closing c) b f l = said (responses.Failed TemporaryFailure) rs tt tt

  deleted : (x : ℕ) (y : Found) → find x rs ≡ y → ((k : ℕ) (t : St) (c : Sa) → find x rs ≡ at k t c → k < P.spi) → Sane K (answer_delete P rs y)
  deleted x nowhere e b = said responses.Empty rs tt tt
  deleted x (at k fresh c) e b = said (responses.Delete k) (remove k rs) (omega (arith, s.spi, b k fresh c e)) tt
  deleted x (at k standing c) e b = said (responses.Delete k) (remove k rs) (omega (arith, s.spi, b k standing c e)) tt
  deleted x (at k superseded c) e b = said (responses.Delete k) (remove k rs) (omega (arith, s.spi, b k superseded c e)) tt
  deleted x (at k closing c) e b = said responses.Empty rs tt tt

  pub answer_sane : (γ : Ghost) (Q : Node) → ordered P.rows → ((k : ℕ) → Row (end_of γ P Q) k) → (n : Nonce) (bar : Option Bar) (a : Ask) → GoodWire K.top K.fine (wire a) → K.fine n ≡ true → (bar ≡ None → P.spi < K.top) → Sane K (answer P n bar a)
  answer_sane γ Q asc rows n bar (create o d) g f l = created o d n bar f l
  answer_sane γ Q asc rows n bar (rekey o d c) g f l = rekeyed o d n bar (find d.po rs) g.1 f l
  answer_sane γ Q asc rows n bar (delete x) g f l =
      deleted x (find x rs) refl
      (λ k t c e. found_below (end_of γ P Q) k t c (rows k) (sym (lookup_calm P.rows k) ∙ (find_at x rs k t c (ordered_calm P.rows asc) e).0))
  answer_sane γ Q asc rows n bar check g f l = said responses.Empty rs tt tt

  stilled : (xs : List Line) → Sane K (quieted P xs)
  stilled xs = record { spi = s.spi; least = s.least; next = s.next; out = tt; reply = s.reply; made_high = s.made_high }

  won : (o : ℕ) (d : Seed) (k : ℕ) (n : Nonce) (x : Option Cell) → P.next < K.top → d.po < P.spi → Sane K (settle_won P o d k n x)
  won o d k n None l b = stilled _
  won o d k n (Some (opening e)) l b = stilled _
  won o d k n (Some (live t a)) l b = record { spi = s.spi; least = s.least; next = l; out = ((l, omega (arith, s.spi)), tt); reply = s.reply; made_high = s.made_high }

  news : (o : ℕ) (d : Seed) (c : Coll) (k : ℕ) (n : Nonce) (v : Bool) → P.next < K.top → o < P.spi → d.po < P.spi → Sane K (settle_made P o d c k n v)
  news o d c k n true l a b = record { spi = s.spi; least = s.least; next = l; out = ((l, omega (arith, s.spi)), tt); reply = s.reply; made_high = s.made_high }
  news o d c k n false l a b = won o d k n (lookup P.rows d.po) l b

  -- the rows of a rekey are below the next key
  abbrev own_below : Ask → Type 0
  own_below (create o d) = Unit {0}
  own_below (rekey o d c) = (P.next < K.top) × (o < P.spi) × (d.po < P.spi)
  own_below (delete x) = Unit {0}
  own_below check = Unit {0}

  pub settle_sane : (a : Ask) (r : Reply) → own_below a → Sane K (settle P a r)
  settle_sane (create o d) (made k n) b = stilled _
  settle_sane (create o d) no_such b = stilled _
  settle_sane (create o d) refused b = stilled _
  settle_sane (create o d) done b = stilled _
  settle_sane (rekey o d c) (made k n) b = news o d c k n (loses P.first d n c) b.0 b.1 b.2
  settle_sane (rekey o d c) no_such b = stilled _
  settle_sane (rekey o d c) refused b = stilled _
  settle_sane (rekey o d c) done b = stilled _
  settle_sane (delete x) r b = stilled _
  settle_sane check r b = stilled _

opened_below : (E : End) (o : ℕ) (d : Seed) → Row E o → E.book o ≡ Some (opening d) → o < E.spi
opened_below E o d r e = grind arith

-- what P settles is its own
pub settles_below :
    (K : Coding) (γ : Ghost) (P Q : Node) (i : ℕ) (a : Ask) (r : Reply)
    → (s : Sane K P)
    → P.out ≡ asked i a
    → link_of P Q ≡ answered a r
    → ((k : ℕ) → Row (end_of γ P Q) k)
    → Own (end_of γ P Q)
    → own_below K P s a
settles_below K γ P Q i (create o d) r s u l rows own = tt
settles_below K γ P Q i (rekey o d c) r s u l rows own =
    let w : LinkOwned P.spi (lookup P.rows) (answered (rekey o d c) r) = subst (LinkOwned P.spi (lookup P.rows)) l own in
    let x : OutSane K P.next (asked i (rekey o d c)) = subst (OutSane K P.next) u s.out in
    (x.1, opened_below (end_of γ P Q) o d (rows o) w.0, w.2)
settles_below K γ P Q i (delete x) r s u l rows own = tt
settles_below K γ P Q i check r s u l rows own = tt

-- the outstanding request, and the stored reply
pub out_good : (K : Coding) (P : Node) (i : ℕ) (a : Ask) → Sane K P → P.out ≡ asked i a → Good K (request i (wire a))
out_good K P i a s u = let x : OutSane K P.next (asked i a) = subst (OutSane K P.next) u s.out in x.0

-- An end, and the node of the line that it is.
use Rattle.std.proofs.Common.{◌≡◌, ℕ, suc, ◌<◌, ◌≤◌, Bool, true, false, eqb, ltb, List, [], ◌∷◌, Some, None, Option, refl, subst, inl, inr, arith}
use Rattle.nonce.specs.declared.side.Side.{Side}
use Rattle.nonce.specs.declared.side.Side.TheVariants.{A, B}
use Rattle.nonce.specs.Spis.{last_reserved, lowest_spi}
use Rattle.book.specs.Shelves.{Rising, has, lookup, insert, replace, remove}
use Rattle.std.proofs.lemmas.Bool.Decides.{nat_tests}
use Rattle.std.proofs.ByRecursion.{All-weaker}
use Rattle.std.proofs.lemmas.Bool.{cases_Bool, cond_both, eqb-true}
use Rattle.std.specs.List.{AllByRecursion as All}
use Rattle.law.specs.Rows.{in_state, calmed, calm}
use Rattle.book.specs.Rows.{is_opening}
use Rattle.book.specs.declared.row.Beginner.{Beginner}
use Rattle.book.specs.declared.row.Beginner.TheVariants.{ThisEnd, Peer}
use Rattle.book.specs.declared.row.Row.{Row}
use Rattle.book.specs.declared.row.RowState.{RowState}
use Rattle.book.specs.declared.row.RowState.TheVariants as state
use Rattle.wire.specs.declared.message.Response.{Response}
use Rattle.protocol.specs.Model.{Coll, alone, met, Ask, create, rekey, delete, check}
use Rattle.protocol.specs.Node.{Out, idle, asked, Node}
use Rattle.line.specs.Calls.{wire}
use Rattle.law.specs.Ends.{End, Outstanding, Collision, request_octets, response_octets}
use Rattle.law.specs.declared.kinds.Kind.TheVariants as kind
use Rattle.law.proofs.Cells.{lines}

abbrev pub is_a : Side → Bool
is_a A = true
is_a B = false

-- the node of an end whose reply and request say this
abbrev pub node : End → Option (Response (List ℕ)) → Out → Node
node e reply out = record {
  first = is_a e.side;
  rows = lines e.shelf.rows;
  spi = e.spi;
  next = e.next;
  exp = e.expected;
  reply = reply;
  out = out;
}

abbrev pub CollTied : Option Collision → Coll → Type 0
CollTied None alone = Unit {0}
CollTied None (met j i r) = ⊥
CollTied (Some c) alone = ⊥
CollTied (Some c) (met j i r) = (c.initiator ≡ i) × (c.responder ≡ r)

abbrev pub AskTied : Outstanding → Ask → Type 0
AskTied o (create k d) = (o.kind ≡ kind.Create) × (o.own ≡ k)
AskTied o (rekey k d c) = (o.kind ≡ kind.Rekey) × (o.own ≡ k) × (o.old ≡ d.po) × CollTied o.collision c
AskTied o (delete x) = (o.kind ≡ kind.Delete) × (o.own ≡ x)
AskTied o check = o.kind ≡ kind.Check

abbrev pub OutTied : End → Option Outstanding → Out → Type 0
OutTied e None idle = Unit {0}
OutTied e None (asked i a) = ⊥
OutTied e (Some o) idle = ⊥
OutTied e (Some o) (asked i a) = (o.id ≡ i) × AskTied o a × (o.octets ≡ request_octets e i (wire a))

-- the stored reply is to the request before the expected one
abbrev pub ReplyTied : End → Option (List ℕ) → Option (Response (List ℕ)) → Type 0
ReplyTied e None None = Unit {0}
ReplyTied e None (Some r) = ⊥
ReplyTied e (Some s) None = ⊥
ReplyTied e (Some s) (Some r) = (i : ℕ) × (suc i ≡ e.expected) × (s ≡ response_octets e i r)

-- own SPIs below k
abbrev pub Below : ℕ → List Row → Type 0
Below k rs = All (λ (r : Row). r.own < k) rs

-- an Opening row is of an SA that this end began
abbrev pub BegunBy : RowState → Beginner → Type 0
BegunBy state.Opening b = b ≡ ThisEnd
BegunBy state.Fresh b = Unit {0}
BegunBy state.Standing b = Unit {0}
BegunBy state.Superseded b = Unit {0}
BegunBy state.Closing b = Unit {0}

abbrev pub RowBegun : Row → Type 0
RowBegun r = BegunBy r.state r.began

abbrev pub Begun : List Row → Type 0
Begun rs = All RowBegun rs

pub record Tied (e : End) (said : Option (Response (List ℕ))) (busy : Out) : Type 0 where
  pub reply : ReplyTied e e.reply said
  pub out : OutTied e e.outstanding busy
  pub rising : Rising last_reserved e.shelf.rows
  pub below : Below e.spi e.shelf.rows
  pub begun : Begun e.shelf.rows
  pub least : lowest_spi ≤ e.spi

-- the ends have the same name in the same IKE SA
pub record SameName (e e' : End) : Type 0 where
  pub side : e'.side ≡ e.side
  pub initiator : e'.initiator ≡ e.initiator
  pub responder : e'.responder ≡ e.responder

-- What holds of each row holds of each after a change.
module _ (P : Row → Type 0) where
  all_insert : (rs : List Row) (x : Row) → P x → All P rs → All P (insert rs x)
  all_insert [] x p b = (p, tt)
  all_insert (r ∷ rs) x p b =
      cond_both (ltb x.own r.own) (x ∷ (r ∷ rs)) (r ∷ insert rs x) (λ ys. All P ys) (λ t. (p, b))
      (λ f. (b.0, all_insert rs x p b.1))

  all_replace : (rs : List Row) (x : Row) → ((r : Row) → r.own ≡ x.own → P r → P x) → All P rs → All P (replace rs x)
  all_replace [] x p b = tt
  all_replace (r ∷ rs) x p b =
      cond_both (eqb r.own x.own) (x ∷ rs) (r ∷ replace rs x) (λ ys. All P ys)
      (λ t. (p r (eqb-true r.own x.own t) b.0, b.1)) (λ f. (b.0, all_replace rs x p b.1))

  all_remove : (rs : List Row) (j : ℕ) → All P rs → All P (remove rs j)
  all_remove [] j b = tt
  all_remove (r ∷ rs) j b =
      cond_both (eqb r.own j) rs (r ∷ remove rs j) (λ ys. All P ys) (λ t. b.1) (λ f. (b.0, all_remove rs j b.1))

  all_calm : ((r : Row) → P r → P (in_state (calmed r.state) r)) → (rs : List Row) → All P rs → All P (calm rs)
  all_calm p [] b = tt
  all_calm p (r ∷ rs) b = (p r b.0, all_calm p rs b.1)

  pub all_lookup : (rs : List Row) (k : ℕ) (x : Row) → All P rs → lookup rs k ≡ Some x → P x
  all_lookup [] k x b e = let z : ◌≡◌ {A = ℕ} 0 1 = cc in absurd (omega arith)
  all_lookup (r ∷ rs) k x b e =
      elim (cases_Bool (eqb r.own k)) [
        | inl t ↦ let s : r ≡ x = grind arith in subst P s b.0
        | inr t ↦ all_lookup rs k x b.1 (rw t at e)
      ]

-- a next own SPI is not in the book
pub below_absent : (k : ℕ) (rs : List Row) → Below k rs → has rs k ≡ false
below_absent k [] b = refl
below_absent k (r ∷ rs) b =
    let h = below_absent k rs b.1 in
    let l = b.0 in
    grind (arith, nat_tests)

pub below_more : (j k : ℕ) (rs : List Row) → j ≤ k → Below j rs → Below k rs
below_more j k rs l b = All-weaker (λ (r : Row). r.own < j) (λ (r : Row). r.own < k) (λ r h. omega arith) rs b

pub below_insert : (k : ℕ) (rs : List Row) (x : Row) → x.own < k → Below k rs → Below k (insert rs x)
below_insert k rs x l b = all_insert (λ (r : Row). r.own < k) rs x l b

pub below_replace : (k : ℕ) (rs : List Row) (x : Row) → Below k rs → Below k (replace rs x)
below_replace k rs x b = all_replace (λ (r : Row). r.own < k) rs x (λ r e l. omega arith) b

pub below_remove : (k : ℕ) (rs : List Row) (j : ℕ) → Below k rs → Below k (remove rs j)
below_remove k rs j b = all_remove (λ (r : Row). r.own < k) rs j b

pub below_calm : (k : ℕ) (rs : List Row) → Below k rs → Below k (calm rs)
below_calm k rs b = all_calm (λ (r : Row). r.own < k) (λ r l. l) rs b

pub begun_insert : (rs : List Row) (x : Row) → RowBegun x → Begun rs → Begun (insert rs x)
begun_insert rs x l b = all_insert RowBegun rs x l b

pub begun_replace : (rs : List Row) (x : Row) → RowBegun x → Begun rs → Begun (replace rs x)
begun_replace rs x l b = all_replace RowBegun rs x (λ r e h. l) b

pub begun_remove : (rs : List Row) (j : ℕ) → Begun rs → Begun (remove rs j)
begun_remove rs j b = all_remove RowBegun rs j b

-- what the peer began is not Opening
pub theirs_made : (s : RowState) (b : Beginner) → BegunBy s b → b ≡ Peer → is_opening s ≡ false
theirs_made state.Opening b h e = let z : ◌≡◌ {A = ℕ} 0 1 = cc in absurd (omega arith)
theirs_made state.Fresh b h e = refl
theirs_made state.Standing b h e = refl
theirs_made state.Superseded b h e = refl
theirs_made state.Closing b h e = refl

begun_calmed : (s : RowState) (b : Beginner) → BegunBy s b → BegunBy (calmed s) b
begun_calmed state.Opening b h = h
begun_calmed state.Fresh b h = tt
begun_calmed state.Standing b h = tt
begun_calmed state.Superseded b h = tt
begun_calmed state.Closing b h = tt

pub begun_calm : (rs : List Row) → Begun rs → Begun (calm rs)
begun_calm rs b = all_calm RowBegun (λ r h. begun_calmed r.state r.began h) rs b

pub rising_calm : (j : ℕ) (rs : List Row) → Rising j rs → Rising j (calm rs)
rising_calm j [] s = tt
rising_calm j (r ∷ rs) s = (s.0, rising_calm r.own rs s.1)

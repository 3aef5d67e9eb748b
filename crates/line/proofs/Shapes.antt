-- The shapes of the changes of an end.
use Rattle.std.proofs.Common.{◌≡◌, ℕ, suc, Bool, true, false, ◌⊎◌, List, Some, None, Option, sym, refl, subst, inl, inr, arith}
use Rattle.protocol.specs.Model.{Nonce, fresh, standing, superseded, closing, Seed, Cell, opening, live, Coll, alone, Ask, create, rekey, delete, check, Reply, made, no_such, refused, done, loses, grown, plain}
use Rattle.protocol.specs.Rows.{Line, lookup, insert, ordered, calm_lines, Found, nowhere, at, find}
use Rattle.protocol.specs.Node.{Bar, has, Out, idle, asked, Node, sending, noted_out, answer, answer_create, answer_rekey, answer_delete}
use Rattle.protocol.proofs.Rows.{ordered_calm, ordered_insert, ordered_remove}
use Rattle.line.specs.Calls.{Want, to_create, to_rekey, to_delete, to_check, seed_of, rekeying, deleting, ask_quiet, if_idle, ask, settle, settle_made, settle_won, wire}
use Rattle.line.specs.Shapes.{Sends, Quiets, SameOut, Replies}
use Rattle.line.specs.Rest.{heavy}
use Rattle.line.proofs.Ends.{standing_row}

-- an ask
pub record Asked (P P' : Node) : Type 0 where
  pub was : P.out ≡ idle
  pub for : Ask
  pub sends : Sends P for P'
  pub rows : ordered P.rows → ordered P'.rows

plainly : (P : Node) (a : Ask) → P.out ≡ idle → (P' : Node) → Sends P a P' → (ordered P.rows → ordered P'.rows) → Asked P P'
plainly P a o P' s r = record { was = o; for = a; sends = s; rows = r }

asked_quiet : (P : Node) → P.out ≡ idle → (w : Want) (P' : Node) → ask_quiet P w ≡ Some P' → Asked P P'
asked_quiet P o (to_create n) P' e =
    let q : sending P (create P.spi (plain n)) (insert P.spi (opening (plain n)) P.rows) (suc P.spi) ≡ P' = cc in
    subst (Asked P) q
    (plainly P (create P.spi (plain n)) o _ (record { next = refl; out = refl; exp = refl; reply = refl }) (ordered_insert P.spi (opening (plain n)) P.rows))
asked_quiet P o (to_rekey x n) P' e =
    let r = standing_row x (rekeying P x n) P' (lookup P.rows x) e in
    let d = seed_of x r.0.peer n in
    subst (Asked P) (sym r.2)
    (plainly P (rekey P.spi d alone) o _ (record { next = refl; out = refl; exp = refl; reply = refl }) (ordered_insert P.spi (opening d) P.rows))
asked_quiet P o (to_delete x) P' e =
    let r = standing_row x (deleting P x) P' (lookup P.rows x) e in
    subst (Asked P) (sym r.2)
    (plainly P (delete x) o _ (record { next = refl; out = refl; exp = refl; reply = refl }) (ordered_insert x (live closing r.0) P.rows))
asked_quiet P o to_check P' e =
    let q : sending P check P.rows P.spi ≡ P' = cc in
    subst (Asked P) q (plainly P check o _ (record { next = refl; out = refl; exp = refl; reply = refl }) (λ h. h))

pub ask_shape : (P : Node) (w : Want) (P' : Node) → ask P w ≡ Some P' → Asked P P'
ask_shape P w P' e = by P.out refl e
  where
    by : (o : Out) → P.out ≡ o → if_idle o (ask_quiet P w) ≡ Some P' → Asked P P'
    by idle o e = asked_quiet P o w P' e
    by (asked i a) o e = absurd (let z : ◌≡◌ {A = ℕ} 0 1 = cc in omega arith)

-- a request processed
pub record Answered (P P' : Node) : Type 0 where
  pub shape : Replies P P'
  pub rows : ordered P.rows → ordered P'.rows

same : (o : Out) → SameOut o o
same idle = tt
same (asked i a) = (refl, refl)

noted_same : (q j : ℕ) (e f : Nonce) (o : Out) → SameOut o (noted_out q j e f o)
noted_same q j e f idle = tt
noted_same q j e f (asked i (create o d)) = (refl, refl)
noted_same q j e f (asked i (rekey o d c)) = (refl, refl)
noted_same q j e f (asked i (delete x)) = (refl, refl)
noted_same q j e f (asked i check) = (refl, refl)

module _ (P : Node) where
  abbrev rs : List Line
  rs = calm_lines P.rows

  calmed : ordered P.rows → ordered rs
  calmed = ordered_calm P.rows

  plain_reply : {P' : Node} → P'.next ≡ P.next → P'.out ≡ P.out → P'.exp ≡ suc P.exp → has P'.reply → (ordered P.rows → ordered P'.rows) → Answered P P'
  plain_reply n o e t r = record { shape = record { next = n; out = subst (SameOut P.out) (sym o) (same P.out); exp = e; says = t }; rows = r }

  created : (o : ℕ) (d : Seed) (n : Nonce) (bar : Option Bar) → Answered P (answer_create P rs o d n bar)
  created o d n (Some w) = plain_reply refl refl refl tt calmed
  created o d n None = plain_reply refl refl refl tt (λ h. ordered_insert _ _ rs (calmed h))

  rekeyed : (o : ℕ) (d : Seed) (n : Nonce) (bar : Option Bar) (f : Found) → Answered P (answer_rekey P rs o d n bar f)
  rekeyed o d n bar nowhere = plain_reply refl refl refl tt calmed
  rekeyed o d n bar (at k fresh b) = plain_reply refl refl refl tt calmed
  rekeyed o d n (Some w) (at k standing b) = plain_reply refl refl refl tt calmed
  rekeyed o d n None (at k standing b) =
      record {
        shape = record { next = refl; out = noted_same k P.spi d.ni n P.out; exp = refl; says = tt };
        rows = λ h. ordered_insert _ _ (insert k (live superseded b) rs) (ordered_insert k (live superseded b) rs (calmed h));
      }
  rekeyed o d n bar (at k superseded b) = plain_reply refl refl refl tt calmed
  rekeyed o d n bar (at k closing b) = plain_reply refl refl refl tt calmed

  deleted : (f : Found) → Answered P (answer_delete P rs f)
  deleted nowhere = plain_reply refl refl refl tt calmed
  deleted (at k fresh b) = plain_reply refl refl refl tt (λ h. ordered_remove k rs (calmed h))
  deleted (at k standing b) = plain_reply refl refl refl tt (λ h. ordered_remove k rs (calmed h))
  deleted (at k superseded b) = plain_reply refl refl refl tt (λ h. ordered_remove k rs (calmed h))
  deleted (at k closing b) = plain_reply refl refl refl tt calmed

  pub answer_shape : (n : Nonce) (bar : Option Bar) (a : Ask) → Answered P (answer P n bar a)
  answer_shape n bar (create o d) = created o d n bar
  answer_shape n bar (rekey o d c) = rekeyed o d n bar (find d.po rs)
  answer_shape n bar (delete x) = deleted (find x rs)
  answer_shape n bar check = plain_reply refl refl refl tt calmed

-- a response processed
pub record Settled (P : Node) (a : Ask) (P' : Node) : Type 0 where
  pub shape : Quiets P P' ⊎ ((b : Ask) × Sends P b P' × (heavy (wire a) ≡ 2) × (heavy (wire b) ≡ 0))
  pub rows : ordered P.rows → ordered P'.rows

module _ (P : Node) where
  stills : {a : Ask} {P' : Node} → Quiets P P' → (ordered P.rows → ordered P'.rows) → Settled P a P'
  stills q r = record { shape = inl q; rows = r }

  won : (o : ℕ) (d : Seed) (c : Coll) (k : ℕ) (n : Nonce) (x : Option Cell) → Settled P (rekey o d c) (settle_won P o d k n x)
  won o d c k n None = stills (record { next = refl; out = refl; exp = refl; reply = refl }) (ordered_insert o _ P.rows)
  won o d c k n (Some (opening e)) = stills (record { next = refl; out = refl; exp = refl; reply = refl }) (ordered_insert o _ P.rows)
  won o d c k n (Some (live s a)) =
      record {
        shape = inr (delete d.po, record { next = refl; out = refl; exp = refl; reply = refl }, refl, refl);
        rows = λ h. ordered_insert d.po (live closing a) _ (ordered_insert o (live standing (grown k d n)) P.rows h);
      }

  news : (o : ℕ) (d : Seed) (c : Coll) (k : ℕ) (n : Nonce) (v : Bool) → Settled P (rekey o d c) (settle_made P o d c k n v)
  news o d c k n true =
      record { shape = inr (delete o, record { next = refl; out = refl; exp = refl; reply = refl }, refl, refl); rows = ordered_insert o _ P.rows }
  news o d c k n false = won o d c k n (lookup P.rows d.po)

  pub settle_shape : (a : Ask) (r : Reply) → Settled P a (settle P a r)
  settle_shape (create o d) (made k n) = stills (record { next = refl; out = refl; exp = refl; reply = refl }) (ordered_insert o _ P.rows)
  settle_shape (create o d) no_such = stills (record { next = refl; out = refl; exp = refl; reply = refl }) (ordered_remove o P.rows)
  settle_shape (create o d) refused = stills (record { next = refl; out = refl; exp = refl; reply = refl }) (ordered_remove o P.rows)
  settle_shape (create o d) done = stills (record { next = refl; out = refl; exp = refl; reply = refl }) (ordered_remove o P.rows)
  settle_shape (rekey o d c) (made k n) = news o d c k n (loses P.first d n c)
  settle_shape (rekey o d c) no_such =
      stills (record { next = refl; out = refl; exp = refl; reply = refl }) (λ h. ordered_remove d.po _ (ordered_remove o P.rows h))
  settle_shape (rekey o d c) refused = stills (record { next = refl; out = refl; exp = refl; reply = refl }) (ordered_remove o P.rows)
  settle_shape (rekey o d c) done = stills (record { next = refl; out = refl; exp = refl; reply = refl }) (ordered_remove o P.rows)
  settle_shape (delete x) r = stills (record { next = refl; out = refl; exp = refl; reply = refl }) (ordered_remove x P.rows)
  settle_shape check r = stills (record { next = refl; out = refl; exp = refl; reply = refl }) (λ h. h)

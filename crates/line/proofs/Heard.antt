-- A request, heard from the wire, is the one that was asked.
use Rattle.std.proofs.Common.{◌≡◌, ℕ, true, List, Some, None, Option, sym, refl, ap, ◌∙◌, subst, arith}
use Rattle.protocol.specs.Model.{Nonce, fresh, standing, superseded, closing, Sa, Seed, live, calm, Coll, Ask, create, rekey, delete, check, sent, End, plain}
use Rattle.protocol.specs.Invariant.{Half, Own, Faced}
use Rattle.protocol.specs.Rows.{Line, ordered, calm_lines, Found, nowhere, at, find}
use Rattle.protocol.specs.Node.{Bar, Node, link_of, Ghost, end_of, answer, answer_rekey}
use Rattle.protocol.proofs.Rows.{lookup_calm, ordered_calm, find_at}
use Rattle.line.specs.Calls.{seed_of, key_of, wire, answer_wire}
use Rattle.line.specs.Line.{fits}

-- the key of the old row at the answerer is the one that the seed names
old_key :
    (P Q : End) (o : ℕ) (d : Seed) (c : Coll) (k : ℕ) (b : Sa)
    → P.link ≡ sent (rekey o d c)
    → calm Q.book k ≡ Some (live standing b)
    → b.peer ≡ d.po
    → Own P
    → Faced Q P k
    → (d.heir ≡ true) × (d.pp ≡ k)
old_key P Q o d c k b w r e own f = grind arith

same_seed : (d : Seed) (k : ℕ) → (d.heir ≡ true) × (d.pp ≡ k) → seed_of d.po k d.ni ≡ d
same_seed d k e = λ i. record { heir = sym e.0 i; po = d.po; pp = sym e.1 i; ni = d.ni }

-- Q, whose peer P has sent a
module _ (α β : Ghost) (P Q : Node) (asc : ordered Q.rows) (h : Half (end_of α P Q) (end_of β Q P)) (g : Half (end_of β Q P) (end_of α P Q)) (n : Nonce) (bar : Option Bar) where
  abbrev rs : List Line
  rs = calm_lines Q.rows

  rekeys :
      (o : ℕ) (d : Seed) (c : Coll)
      → link_of P Q ≡ sent (rekey o d c)
      → (w : Option Bar) (f : Found)
      → find d.po rs ≡ f
      → answer_rekey Q rs o (seed_of d.po (key_of f) d.ni) n w f ≡ answer_rekey Q rs o d n w f
  rekeys o d c l w nowhere e = refl
  rekeys o d c l w (at k fresh b) e = refl
  rekeys o d c l (Some v) (at k standing b) e = refl
  rekeys o d c l None (at k standing b) e =
      let f = find_at d.po rs k standing b (ordered_calm Q.rows asc) e in
      ap (λ (x : Seed). answer_rekey Q rs o x n None (at k standing b))
      (same_seed d k (old_key (end_of α P Q) (end_of β Q P) o d c k b l (sym (lookup_calm Q.rows k) ∙ f.0) f.1 h.own (g.faced k)))
  rekeys o d c l w (at k superseded b) e = refl
  rekeys o d c l w (at k closing b) e = refl

  pub as_asked : (a : Ask) → link_of P Q ≡ sent a → fits (link_of P Q) → answer_wire Q n bar (wire a) ≡ answer Q n bar a
  as_asked (create o d) l f =
      let e : d ≡ plain d.ni = subst fits l f in ap (λ (x : Seed). answer Q n bar (create o x)) (sym e)
  as_asked (rekey o d c) l f = rekeys o d c l bar (find d.po rs) refl
  as_asked (delete x) l f = refl
  as_asked check l f = refl

-- A new SA's SPI is never one that the end has.
use Rattle.std.proofs.Common.{◌≡◌, ℕ, ◌≤◌, Some, refl, ap, arith}
use Rattle.nonce.specs.Spis.{lowest_spi}
use Rattle.protocol.specs.Model.{Nonce, St, Sa, Seed, live, Coll, Ask, create, rekey, delete, check, Reply, made, no_such, refused, done, answered, End}
use Rattle.protocol.specs.Invariant.{Half, Own, Faced, Request}
use Rattle.protocol.specs.Rows.{ordered, Found, nowhere, at, find}
use Rattle.protocol.specs.Node.{Node, Ghost, link_of, end_of}
use Rattle.protocol.proofs.Rows.{find_at}
use Rattle.line.specs.Calls.{unless_found, taken_as, settle}
use Rattle.line.specs.Line.{high}

not_create :
    (P Q : End) (o : ℕ) (d : Seed) (k : ℕ) (n : Nonce) (j : ℕ) (t : St) (b : Sa)
    → P.link ≡ answered (create o d) (made k n)
    → P.book j ≡ Some (live t b)
    → b.peer ≡ k
    → Own P
    → Request P Q
    → Faced P Q j
    → ⊥
not_create P Q o d k n j t b l e p own rq f = grind arith

not_rekey :
    (P Q : End) (o : ℕ) (d : Seed) (c : Coll) (k : ℕ) (n : Nonce) (j : ℕ) (t : St) (b : Sa)
    → P.link ≡ answered (rekey o d c) (made k n)
    → P.book j ≡ Some (live t b)
    → b.peer ≡ k
    → Own P
    → Request P Q
    → Faced P Q j
    → ⊥
not_rekey P Q o d c k n j t b l e p own rq f = grind arith

module _ (α β : Ghost) (P Q : Node) (asc : ordered P.rows) (h : Half (end_of α P Q) (end_of β Q P)) where
  abbrev E : End
  E = end_of α P Q

  abbrev F : End
  F = end_of β Q P

  creates : (o : ℕ) (d : Seed) (k : ℕ) (n : Nonce) → link_of P Q ≡ answered (create o d) (made k n) → (x : Found) → find k P.rows ≡ x → unless_found k n x ≡ made k n
  creates o d k n l nowhere e = refl
  creates o d k n l (at j t b) e =
      let f = find_at k P.rows j t b asc e in absurd (not_create E F o d k n j t b l f.0 f.1 h.own h.request (h.faced j))

  rekeys : (o : ℕ) (d : Seed) (c : Coll) (k : ℕ) (n : Nonce) → link_of P Q ≡ answered (rekey o d c) (made k n) → (x : Found) → find k P.rows ≡ x → unless_found k n x ≡ made k n
  rekeys o d c k n l nowhere e = refl
  rekeys o d c k n l (at j t b) e =
      let f = find_at k P.rows j t b asc e in absurd (not_rekey E F o d c k n j t b l f.0 f.1 h.own h.request (h.faced j))

  above : (k : ℕ) (n : Nonce) → lowest_spi ≤ k → unless_found k n (find k P.rows) ≡ made k n → taken_as P.rows (made k n) ≡ made k n
  above k n l e = grind arith

  pub taken_whole : (a : Ask) (r : Reply) → high r → link_of P Q ≡ answered a r → settle P a (taken_as P.rows r) ≡ settle P a r
  taken_whole (create o d) (made k n) u l = ap (settle P (create o d)) (above k n u (creates o d k n l (find k P.rows) refl))
  taken_whole (create o d) no_such u l = refl
  taken_whole (create o d) refused u l = refl
  taken_whole (create o d) done u l = refl
  taken_whole (rekey o d c) (made k n) u l = ap (settle P (rekey o d c)) (above k n u (rekeys o d c k n l (find k P.rows) refl))
  taken_whole (rekey o d c) no_such u l = refl
  taken_whole (rekey o d c) refused u l = refl
  taken_whole (rekey o d c) done u l = refl
  taken_whole (delete x) r u l = refl
  taken_whole check r u l = refl

-- The reply to a rekey that stands: the old SA goes.
use Rattle.std.proofs.Common.{◌≡◌, ℕ, false, not, Some, None, Option, arith}
use Rattle.protocol.specs.Model.{Nonce, St, fresh, standing, closing, Sa, Seed, opening, live, put, born, grown, loses, with_both, Coll, alone, met, create, rekey, delete, check, made, no_such, refused, done, Link, quiet, sent, answered, End}
use Rattle.protocol.proofs.Common.{heir_map, heir_then, Owns, request_grow, request_close, one_loses}
use Rattle.protocol.specs.Invariant.{Half, Row, Own, Faced, Request, Worn, Clash, Known, Made, Rekeyed, Given, Kept, Collided, Met, LinkOwned, LinkFaced, LinkClash, Heir, HeirAt, ParentLeft, Seen, ChildAt, Child, CollidedAt, NotStanding, Loses}

module _ (P Q : End) (o : ℕ) (d : Seed) (c : Coll) (k₁ : ℕ) (n : Nonce) (s : St) (a : Sa) (was : P.link ≡ answered (rekey o d c) (made k₁ n)) (won : loses P.first d n c ≡ false) (row : P.book d.po ≡ Some (live s a)) where
  abbrev P' : End
  P' = with_both P (put (put P.book o (Some (live standing (grown k₁ d n)))) d.po (Some (live closing a))) (sent (delete d.po))

  clash_at :
      (l : Link)
      → LinkClash Q.first P.link Q.book P.book l
      → LinkFaced P.spi Q.book P.book l
      → LinkOwned P.spi P.book P.link
      → LinkClash P.first l P.book Q.book P.link
      → Q.first ≡ not P.first
      → LinkClash Q.first P'.link Q.book P'.book l
  clash_at quiet f₁ q₁ p h₁ s₁ = tt
  clash_at (sent (create o d)) f₁ q₁ p h₁ s₁ = tt
  clash_at (sent (rekey o₁ d₁ c₁)) f₁ q₁ p h₁ s₁ = grind (arith, one_loses)
  clash_at (sent (delete y)) f₁ q₁ p h₁ s₁ = tt
  clash_at (sent check) f₁ q₁ p h₁ s₁ = tt
  clash_at (answered (create o d) (made k m)) f₁ q₁ p h₁ s₁ = tt
  clash_at (answered (create o d) no_such) f₁ q₁ p h₁ s₁ = tt
  clash_at (answered (create o d) refused) f₁ q₁ p h₁ s₁ = tt
  clash_at (answered (create o d) done) f₁ q₁ p h₁ s₁ = tt
  clash_at (answered (rekey o₁ d₁ alone) (made k m)) f₁ q₁ p h₁ s₁ = grind (arith, one_loses)
  clash_at (answered (rekey o₁ d₁ (met j₂ e₁ f₂)) (made k m)) f₁ q₁ p h₁ s₁ = grind (arith, one_loses)
  clash_at (answered (rekey o₁ d₁ c₁) no_such) f₁ q₁ p h₁ s₁ = grind (arith, one_loses)
  clash_at (answered (rekey o₁ d₁ c₁) refused) f₁ q₁ p h₁ s₁ = grind (arith, one_loses)
  clash_at (answered (rekey o₁ d₁ c₁) done) f₁ q₁ p h₁ s₁ = grind (arith, one_loses)
  clash_at (answered (delete y) r) f₁ q₁ p h₁ s₁ = tt
  clash_at (answered check r) f₁ q₁ p h₁ s₁ = tt

  opened_at : LinkOwned P.spi P.book P.link → P.book o ≡ Some (opening d)
  opened_at p = grind arith

  parent_of : (k : ℕ) (s : Sa) → Q.born_here k ≡ Some s → Made Q P k → P.book o ≡ Some (opening d) → s.peer ≡ o → s.pp ≡ d.po
  parent_of k s e f p i = grind arith

  left_there :
      (s : Sa)
      → P.book o ≡ Some (opening d)
      → (s.peer ≡ o → s.pp ≡ d.po)
      → ParentLeft P.link s.peer (P.book s.pp)
      → ParentLeft P'.link s.peer (P'.book s.pp)
  left_there s p i f = grind arith

  heir_there :
      (k : ℕ) (s : Sa)
      → Q.born_here k ≡ Some s
      → Made Q P k
      → Own P
      → Heir Q.book P.book Q.link P.link Q.spi P.spi k s
      → Heir Q.book P'.book Q.link P'.link Q.spi P'.spi k s
  heir_there k s e m p r =
      record {
        old_own = r.old_own;
        old_peers = r.old_peers;
        own_gone = r.own_gone;
        peers_left = left_there s (opened_at p) (parent_of k s e m (opened_at p)) r.peers_left;
        noted = r.noted;
      }

  grown_of : (k : ℕ) (s : Sa) → Child Q.book P.book P.link Q.spi P.spi k s → P.book o ≡ Some (opening d) → s.peer ≡ o → s ≡ born o d n
  grown_of k s m p i = grind arith

  wins : (j : ℕ) (t : Sa) → Loses P.first (born o d n) t → Seen j P.link t → ⊥
  wins j t l f = grind arith

  keeps : (y : ℕ) → (y ≡ o → ⊥) → NotStanding (P.book y) → NotStanding (P'.book y)
  keeps y e f = grind arith

  collided_with :
      (k j : ℕ) (c x : Option Sa)
      → CollidedAt P.first P.book c x
      → P.book o ≡ Some (opening d)
      → ChildAt Q.book P.book P.link Q.spi P.spi k c
      → HeirAt P.book Q.book P.link Q.link P.spi Q.spi j x
      → CollidedAt P.first P'.book c x
  collided_with k j None x f p m r = tt
  collided_with k j (Some s₁) None f p m r = tt
  collided_with k j (Some s₁) (Some t) f p m r =
      λ l.
      keeps s₁.peer
      (λ e.
      wins j t (rw (grown_of k s₁ m p e) at l) (heir_then _ _ _ _ _ _ j t t.heir l.t_heir r).noted)
      (f l)

  opened : Own P → P.book o ≡ Some (opening d)
  opened p = grind arith

  kept : Own P → put P.book o (Some (live standing (grown k₁ d n))) d.po ≡ Some (live s a)
  kept p = grind arith

  not_new : Own P → s ≡ fresh → ⊥
  not_new p = grind arith

  not_owned : Request P Q → Own Q → Owns Q.link k₁ → ⊥
  not_owned p q = grind arith

  p_rows : (k : ℕ) → Row P k → Own P → Row P o → Row P' k
  p_rows k f e0 e1 = grind arith

  p_own : Own P'
  p_own = grind arith

  p_faced : (k : ℕ) → Faced P Q k → Own P → Request P Q → Row Q k₁ → Faced P' Q k
  p_faced k f e0 e1 e2 = grind arith

  p_request : Request P' Q
  p_request = grind arith

  p_worn : (k : ℕ) → Worn P Q k → Worn P' Q k
  p_worn k f = grind arith

  p_clash : Clash P' Q
  p_clash = grind arith

  p_known : (k : ℕ) → Known P Q k → Request P Q → Known Q P k₁ → Known P' Q k
  p_known k f e0 e1 = grind arith

  p_children : (k : ℕ) → Made P Q k → Own P → Made P' Q k
  p_children k f e0 = grind arith

  p_heirs : (k : ℕ) → Rekeyed P Q k → Own P → Rekeyed P' Q k
  p_heirs k f e0 = grind arith

  p_given : Given P → Given P'
  p_given f = grind arith

  p_kept : (k : ℕ) → Kept P Q k → Own P → Given P → Kept P' Q k
  p_kept k f e0 e1 = grind arith

  p_met : Met P → Met P'
  p_met f = grind arith

  q_faced : (k : ℕ) → Faced Q P k → Own P → ((k : ℕ) → Row P k) → Faced Q P' k
  q_faced k f e0 e1 = grind arith

  q_request : Request Q P → Own P → Request P Q → Own Q → Request Q P'
  q_request f e0 e1 e2 = request_close P.spi Q.book _ d.po a s Q.link (kept e0) (not_new e0) (request_grow P.spi Q.book P.book o d (grown k₁ d n) standing Q.link (opened e0) (not_owned e1 e2) f)

  q_worn : (k : ℕ) → Worn Q P k → Worn Q P' k
  q_worn k f = grind (arith, one_loses)

  q_clash : Clash Q P → Request Q P → Own P → Clash P Q → (Q.first ≡ not P.first) → Clash Q P'
  q_clash f e0 e1 e2 e3 = clash_at Q.link f e0 e1 e2 e3

  q_children : (k : ℕ) → Made Q P k → Own P → ((k : ℕ) → Row P k) → Made Q P' k
  q_children k f e0 e1 = grind arith

  q_heirs : (k : ℕ) → Rekeyed Q P k → Own P → Made Q P k → Rekeyed Q P' k
  q_heirs k f e0 e1 = heir_map Q.book P.book Q.book P'.book Q.link P.link Q.link P'.link Q.spi P.spi Q.spi P'.spi k (Q.born_here k) (λ s e₁ _ r. heir_there k s e₁ e1 e0 r) f

  q_kept : (k : ℕ) → Kept Q P k → Own P → Given P → Kept Q P' k
  q_kept k f e0 e1 = grind arith

  q_collided : (k j : ℕ) → Collided Q P k j → Own P → Made Q P k → Rekeyed P Q j → Collided Q P' k j
  q_collided k j f e0 e1 e2 = collided_with k j (Q.born_here k) (P.born_here j) f (opened_at e0) e1 e2

  module _ (h : Half P Q) (g : Half Q P) where
    pub here : Half P' Q
    here = record { sides = h.sides; rows = λ k. p_rows k (h.rows k) h.own (h.rows o); own = p_own; faced = λ k. p_faced k (h.faced k) h.own h.request (g.rows k₁); request = p_request; worn = λ k. p_worn k (h.worn k); clash = p_clash; known = λ k. p_known k (h.known k) h.request (g.known k₁); children = λ k. p_children k (h.children k) h.own; heirs = λ k. p_heirs k (h.heirs k) h.own; given = p_given h.given; used = h.used; kept = λ k. p_kept k (h.kept k) h.own h.given; lost = h.lost; collided = h.collided; met = p_met h.met }

    pub there : Half Q P'
    there = record { sides = g.sides; rows = g.rows; own = g.own; faced = λ k. q_faced k (g.faced k) h.own h.rows; request = q_request g.request h.own h.request g.own; worn = λ k. q_worn k (g.worn k); clash = q_clash g.clash g.request h.own h.clash h.sides; known = g.known; children = λ k. q_children k (g.children k) h.own h.rows; heirs = λ k. q_heirs k (g.heirs k) h.own (g.children k); given = g.given; used = g.used; kept = λ k. q_kept k (g.kept k) h.own h.given; lost = g.lost; collided = λ k j. q_collided k j (g.collided k j) h.own (g.children k) (h.heirs j); met = g.met }

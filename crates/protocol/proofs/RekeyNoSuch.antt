-- The reply that the peer has not the old SA: both rows go.
use Rattle.std.proofs.Common.{◌≡◌, ℕ, None, arith}
use Rattle.protocol.specs.Model.{Seed, put, with_both, Coll, rekey, no_such, quiet, answered, End}
use Rattle.protocol.proofs.Common.{NotFresh, request_drop, dropped_not_fresh, opening_not_fresh, old_not_fresh}
use Rattle.protocol.specs.Invariant.{Half, Row, Own, Faced, Request, Worn, Clash, Known, Made, Rekeyed, Given, Kept, Collided, Met}

module _ (P Q : End) (o : ℕ) (d : Seed) (c : Coll) (was : P.link ≡ answered (rekey o d c) no_such) where
  abbrev P' : End
  P' = with_both P (put (put P.book o None) d.po None) (quiet)

  p_rows : (k : ℕ) → Row P k → Row P' k
  p_rows k f = grind arith

  p_own : Own P'
  p_own = grind arith

  p_faced : (k : ℕ) → Faced P Q k → Faced P' Q k
  p_faced k f = grind arith

  p_request : Request P' Q
  p_request = grind arith

  p_worn : (k : ℕ) → Worn P Q k → Worn P' Q k
  p_worn k f = grind arith

  p_clash : Clash P' Q
  p_clash = grind arith

  p_known : (k : ℕ) → Known P Q k → Known P' Q k
  p_known k f = grind arith

  p_children : (k : ℕ) → Made P Q k → Made P' Q k
  p_children k f = grind arith

  p_heirs : (k : ℕ) → Rekeyed P Q k → Rekeyed P' Q k
  p_heirs k f = grind arith

  p_given : Given P → Given P'
  p_given f = grind arith

  p_kept : (k : ℕ) → Kept P Q k → Own P → Given P → Kept P' Q k
  p_kept k f e0 e1 = grind arith

  p_met : Met P → Met P'
  p_met f = grind arith

  q_faced : (k : ℕ) → Faced Q P k → Own P → Request P Q → Faced Q P' k
  q_faced k f e0 e1 = grind arith

  q_request : Request Q P → NotFresh (P.book o) → NotFresh (P.book d.po) → Request Q P'
  q_request f e0 e1 = request_drop P.spi Q.book (put P.book o None) d.po Q.link (dropped_not_fresh P.book o d.po e1) (request_drop P.spi Q.book P.book o Q.link e0 f)

  q_worn : (k : ℕ) → Worn Q P k → Worn Q P' k
  q_worn k f = grind arith

  q_clash : Clash Q P → Own P → Request P Q → Request Q P → Clash Q P'
  q_clash f e0 e1 e2 = grind arith

  q_children : (k : ℕ) → Made Q P k → Made Q P' k
  q_children k f = grind arith

  q_heirs : (k : ℕ) → Rekeyed Q P k → Own P → Made Q P k → Rekeyed Q P' k
  q_heirs k f e0 e1 = grind arith

  q_kept : (k : ℕ) → Kept Q P k → Own P → Made Q P k → Given P → Kept Q P' k
  q_kept k f e0 e1 e2 = grind arith

  q_collided : (k j : ℕ) → Collided Q P k j → Collided Q P' k j
  q_collided k j f = grind arith

  module _ (h : Half P Q) (g : Half Q P) where
    pub here : Half P' Q
    here = record { sides = h.sides; rows = λ k. p_rows k (h.rows k); own = p_own; faced = λ k. p_faced k (h.faced k); request = p_request; worn = λ k. p_worn k (h.worn k); clash = p_clash; known = λ k. p_known k (h.known k); children = λ k. p_children k (h.children k); heirs = λ k. p_heirs k (h.heirs k); given = p_given h.given; used = h.used; kept = λ k. p_kept k (h.kept k) h.own h.given; lost = h.lost; collided = h.collided; met = p_met h.met }

    pub there : Half Q P'
    there = record { sides = g.sides; rows = g.rows; own = g.own; faced = λ k. q_faced k (g.faced k) h.own h.request; request = q_request g.request (opening_not_fresh P o d c no_such was h) (old_not_fresh P o d c no_such was h); worn = λ k. q_worn k (g.worn k); clash = q_clash g.clash h.own h.request g.request; known = g.known; children = λ k. q_children k (g.children k); heirs = λ k. q_heirs k (g.heirs k) h.own (g.children k); given = g.given; used = g.used; kept = λ k. q_kept k (g.kept k) h.own (g.children k) h.given; lost = g.lost; collided = λ k j. q_collided k j (g.collided k j); met = g.met }

-- An end that processes a request takes its fresh rows for standing ones.
use Rattle.std.proofs.Common.{◌≡◌, ℕ, arith}
use Rattle.protocol.specs.Model.{calm, with_book, Ask, sent, End}
use Rattle.protocol.specs.Invariant.{Half, Row, Own, Faced, Request, Worn, Clash, Known, Made, Rekeyed, Kept, Collided}

module _ (P Q : End) (a : Ask) (was : P.link ≡ sent a) where
  abbrev P' : End
  P' = P

  abbrev Q' : End
  Q' = with_book Q (calm Q.book)

  p_faced : (k : ℕ) → Faced P Q k → Faced P' Q' k
  p_faced k f = grind arith

  p_request : Request P Q → Request P' Q'
  p_request f = grind arith

  p_clash : Clash P Q → Clash P' Q'
  p_clash f = grind arith

  p_children : (k : ℕ) → Made P Q k → Made P' Q' k
  p_children k f = grind arith

  p_heirs : (k : ℕ) → Rekeyed P Q k → Rekeyed P' Q' k
  p_heirs k f = grind arith

  p_kept : (k : ℕ) → Kept P Q k → Kept P' Q' k
  p_kept k f = grind arith

  p_collided : (k j : ℕ) → Collided P Q k j → Collided P' Q' k j
  p_collided k j f = grind arith

  q_rows : (k : ℕ) → Row Q k → Row Q' k
  q_rows k f = grind arith

  q_own : Own Q → Own Q'
  q_own f = grind arith

  q_faced : (k : ℕ) → Faced Q P k → Faced Q' P' k
  q_faced k f = grind arith

  q_request : Request Q P → Request Q' P'
  q_request f = grind arith

  q_worn : (k : ℕ) → Worn Q P k → Worn Q' P' k
  q_worn k f = grind arith

  q_clash : Clash Q P → Clash Q' P'
  q_clash f = grind arith

  q_known : (k : ℕ) → Known Q P k → Known Q' P' k
  q_known k f = grind arith

  q_children : (k : ℕ) → Made Q P k → Made Q' P' k
  q_children k f = grind arith

  q_heirs : (k : ℕ) → Rekeyed Q P k → Rekeyed Q' P' k
  q_heirs k f = grind arith

  q_kept : (k : ℕ) → Kept Q P k → Kept Q' P' k
  q_kept k f = grind arith

  module _ (h : Half P Q) (g : Half Q P) where
    pub here : Half P' Q'
    here = record { sides = h.sides; rows = h.rows; own = h.own; faced = λ k. p_faced k (h.faced k); request = p_request h.request; worn = h.worn; clash = p_clash h.clash; known = h.known; children = λ k. p_children k (h.children k); heirs = λ k. p_heirs k (h.heirs k); given = h.given; used = h.used; kept = λ k. p_kept k (h.kept k); lost = h.lost; collided = λ k j. p_collided k j (h.collided k j); met = h.met }

    pub there : Half Q' P'
    there = record { sides = g.sides; rows = λ k. q_rows k (g.rows k); own = q_own g.own; faced = λ k. q_faced k (g.faced k); request = q_request g.request; worn = λ k. q_worn k (g.worn k); clash = q_clash g.clash; known = λ k. q_known k (g.known k); children = λ k. q_children k (g.children k); heirs = λ k. q_heirs k (g.heirs k); given = g.given; used = g.used; kept = λ k. q_kept k (g.kept k); lost = g.lost; collided = g.collided; met = g.met }

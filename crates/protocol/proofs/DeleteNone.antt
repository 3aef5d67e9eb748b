-- A delete of an SA that the answerer has not.
use Rattle.std.proofs.Common.{◌≡◌, ℕ, arith}
use Rattle.protocol.specs.Model.{NoRowFor, with_link, delete, done, sent, answered, End}
use Rattle.protocol.specs.Invariant.{Half, Row, Own, Faced, Request, Worn, Clash, Made, Rekeyed, Given, Met}

module _ (P Q : End) (x : ℕ) (was : P.link ≡ sent (delete x)) (none : (j : ℕ) → NoRowFor x (Q.book j)) where
  abbrev P' : End
  P' = with_link P (answered (delete x) done)

  p_rows : (k : ℕ) → Row P k → Row P' k
  p_rows k f = grind arith

  p_own : Own P → Own P'
  p_own f = grind arith

  p_request : Own P → Faced P Q x → Request P' Q
  p_request e0 e1 = grind arith

  p_worn : (k : ℕ) → Worn P Q k → Worn P' Q k
  p_worn k f = grind arith

  p_clash : Clash P Q → Clash P' Q
  p_clash f = grind arith

  p_heirs : (k : ℕ) → Rekeyed P Q k → Rekeyed P' Q k
  p_heirs k f = grind arith

  p_given : Given P → Given P'
  p_given f = grind arith

  p_met : Met P → Met P'
  p_met f = grind arith

  q_faced : (k : ℕ) → Faced Q P k → Faced Q P' k
  q_faced k f = grind arith

  q_worn : (k : ℕ) → Worn Q P k → Worn Q P' k
  q_worn k f = grind arith

  q_clash : Clash Q P → Clash Q P'
  q_clash f = grind arith

  q_children : (k : ℕ) → Made Q P k → Made Q P' k
  q_children k f = grind arith

  q_heirs : (k : ℕ) → Rekeyed Q P k → Rekeyed Q P' k
  q_heirs k f = grind arith

  module _ (h : Half P Q) (g : Half Q P) where
    pub here : Half P' Q
    here = record { sides = h.sides; rows = λ k. p_rows k (h.rows k); own = p_own h.own; faced = h.faced; request = p_request h.own (h.faced x); worn = λ k. p_worn k (h.worn k); clash = p_clash h.clash; known = h.known; children = h.children; heirs = λ k. p_heirs k (h.heirs k); given = p_given h.given; used = h.used; kept = h.kept; lost = h.lost; collided = h.collided; met = p_met h.met }

    pub there : Half Q P'
    there = record { sides = g.sides; rows = g.rows; own = g.own; faced = λ k. q_faced k (g.faced k); request = g.request; worn = λ k. q_worn k (g.worn k); clash = q_clash g.clash; known = g.known; children = λ k. q_children k (g.children k); heirs = λ k. q_heirs k (g.heirs k); given = g.given; used = g.used; kept = g.kept; lost = g.lost; collided = g.collided; met = g.met }

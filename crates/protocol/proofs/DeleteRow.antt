-- A delete answered by taking the row away.
use Rattle.std.proofs.Common.{◌≡◌, ℕ, Some, None, arith}
use Rattle.protocol.specs.Model.{St, closing, Sa, live, put, with_link, with_book, delete, done, sent, answered, End}
use Rattle.protocol.specs.Invariant.{Half, Row, Own, Faced, Request, Worn, Clash, Known, Made, Rekeyed, Given, Kept, Collided, Met}

module _ (P Q : End) (x q : ℕ) (t : St) (b : Sa) (was : P.link ≡ sent (delete x)) (row : Q.book q ≡ Some (live t b)) (stays : t ≡ closing → ⊥) (is : b.peer ≡ x) where
  abbrev P' : End
  P' = with_link P (answered (delete x) done)

  abbrev Q' : End
  Q' = with_book Q (put Q.book q None)

  p_rows : (k : ℕ) → Row P k → Row P' k
  p_rows k f = grind arith

  p_own : Own P → Own P'
  p_own f = grind arith

  p_faced : (k : ℕ) → Faced P Q k → Own P → Faced P' Q' k
  p_faced k f e0 = grind arith

  p_request : Own P → Faced Q P q → Request P' Q'
  p_request e0 e1 = grind arith

  p_worn : (k : ℕ) → Worn P Q k → Worn P' Q' k
  p_worn k f = grind arith

  p_clash : Clash P Q → Clash P' Q'
  p_clash f = grind arith

  p_children : (k : ℕ) → Made P Q k → Made P' Q' k
  p_children k f = grind arith

  p_heirs : (k : ℕ) → Rekeyed P Q k → Rekeyed P' Q' k
  p_heirs k f = grind arith

  p_given : Given P → Given P'
  p_given f = grind arith

  p_kept : (k : ℕ) → Kept P Q k → Given P → Made P Q k → Kept P' Q' k
  p_kept k f e0 e1 = grind arith

  p_collided : (k j : ℕ) → Collided P Q k j → Collided P' Q' k j
  p_collided k j f = grind arith

  p_met : Met P → Met P'
  p_met f = grind arith

  q_rows : (k : ℕ) → Row Q k → Row Q' k
  q_rows k f = grind arith

  q_own : Own Q → Own Q'
  q_own f = grind arith

  q_faced : (k : ℕ) → Faced Q P k → Faced Q' P' k
  q_faced k f = grind arith

  q_request : Request Q P → Request Q' P'
  q_request f = grind arith

  q_worn : (k : ℕ) → Worn Q P k → Own P → Faced Q P q → Faced Q P k → Worn Q' P' k
  q_worn k f e0 e1 e2 = grind arith

  q_clash : Clash Q P → Own P → Own Q → Clash Q' P'
  q_clash f e0 e1 = grind arith

  q_known : (k : ℕ) → Known Q P k → Known Q' P' k
  q_known k f = grind arith

  q_children : (k : ℕ) → Made Q P k → Made Q' P' k
  q_children k f = grind arith

  q_heirs : (k : ℕ) → Rekeyed Q P k → Rekeyed Q' P' k
  q_heirs k f = grind arith

  q_kept : (k : ℕ) → Kept Q P k → Given P → Made Q P k → Kept Q' P' k
  q_kept k f e0 e1 = grind arith

  module _ (h : Half P Q) (g : Half Q P) where
    pub here : Half P' Q'
    here = record { sides = h.sides; rows = λ k. p_rows k (h.rows k); own = p_own h.own; faced = λ k. p_faced k (h.faced k) h.own; request = p_request h.own (g.faced q); worn = λ k. p_worn k (h.worn k); clash = p_clash h.clash; known = h.known; children = λ k. p_children k (h.children k); heirs = λ k. p_heirs k (h.heirs k); given = p_given h.given; used = h.used; kept = λ k. p_kept k (h.kept k) h.given (h.children k); lost = h.lost; collided = λ k j. p_collided k j (h.collided k j); met = p_met h.met }

    pub there : Half Q' P'
    there = record { sides = g.sides; rows = λ k. q_rows k (g.rows k); own = q_own g.own; faced = λ k. q_faced k (g.faced k); request = q_request g.request; worn = λ k. q_worn k (g.worn k) h.own (g.faced q) (g.faced k); clash = q_clash g.clash h.own g.own; known = λ k. q_known k (g.known k); children = λ k. q_children k (g.children k); heirs = λ k. q_heirs k (g.heirs k); given = g.given; used = g.used; kept = λ k. q_kept k (g.kept k) h.given (g.children k); lost = g.lost; collided = g.collided; met = g.met }

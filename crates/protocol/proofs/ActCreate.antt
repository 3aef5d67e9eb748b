-- A create answered with a new row.
use Rattle.std.proofs.Common.{◌≡◌, ℕ, None, arith}
use Rattle.protocol.specs.Model.{Nonce, Seed, born, with_link, with_child, create, made, sent, answered, End}
use Rattle.protocol.proofs.Common.{fresh_key, fresh_child}
use Rattle.protocol.specs.Invariant.{Half, Row, Own, Faced, Request, Worn, Clash, Known, Made, Rekeyed, Given, Used, Kept, Lost, Collided, Met}

module _ (P Q : End) (o : ℕ) (d : Seed) (n : Nonce) (was : P.link ≡ sent (create o d)) where
  abbrev P' : End
  P' = with_link P (answered (create o d) (made Q.spi n))

  abbrev Q' : End
  Q' = with_child Q Q.book (born o d n) Q.link

  p_rows : (k : ℕ) → Row P k → Row P' k
  p_rows k f = grind arith

  p_own : Own P → Own P'
  p_own f = grind arith

  p_faced : (k : ℕ) → Faced P Q k → Faced P' Q' k
  p_faced k f = grind arith

  p_request : Request P' Q'
  p_request = grind arith

  p_worn : (k : ℕ) → Worn P Q k → Worn P' Q' k
  p_worn k f = grind arith

  p_clash : Clash P Q → Clash P' Q'
  p_clash f = grind arith

  p_known : (k : ℕ) → Known P Q k → Faced P Q k → Known P' Q' k
  p_known k f e0 = grind arith

  p_children : (k : ℕ) → Made P Q k → Made P' Q' k
  p_children k f = grind arith

  p_heirs : (k : ℕ) → Rekeyed P Q k → Rekeyed P' Q' k
  p_heirs k f = grind arith

  p_given : Given P → Given P'
  p_given f = grind arith

  p_kept : (k : ℕ) → Kept P Q k → Made P Q k → Kept P' Q' k
  p_kept k f e0 = grind arith

  p_lost : (k : ℕ) → Lost P Q k → Q.born_here Q.spi ≡ None → Lost P' Q' k
  p_lost k f e0 = grind arith

  p_collided : (k j : ℕ) → Collided P Q k j → Own P → Made P Q k → Collided P' Q' k j
  p_collided k j f e0 e1 = grind arith

  p_met : Met P → Met P'
  p_met f = grind arith

  q_rows : (k : ℕ) → Row Q k → Row Q' k
  q_rows k f = grind arith

  q_own : Own Q → Q.book Q.spi ≡ None → Own Q'
  q_own f e0 = grind arith

  q_faced : (k : ℕ) → Faced Q P k → Own P → Row P o → Faced Q' P' k
  q_faced k f e0 e1 = grind arith

  q_request : Request Q P → Own Q → Q.book Q.spi ≡ None → Request Q' P'
  q_request f e0 e1 = grind arith

  q_worn : (k : ℕ) → Worn Q P k → Worn Q' P' k
  q_worn k f = grind arith

  q_clash : Clash Q P → Own Q → Clash Q' P'
  q_clash f e0 = grind arith

  q_known : (k : ℕ) → Known Q P k → Known Q' P' k
  q_known k f = grind arith

  q_children : (k : ℕ) → Made Q P k → Own P → Row P o → Made Q' P' k
  q_children k f e0 e1 = grind arith

  q_heirs : (k : ℕ) → Rekeyed Q P k → Own P → Rekeyed Q' P' k
  q_heirs k f e0 = grind arith

  q_used : (k : ℕ) → Used Q k → Used Q' k
  q_used k f = grind arith

  q_kept : (k : ℕ) → Kept Q P k → Made Q P k → Own P → Kept Q' P' k
  q_kept k f e0 e1 = grind arith

  q_lost : (k : ℕ) → Lost Q P k → Own P → Given P → Lost Q' P' k
  q_lost k f e0 e1 = grind arith

  q_collided : (k j : ℕ) → Collided Q P k j → Own P → Collided Q' P' k j
  q_collided k j f e0 = grind arith

  q_met : Met Q → Q.born_here Q.spi ≡ None → Met Q'
  q_met f e0 = grind arith

  module _ (h : Half P Q) (g : Half Q P) where
    pub here : Half P' Q'
    here = record { sides = h.sides; rows = λ k. p_rows k (h.rows k); own = p_own h.own; faced = λ k. p_faced k (h.faced k); request = p_request; worn = λ k. p_worn k (h.worn k); clash = p_clash h.clash; known = λ k. p_known k (h.known k) (h.faced k); children = λ k. p_children k (h.children k); heirs = λ k. p_heirs k (h.heirs k); given = p_given h.given; used = h.used; kept = λ k. p_kept k (h.kept k) (h.children k); lost = λ k. p_lost k (h.lost k) (fresh_child g); collided = λ k j. p_collided k j (h.collided k j) h.own (h.children k); met = p_met h.met }

    pub there : Half Q' P'
    there = record { sides = g.sides; rows = λ k. q_rows k (g.rows k); own = q_own g.own (fresh_key g); faced = λ k. q_faced k (g.faced k) h.own (h.rows o); request = q_request g.request g.own (fresh_key g); worn = λ k. q_worn k (g.worn k); clash = q_clash g.clash g.own; known = λ k. q_known k (g.known k); children = λ k. q_children k (g.children k) h.own (h.rows o); heirs = λ k. q_heirs k (g.heirs k) h.own; given = g.given; used = λ k. q_used k (g.used k); kept = λ k. q_kept k (g.kept k) (g.children k) h.own; lost = λ k. q_lost k (g.lost k) h.own h.given; collided = λ k j. q_collided k j (g.collided k j) h.own; met = q_met g.met (fresh_child g) }

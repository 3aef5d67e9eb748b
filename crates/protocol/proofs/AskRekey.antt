-- An end asks for a rekey of a standing row.
use Rattle.std.proofs.Common.{◌≡◌, ℕ, true, Some, None, arith}
use Rattle.protocol.specs.Model.{standing, Sa, Seed, opening, live, with_new, giving, given_up, alone, rekey, quiet, sent, End}
use Rattle.protocol.proofs.Common.{fresh_key}
use Rattle.protocol.specs.Invariant.{Half, Row, Own, Faced, Request, Worn, Clash, Known, Made, Rekeyed, Given, Used, Kept, Lost, Collided, Met}

module _ (P Q : End) (x : ℕ) (a : Sa) (d : Seed) (was : P.link ≡ quiet) (row : P.book x ≡ Some (live standing a)) (heir : d.heir ≡ true) (old : d.po ≡ x) (older : d.pp ≡ a.peer) where
  abbrev P' : End
  P' = giving (with_new P P.book (opening d) (sent (rekey P.spi d alone))) x given_up

  p_rows : (k : ℕ) → Row P k → Row P' k
  p_rows k f = grind arith

  p_own : Own P → Row P x → Own P'
  p_own f e0 = grind arith

  p_faced : (k : ℕ) → Faced P Q k → Faced P' Q k
  p_faced k f = grind arith

  p_request : ((k : ℕ) → Faced Q P k) → Faced P Q x → Request P' Q
  p_request e0 e1 = grind arith

  p_worn : (k : ℕ) → Worn P Q k → Worn P' Q k
  p_worn k f = grind arith

  p_clash : Row P x → Clash P' Q
  p_clash e0 = grind arith

  p_known : (k : ℕ) → Known P Q k → Known P' Q k
  p_known k f = grind arith

  p_children : (k : ℕ) → Made P Q k → Made P' Q k
  p_children k f = grind arith

  p_heirs : (k : ℕ) → Rekeyed P Q k → Rekeyed P' Q k
  p_heirs k f = grind arith

  p_given : Given P → Used P P.spi → Row P x → Given P'
  p_given f e0 e1 = grind arith

  p_used : (k : ℕ) → Used P k → Row P x → Used P' k
  p_used k f e0 = grind arith

  p_kept : (k : ℕ) → Kept P Q k → Made P Q k → Kept P' Q k
  p_kept k f e0 = grind arith

  p_met : Met P → Met P'
  p_met f = grind arith

  q_faced : (k : ℕ) → Faced Q P k → Faced Q P' k
  q_faced k f = grind arith

  q_request : Request Q P → P.book P.spi ≡ None → ((k : ℕ) → Faced Q P k) → Request Q P'
  q_request f e0 e1 = grind arith

  q_worn : (k : ℕ) → Worn Q P k → Worn Q P' k
  q_worn k f = grind arith

  q_clash : Clash Q P → Request Q P → Clash Q P'
  q_clash f e0 = grind arith

  q_children : (k : ℕ) → Made Q P k → Made Q P' k
  q_children k f = grind arith

  q_heirs : (k : ℕ) → Rekeyed Q P k → Rekeyed Q P' k
  q_heirs k f = grind arith

  q_kept : (k : ℕ) → Kept Q P k → Made Q P k → Kept Q P' k
  q_kept k f e0 = grind arith

  q_lost : (k : ℕ) → Lost Q P k → Lost Q P' k
  q_lost k f = grind arith

  q_collided : (k j : ℕ) → Collided Q P k j → Collided Q P' k j
  q_collided k j f = grind arith

  module _ (h : Half P Q) (g : Half Q P) where
    pub here : Half P' Q
    here = record { sides = h.sides; rows = λ k. p_rows k (h.rows k); own = p_own h.own (h.rows x); faced = λ k. p_faced k (h.faced k); request = p_request g.faced (h.faced x); worn = λ k. p_worn k (h.worn k); clash = p_clash (h.rows x); known = λ k. p_known k (h.known k); children = λ k. p_children k (h.children k); heirs = λ k. p_heirs k (h.heirs k); given = p_given h.given (h.used P.spi) (h.rows x); used = λ k. p_used k (h.used k) (h.rows x); kept = λ k. p_kept k (h.kept k) (h.children k); lost = h.lost; collided = h.collided; met = p_met h.met }

    pub there : Half Q P'
    there = record { sides = g.sides; rows = g.rows; own = g.own; faced = λ k. q_faced k (g.faced k); request = q_request g.request (fresh_key h) g.faced; worn = λ k. q_worn k (g.worn k); clash = q_clash g.clash g.request; known = g.known; children = λ k. q_children k (g.children k); heirs = λ k. q_heirs k (g.heirs k); given = g.given; used = g.used; kept = λ k. q_kept k (g.kept k) (g.children k); lost = λ k. q_lost k (g.lost k); collided = λ k j. q_collided k j (g.collided k j); met = g.met }

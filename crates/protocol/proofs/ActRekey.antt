-- A rekey answered with a new row: the old one is superseded.
use Rattle.std.proofs.Common.{◌≡◌, ℕ, ◌<◌, Bool, true, false, cond, eqb, Some, None, Option, arith}
use Rattle.std.proofs.lemmas.Bool.{eqb-true}
use Rattle.protocol.specs.Model.{Nonce, standing, superseded, Sa, Seed, live, put, born, noted, with_link, with_child, Coll, create, rekey, delete, check, made, no_such, refused, done, Link, quiet, sent, answered, End}
use Rattle.protocol.proofs.Common.{fresh_key, fresh_child, heir_map, heir_then, heir_put, heir_new, left_noted, seen_noted, seen_kept, pair, old_cell, OldSupersededOrStanding}
use Rattle.protocol.specs.Invariant.{Half, Row, Own, Faced, Request, Worn, Clash, Known, Made, Rekeyed, Given, Used, Kept, Lost, Collided, Met, LinkOwned, LinkClash, Heir, HeirAt, ParentLeft, Seen, WornOut, ChildAt, CollidedAt, NotStanding, Loses}

module _ (P Q : End) (o : ℕ) (d : Seed) (c : Coll) (q : ℕ) (b : Sa) (n : Nonce) (was : P.link ≡ sent (rekey o d c)) (row : Q.book q ≡ Some (live standing b)) (is : b.peer ≡ d.po) where
  abbrev P' : End
  P' = with_link P (answered (rekey o d c) (made Q.spi n))

  abbrev Q' : End
  Q' = with_child Q (put Q.book q (Some (live superseded b))) (born o d n) (noted q Q.spi d.ni n Q.link)

  clash_at :
      (l : Link)
      → LinkClash Q.first P.link Q.book P.book l
      → d.pp ≡ q
      → OldSupersededOrStanding q b (P.book d.po)
      → LinkClash P.first l P.book Q.book P.link
      → LinkOwned Q.spi Q.book l
      → Q.book Q.spi ≡ None
      → LinkClash Q.first P'.link Q'.book P.book (noted q Q.spi d.ni n l)
  clash_at quiet f₁ p₁ o₁ h₁ w₁ v₁ = tt
  clash_at (sent (create o d)) f₁ p₁ o₁ h₁ w₁ v₁ = tt
  clash_at (sent (rekey o₂ d₂ c₂)) f₁ p₁ o₁ h₁ w₁ v₁ = grind arith
  clash_at (sent (delete y)) f₁ p₁ o₁ h₁ w₁ v₁ = tt
  clash_at (sent check) f₁ p₁ o₁ h₁ w₁ v₁ = tt
  clash_at (answered (create o d) (made k m)) f₁ p₁ o₁ h₁ w₁ v₁ = tt
  clash_at (answered (create o d) no_such) f₁ p₁ o₁ h₁ w₁ v₁ = tt
  clash_at (answered (create o d) refused) f₁ p₁ o₁ h₁ w₁ v₁ = tt
  clash_at (answered (create o d) done) f₁ p₁ o₁ h₁ w₁ v₁ = tt
  clash_at (answered (rekey o₂ d₂ c₂) (made k m)) f₁ p₁ o₁ h₁ w₁ v₁ = grind arith
  clash_at (answered (rekey o₂ d₂ c₂) no_such) f₁ p₁ o₁ h₁ w₁ v₁ = grind arith
  clash_at (answered (rekey o₂ d₂ c₂) refused) f₁ p₁ o₁ h₁ w₁ v₁ = grind arith
  clash_at (answered (rekey o₂ d₂ c₂) done) f₁ p₁ o₁ h₁ w₁ v₁ = grind arith
  clash_at (answered (delete y) r) f₁ p₁ o₁ h₁ w₁ v₁ = tt
  clash_at (answered check r) f₁ p₁ o₁ h₁ w₁ v₁ = tt

  still_not : (y : ℕ) → y < Q.spi → NotStanding (Q.book y) → NotStanding (Q'.book y)
  still_not y l f = grind arith

  -- an SA that the new one beats is still opening
  beaten :
      (k : ℕ) (s : Sa)
      → Loses Q.first s (born o d n)
      → Heir P.book Q.book P.link Q.link P.spi Q.spi k s
      → Own Q
      → d.pp ≡ q
      → NotStanding (Q.book s.peer)
  beaten k s l r w e = grind arith

  collided_with :
      (k : ℕ) (c x : Option Sa) (b₁ : Bool)
      → CollidedAt Q.first Q.book c x
      → HeirAt P.book Q.book P.link Q.link P.spi Q.spi k c
      → ChildAt P.book Q.book Q.link P.spi Q.spi k c
      → Own Q
      → d.pp ≡ q
      → CollidedAt Q.first Q'.book c (cond b₁ (Some (born o d n)) x)
  collided_with k None x b₁ f r m w e = tt
  collided_with k (Some s) None true f r m w e =
      λ l. still_not s.peer m.peers_key (beaten k s l (heir_then _ _ _ _ _ _ k s s.heir l.s_heir r) w e)
  collided_with k (Some s) None false f r m w e = tt
  collided_with k (Some s) (Some t) true f r m w e =
      λ l. still_not s.peer m.peers_key (beaten k s l (heir_then _ _ _ _ _ _ k s s.heir l.s_heir r) w e)
  collided_with k (Some s) (Some t) false f r m w e = λ l. still_not s.peer m.peers_key (f l)

  left_here :
      (s : Sa) → s.pp < Q.spi → ParentLeft Q.link s.peer (Q.book s.pp) → ParentLeft Q.link s.peer (Q'.book s.pp)
  left_here s l f = grind arith

  seen_here : (k : ℕ) (s : Sa) → Seen k P.link s → Seen k P'.link s
  seen_here k s f = grind arith

  heir_here :
      (k : ℕ) (s : Sa)
      → Heir P.book Q.book P.link Q.link P.spi Q.spi k s
      → Heir P'.book Q'.book P'.link Q'.link P'.spi Q'.spi k s
  heir_here k s r =
      record {
        old_own = r.old_own;
        old_peers = omega arith;
        own_gone = r.own_gone;
        peers_left =
            left_noted q Q.spi d.ni n Q.link s.peer (Q'.book s.pp) (left_here s r.old_peers r.peers_left);
        noted = seen_here k s r.noted;
      }

  new_gone : d.pp ≡ q → Row Q q → WornOut (Q'.book d.pp)
  new_gone e f = grind arith

  new_left : OldSupersededOrStanding q b (P.book d.po) → ParentLeft P'.link o (P.book d.po)
  new_left f = grind arith

  new_heir : d.pp ≡ q → OldSupersededOrStanding q b (P.book d.po) → Own P → Row Q q → Heir Q'.book P'.book Q'.link P'.link Q'.spi P'.spi Q.spi (born o d n)
  new_heir e f p r =
      record {
        old_own = grind arith;
        old_peers = grind arith;
        own_gone = new_gone e r;
        peers_left = new_left f;
        noted = rw (← e) (seen_noted Q.spi (born o d n) Q.link);
      }

  still_gone : (s : Sa) → s.po < Q.spi → WornOut (Q.book s.po) → WornOut (Q'.book s.po)
  still_gone s l f = grind arith

  still_left : (s : Sa) → ParentLeft P.link s.peer (P.book s.pp) → ParentLeft P'.link s.peer (P.book s.pp)
  still_left s f = grind arith

  not_old : (s : Sa) → WornOut (Q.book s.po) → s.po ≡ q → ⊥
  not_old s f e = grind arith

  old_heir :
      (k : ℕ) (s : Sa)
      → Heir Q.book P.book Q.link P.link Q.spi P.spi k s
      → Heir Q'.book P'.book Q'.link P'.link Q'.spi P'.spi k s
  old_heir k s r =
      record {
        old_own = omega arith;
        old_peers = r.old_peers;
        own_gone = still_gone s r.old_own r.own_gone;
        peers_left = still_left s r.peers_left;
        noted = seen_kept k q Q.spi d.ni n s Q.link (not_old s r.own_gone) r.noted;
      }

  p_rows : (k : ℕ) → Row P k → Row P' k
  p_rows k f = grind arith

  p_own : Own P → Own P'
  p_own f = grind arith

  p_faced : (k : ℕ) → Faced P Q k → Faced P' Q' k
  p_faced k f = grind arith

  p_request : Request P Q → (d.pp ≡ q) → Q.book Q.spi ≡ None → Request P' Q'
  p_request f e0 e1 = grind arith

  p_worn : (k : ℕ) → Worn P Q k → Worn P' Q' k
  p_worn k f = grind arith

  p_clash : Clash P Q → (d.pp ≡ q) → (OldSupersededOrStanding q b (P.book d.po)) → Clash Q P → Own Q → Q.book Q.spi ≡ None → Clash P' Q'
  p_clash f e0 e1 e2 e3 e4 = grind arith

  p_known : (k : ℕ) → Known P Q k → Faced P Q k → Known P' Q' k
  p_known k f e0 = grind arith

  p_children : (k : ℕ) → Made P Q k → Made P' Q' k
  p_children k f = grind arith

  p_heirs : (k : ℕ) → Rekeyed P Q k → Rekeyed P' Q' k
  p_heirs k f = heir_map P.book Q.book P'.book Q'.book P.link Q.link P'.link Q'.link P.spi Q.spi P'.spi Q'.spi k (P.born_here k) (λ s _ _ r. heir_here k s r) f

  p_given : Given P → Given P'
  p_given f = grind arith

  p_kept : (k : ℕ) → Kept P Q k → Given P → Made P Q k → Kept P' Q' k
  p_kept k f e0 e1 = grind arith

  p_lost : (k : ℕ) → Lost P Q k → Q.born_here Q.spi ≡ None → Lost P' Q' k
  p_lost k f e0 = grind arith

  p_collided : (k j : ℕ) → Collided P Q k j → Rekeyed P Q k → Own Q → (d.pp ≡ q) → Made P Q k → Collided P' Q' k j
  p_collided k j f e0 e1 e2 e3 = collided_with k (P.born_here k) (Q.born_here j) (eqb j Q.spi) f e0 e3 e1 e2

  p_met : Met P → Met P'
  p_met f = grind arith

  q_rows : (k : ℕ) → Row Q k → Row Q' k
  q_rows k f = grind arith

  q_own : Own Q → Q.book Q.spi ≡ None → Own Q'
  q_own f e0 = grind arith

  q_faced : (k : ℕ) → Faced Q P k → Own P → Row P o → Faced Q' P' k
  q_faced k f e0 e1 = grind arith

  q_request : Request Q P → Own Q → Q.book Q.spi ≡ None → Request Q' P'
  q_request f e0 e1 = grind arith

  q_worn : (k : ℕ) → Worn Q P k → Worn Q' P' k
  q_worn k f = grind arith

  q_clash : Clash Q P → (d.pp ≡ q) → (OldSupersededOrStanding q b (P.book d.po)) → Clash P Q → Own Q → Q.book Q.spi ≡ None → Clash Q' P'
  q_clash f e0 e1 e2 e3 e4 = clash_at Q.link f e0 e1 e2 e3 e4

  q_known : (k : ℕ) → Known Q P k → Known Q' P' k
  q_known k f = grind arith

  q_children : (k : ℕ) → Made Q P k → Own P → Row P o → Made Q' P' k
  q_children k f e0 e1 = grind arith

  q_heirs : (k : ℕ) → Rekeyed Q P k → (d.pp ≡ q) → (OldSupersededOrStanding q b (P.book d.po)) → Own P → Row Q q → Rekeyed Q' P' k
  q_heirs k f e0 e1 e2 e3 = heir_put Q'.book P'.book Q'.link P'.link Q'.spi P'.spi k (eqb k Q.spi) (Some (born o d n)) (Q.born_here k) (λ e₁. heir_new Q'.book P'.book Q'.link P'.link Q'.spi P'.spi k (born o d n) d.heir (rw (eqb-true k Q.spi e₁) (new_heir e0 e1 e2 e3))) (heir_map Q.book P.book Q'.book P'.book Q.link P.link Q'.link P'.link Q.spi P.spi Q'.spi P'.spi k (Q.born_here k) (λ s _ _ r. old_heir k s r) f)

  q_given : Given Q → Given Q'
  q_given f = grind arith

  q_used : (k : ℕ) → Used Q k → Used Q' k
  q_used k f = grind arith

  q_kept : (k : ℕ) → Kept Q P k → Given P → Made Q P k → Own P → Kept Q' P' k
  q_kept k f e0 e1 e2 = grind arith

  q_lost : (k : ℕ) → Lost Q P k → Own P → Given P → Lost Q' P' k
  q_lost k f e0 e1 = grind arith

  q_collided : (k j : ℕ) → Collided Q P k j → Own P → Collided Q' P' k j
  q_collided k j f e0 = grind arith

  q_met : Met Q → (d.pp ≡ q) → Own P → Own Q → Q.born_here Q.spi ≡ None → Met Q'
  q_met f e0 e1 e2 e3 = grind arith

  module _ (h : Half P Q) (g : Half Q P) where
    pub here : Half P' Q'
    here = record { sides = h.sides; rows = λ k. p_rows k (h.rows k); own = p_own h.own; faced = λ k. p_faced k (h.faced k); request = p_request h.request (pair P Q o d c q b was row is h g) (fresh_key g); worn = λ k. p_worn k (h.worn k); clash = p_clash h.clash (pair P Q o d c q b was row is h g) (old_cell P Q o d c q b was row is h g) g.clash g.own (fresh_key g); known = λ k. p_known k (h.known k) (h.faced k); children = λ k. p_children k (h.children k); heirs = λ k. p_heirs k (h.heirs k); given = p_given h.given; used = h.used; kept = λ k. p_kept k (h.kept k) h.given (h.children k); lost = λ k. p_lost k (h.lost k) (fresh_child g); collided = λ k j. p_collided k j (h.collided k j) (h.heirs k) g.own (pair P Q o d c q b was row is h g) (h.children k); met = p_met h.met }

    pub there : Half Q' P'
    there = record { sides = g.sides; rows = λ k. q_rows k (g.rows k); own = q_own g.own (fresh_key g); faced = λ k. q_faced k (g.faced k) h.own (h.rows o); request = q_request g.request g.own (fresh_key g); worn = λ k. q_worn k (g.worn k); clash = q_clash g.clash (pair P Q o d c q b was row is h g) (old_cell P Q o d c q b was row is h g) h.clash g.own (fresh_key g); known = λ k. q_known k (g.known k); children = λ k. q_children k (g.children k) h.own (h.rows o); heirs = λ k. q_heirs k (g.heirs k) (pair P Q o d c q b was row is h g) (old_cell P Q o d c q b was row is h g) h.own (g.rows q); given = q_given g.given; used = λ k. q_used k (g.used k); kept = λ k. q_kept k (g.kept k) h.given (g.children k) h.own; lost = λ k. q_lost k (g.lost k) h.own h.given; collided = λ k j. q_collided k j (g.collided k j) h.own; met = q_met g.met (pair P Q o d c q b was row is h g) h.own g.own (fresh_child g) }

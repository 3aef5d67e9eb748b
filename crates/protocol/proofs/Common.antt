-- What the steps' proofs share.
use Prim.Native.Nat.{ℕ}
use mathlib.Core.Path.{◌≡◌, refl}
use mathlib.Core.Bool.{Bool, true, false, not, cond}
use native.Mathlib.Omega.{arith}
use Rattle.std.specs.declared.option.Option.{Option}
use Rattle.std.specs.declared.option.Option.TheVariants.{Some, None}
use Rattle.nonce.specs.Order.{lowest_of, loser_by}
use Rattle.nonce.specs.declared.side.Side.{Side}
use Rattle.nonce.specs.declared.side.Side.TheVariants.{A, B}
use Rattle.nonce.specs.Sides.{is_side}
use Rattle.protocol.specs.Model.{Nonce, End, Cell, Link, opening, live, fresh, standing, superseded, closing, Sa, Seed, St, Coll, mirror, lose, sent, rekey, answered, Reply, Book, put, quiet, create, delete, check, made, no_such, refused, done, noted}
use Rattle.protocol.specs.Invariant.{ChildAt, Half, RowOwned, RowFaced, LinkOwned, LinkFaced, Heir, HeirIf, HeirAt, ParentLeft, Seen}

vacant : (s : ℕ) (l : Link) (c : Option Cell) → RowOwned s l s c → c ≡ None
vacant s l c f = grind arith

-- the next key is not in use
pub fresh_key : {P Q : End} → Half P Q → P.book P.spi ≡ None
fresh_key {P} h = vacant P.spi P.link (P.book P.spi) (h.rows P.spi)

-- the old SA of a rekey, as the asker has it
abbrev pub OldSupersededOrStanding : ℕ → Sa → Option Cell → Type 0
OldSupersededOrStanding q b None = ⊥
OldSupersededOrStanding q b (Some (opening d)) = ⊥
OldSupersededOrStanding q b (Some (live fresh a)) = ⊥
OldSupersededOrStanding q b (Some (live standing a)) = a ≡ mirror q b
OldSupersededOrStanding q b (Some (live superseded a)) = a ≡ mirror q b
OldSupersededOrStanding q b (Some (live closing a)) = ⊥

module _ (P Q : End) (o : ℕ) (d : Seed) (c : Coll) (q : ℕ) (b : Sa) (was : P.link ≡ sent (rekey o d c)) (row : Q.book q ≡ Some (live standing b)) (is : b.peer ≡ d.po) where
  pair_of : RowFaced P q (Q.book q) → LinkOwned P.spi P.book P.link → d.pp ≡ q
  pair_of f g = grind arith

  old_of : RowFaced P q (Q.book q) → LinkOwned P.spi P.book P.link → OldSupersededOrStanding q b (P.book d.po)
  old_of f g = grind arith

  pub pair : Half P Q → Half Q P → d.pp ≡ q
  pair h g = pair_of (g.faced q) h.own

  pub old_cell : Half P Q → Half Q P → OldSupersededOrStanding q b (P.book d.po)
  old_cell h g = old_of (g.faced q) h.own

one_side : (s : Side) → is_side s A ≡ not (is_side s B)
one_side A = refl
one_side B = refl

other_side : (s : Side) → is_side s B ≡ not (is_side s A)
other_side A = refl
other_side B = refl

-- of two rekeys that met, one loses
pub one_loses : (w : Bool) (i r e f : Nonce) → lose w i r e f ≡ not (lose (not w) e f i r)
unfolding lose
one_loses true i r e f = one_side (loser_by (lowest_of i r e f))
one_loses false i r e f = other_side (loser_by (lowest_of e f i r))

abbrev pub NotFresh : Option Cell → Type 0
NotFresh None = Unit {0}
NotFresh (Some (opening d)) = Unit {0}
NotFresh (Some (live fresh a)) = ⊥
NotFresh (Some (live standing a)) = Unit {0}
NotFresh (Some (live superseded a)) = Unit {0}
NotFresh (Some (live closing a)) = Unit {0}

-- a row that is not fresh may go: no request of the peer waits for it
pub request_drop :
    (spi : ℕ) (q b : Book) (x : ℕ) (l : Link) → NotFresh (b x) → LinkFaced spi q b l → LinkFaced spi q (put b x None) l
request_drop spi q b x quiet n f = tt
request_drop spi q b x (sent (create o d)) n f = grind arith
request_drop spi q b x (sent (rekey o d c)) n f = grind arith
request_drop spi q b x (sent (delete y)) n f = tt
request_drop spi q b x (sent check) n f = tt
request_drop spi q b x (answered (create o d) (made k m)) n f = grind arith
request_drop spi q b x (answered (create o d) no_such) n f = grind arith
request_drop spi q b x (answered (create o d) refused) n f = grind arith
request_drop spi q b x (answered (create o d) done) n f = grind arith
request_drop spi q b x (answered (rekey o d c) (made k m)) n f = grind arith
request_drop spi q b x (answered (rekey o d c) no_such) n f = grind arith
request_drop spi q b x (answered (rekey o d c) refused) n f = grind arith
request_drop spi q b x (answered (rekey o d c) done) n f = grind arith
request_drop spi q b x (answered (delete y) r) n f = grind arith
request_drop spi q b x (answered check r) n f = tt

pub dropped_not_fresh : (b : Book) (o x : ℕ) → NotFresh (b x) → NotFresh (put b o None x)
dropped_not_fresh b o x f = grind arith

module _ (P : End) (o : ℕ) (d : Seed) (c : Coll) (r : Reply) (was : P.link ≡ answered (rekey o d c) r) where
  opening_of : LinkOwned P.spi P.book P.link → NotFresh (P.book o)
  opening_of f = grind arith

  old_of_rekey : LinkOwned P.spi P.book P.link → NotFresh (P.book d.po)
  old_of_rekey f = grind arith

  pub opening_not_fresh : {Q : End} → Half P Q → NotFresh (P.book o)
  opening_not_fresh h = opening_of h.own

  pub old_not_fresh : {Q : End} → Half P Q → NotFresh (P.book d.po)
  old_not_fresh h = old_of_rekey h.own

-- a row that is not fresh may start to close
pub request_close :
    (spi : ℕ) (q b : Book) (x : ℕ) (a : Sa) (s : St) (l : Link)
    → b x ≡ Some (live s a)
    → (s ≡ fresh → ⊥)
    → LinkFaced spi q b l
    → LinkFaced spi q (put b x (Some (live closing a))) l
request_close spi q b x a s quiet e n f = tt
request_close spi q b x a s (sent (create o d)) e n f = grind arith
request_close spi q b x a s (sent (rekey o d c)) e n f = grind arith
request_close spi q b x a s (sent (delete y)) e n f = tt
request_close spi q b x a s (sent check) e n f = tt
request_close spi q b x a s (answered (create o d) (made k m)) e n f = grind arith
request_close spi q b x a s (answered (create o d) no_such) e n f = grind arith
request_close spi q b x a s (answered (create o d) refused) e n f = grind arith
request_close spi q b x a s (answered (create o d) done) e n f = grind arith
request_close spi q b x a s (answered (rekey o d c) (made k m)) e n f = grind arith
request_close spi q b x a s (answered (rekey o d c) no_such) e n f = grind arith
request_close spi q b x a s (answered (rekey o d c) refused) e n f = grind arith
request_close spi q b x a s (answered (rekey o d c) done) e n f = grind arith
request_close spi q b x a s (answered (delete y) r) e n f = grind arith
request_close spi q b x a s (answered check r) e n f = tt

abbrev pub Owns : Link → ℕ → Type 0
Owns quiet k = ⊥
Owns (sent (create o d)) k = o ≡ k
Owns (sent (rekey o d c)) k = o ≡ k
Owns (sent (delete x)) k = ⊥
Owns (sent check) k = ⊥
Owns (answered (create o d) r) k = o ≡ k
Owns (answered (rekey o d c) r) k = o ≡ k
Owns (answered (delete x) r) k = ⊥
Owns (answered check r) k = ⊥

-- an opening row may come to stand, unless its peer's key is one that the peer opens
pub request_grow :
    (spi : ℕ) (q b : Book) (x : ℕ) (e : Seed) (a : Sa) (s : St) (l : Link)
    → b x ≡ Some (opening e)
    → (Owns l a.peer → ⊥)
    → LinkFaced spi q b l
    → LinkFaced spi q (put b x (Some (live s a))) l
request_grow spi q b x e a s quiet g n f = tt
request_grow spi q b x e a s (sent (create o d)) g n f = grind arith
request_grow spi q b x e a s (sent (rekey o d c)) g n f = grind arith
request_grow spi q b x e a s (sent (delete y)) g n f = tt
request_grow spi q b x e a s (sent check) g n f = tt
request_grow spi q b x e a s (answered (create o d) (made k m)) g n f = grind arith
request_grow spi q b x e a s (answered (create o d) no_such) g n f = grind arith
request_grow spi q b x e a s (answered (create o d) refused) g n f = grind arith
request_grow spi q b x e a s (answered (create o d) done) g n f = grind arith
request_grow spi q b x e a s (answered (rekey o d c) (made k m)) g n f = grind arith
request_grow spi q b x e a s (answered (rekey o d c) no_such) g n f = grind arith
request_grow spi q b x e a s (answered (rekey o d c) refused) g n f = grind arith
request_grow spi q b x e a s (answered (rekey o d c) done) g n f = grind arith
request_grow spi q b x e a s (answered (delete y) r) g n f = grind arith
request_grow spi q b x e a s (answered check r) g n f = tt

-- what holds of each heir, one at a time
heir_map_if :
    (p q p' q' : Book) (l m l' m' : Link) (i j i' j' k : ℕ) (s : Sa) (b : Bool)
    → (b ≡ true → Heir p q l m i j k s → Heir p' q' l' m' i' j' k s)
    → HeirIf b p q l m i j k s
    → HeirIf b p' q' l' m' i' j' k s
heir_map_if p q p' q' l m l' m' i j i' j' k s true f r = f refl r
heir_map_if p q p' q' l m l' m' i j i' j' k s false f r = tt

pub heir_map :
    (p q p' q' : Book) (l m l' m' : Link) (i j i' j' k : ℕ) (c : Option Sa)
    → ((s : Sa) → c ≡ Some s → s.heir ≡ true → Heir p q l m i j k s → Heir p' q' l' m' i' j' k s)
    → HeirAt p q l m i j k c
    → HeirAt p' q' l' m' i' j' k c
heir_map p q p' q' l m l' m' i j i' j' k None f r = tt
heir_map p q p' q' l m l' m' i j i' j' k (Some s) f r =
    heir_map_if p q p' q' l m l' m' i j i' j' k s s.heir (f s refl) r

-- noting a collision leaves what a request opens
pub left_noted : (x j : ℕ) (e f : Nonce) (m : Link) (o : ℕ) (c : Option Cell) → ParentLeft m o c → ParentLeft (noted x j e f m) o c
left_noted x j e f m o c h = grind arith

pub seen_noted : (k : ℕ) (s : Sa) (l : Link) → Seen k (noted s.po k s.ni s.nr l) s
seen_noted k s l = grind arith

pub seen_kept : (k x j : ℕ) (e f : Nonce) (s : Sa) (l : Link) → (s.po ≡ x → ⊥) → Seen k l s → Seen k (noted x j e f l) s
seen_kept k x j e f s l n h = grind arith

pub heir_put :
    (p q : Book) (l m : Link) (i j k : ℕ) (b : Bool) (c d : Option Sa)
    → (b ≡ true → HeirAt p q l m i j k c)
    → HeirAt p q l m i j k d
    → HeirAt p q l m i j k (cond b c d)
heir_put p q l m i j k true c d f g = f refl
heir_put p q l m i j k false c d f g = g

pub heir_new : (p q : Book) (l m : Link) (i j k : ℕ) (s : Sa) (b : Bool) → Heir p q l m i j k s → HeirIf b p q l m i j k s
heir_new p q l m i j k s true f = f
heir_new p q l m i j k s false f = tt

pub heir_then : (p q : Book) (l m : Link) (i j k : ℕ) (s : Sa) (b : Bool) → b ≡ true → HeirIf b p q l m i j k s → Heir p q l m i j k s
heir_then p q l m i j k s true e f = f
heir_then p q l m i j k s false e f = absurd (grind arith)

childless : (p q : Book) (m : Link) (i j : ℕ) (c : Option Sa) → ChildAt p q m i j i c → c ≡ None
childless p q m i j c f = grind arith

-- no SA was made under the next key
pub fresh_child : {P Q : End} → Half P Q → P.born_here P.spi ≡ None
fresh_child {P} {Q} h = childless P.book Q.book Q.link P.spi Q.spi (P.born_here P.spi) (h.children P.spi)

-- What waits, as one is added or taken.
use Rattle.std.proofs.Common.{◌≡◌, ℕ, ◌<◌, ◌≤◌, Bool, true, ◌⊎◌, List, [], ◌∷◌, ◌++◌, length, Some, None, Option, sym, refl, ap, ◌∙◌, inl, inr, ⊎_elim, arith}
use Rattle.std.proofs.lemmas.List.{length-append}
use Rattle.nonce.specs.declared.side.Side.{Side}
use Rattle.nonce.specs.declared.side.Side.TheVariants.{A, B}
use Rattle.nonce.specs.Sides.{other}
use Rattle.channel.specs.Meaning.{Meaning, Without, Within}
use Rattle.line.specs.Meaning.{Same, Sent, Got}
use Rattle.line.specs.Calls.{Msg, Coding, Good}
use Rattle.line.specs.Rest.{waits, coded, Held, Short}

abbrev Texts : Type 0
Texts = List (List ℕ)

-- lists with one more, or one less
onto_none : (ws : Texts) (x : List ℕ) (front back : Texts) → ws ≡ front ++ (x ∷ back) → [] ≡ front ++ back → ws ≡ x ∷ []
onto_none ws x [] back e f = let g : back ≡ [] = cc in rw g at e
onto_none ws x (y ∷ front) back e f = absurd (let z : ◌≡◌ {A = ℕ} 0 1 = cc in omega arith)

onto_one : (ws : Texts) (x y : List ℕ) (front back : Texts) → ws ≡ front ++ (x ∷ back) → y ∷ [] ≡ front ++ back → (ws ≡ x ∷ (y ∷ [])) ⊎ (ws ≡ y ∷ (x ∷ []))
onto_one ws x y [] back e f = inl (let g : back ≡ y ∷ [] = cc in cc)
onto_one ws x y (z ∷ []) back e f = inr (let g : back ≡ [] = cc in let h : z ≡ y = cc in cc)
onto_one ws x y (z ∷ (v ∷ front)) back e f = absurd (let n = ap length f in omega arith)

from_one : (x d : List ℕ) (front back rest : Texts) → x ∷ [] ≡ front ++ (d ∷ back) → rest ≡ front ++ back → (x ≡ d) × (rest ≡ [])
from_one x d [] back rest e f = (cc, let g : back ≡ [] = cc in cc)
from_one x d (y ∷ front) back rest e f = absurd (let n = ap length e in let l = length-append front (d ∷ back) in omega arith)

from_two :
    (x y d : List ℕ) (front back rest : Texts)
    → x ∷ (y ∷ []) ≡ front ++ (d ∷ back)
    → rest ≡ front ++ back
    → ((x ≡ d) × (rest ≡ y ∷ [])) ⊎ ((y ≡ d) × (rest ≡ x ∷ []))
from_two x y d [] back rest e f = inl (cc, let g : back ≡ y ∷ [] = cc in cc)
from_two x y d (z ∷ []) back rest e f = inr (cc, let g : back ≡ [] = cc in let h : z ≡ x = cc in cc)
from_two x y d (z ∷ (v ∷ front)) back rest e f = absurd (let n = ap length e in let l = length-append front (d ∷ back) in omega arith)

pub add_left : (ws vs : Texts) (x : List ℕ) (p : Option (List ℕ)) → waits ws None p → Without vs x ws → waits vs (Some x) p
add_left ws vs x None h w = onto_none vs x w.front w.back w.was (sym h ∙ w.left)
add_left ws vs x (Some y) h w = onto_one vs x y w.front w.back w.was (sym h ∙ w.left)

pub add_right : (ws vs : Texts) (y : List ℕ) (p : Option (List ℕ)) → waits ws p None → Without vs y ws → waits vs p (Some y)
add_right ws vs y None h w = onto_none vs y w.front w.back w.was (sym h ∙ w.left)
add_right ws vs y (Some x) h w = ⊎_elim inr inl (onto_one vs y x w.front w.back w.was (sym h ∙ w.left))

pub take_one :
    (ws vs : Texts) (d : List ℕ) (p q : Option (List ℕ))
    → waits ws p q
    → Without ws d vs
    → ((p ≡ Some d) × waits vs None q) ⊎ ((q ≡ Some d) × waits vs p None)
take_one ws vs d None None h w = absurd (let e = w.was in let n = ap length (sym h ∙ e) in let l = length-append w.front (d ∷ w.back) in omega arith)
take_one ws vs d None (Some y) h w =
    let k = from_one y d w.front w.back vs (sym h ∙ w.was) w.left in inr (ap Some k.0, k.1)
take_one ws vs d (Some x) None h w =
    let k = from_one x d w.front w.back vs (sym h ∙ w.was) w.left in inl (ap Some k.0, k.1)
take_one ws vs d (Some x) (Some y) h w = ⊎_elim (one) (two) h
  where
    one : ws ≡ x ∷ (y ∷ []) → ((Some x ≡ Some d) × waits vs None (Some y)) ⊎ ((Some y ≡ Some d) × waits vs (Some x) None)
    one e =
        ⊎_elim (λ k. inl (ap Some k.0, k.1)) (λ k. inr (ap Some k.0, k.1))
        (from_two x y d w.front w.back vs (sym e ∙ w.was) w.left)

    two : ws ≡ y ∷ (x ∷ []) → ((Some x ≡ Some d) × waits vs None (Some y)) ⊎ ((Some y ≡ Some d) × waits vs (Some x) None)
    two e =
        ⊎_elim (λ k. inr (ap Some k.0, k.1)) (λ k. inl (ap Some k.0, k.1))
        (from_two y x d w.front w.back vs (sym e ∙ w.was) w.left)

few_left : (ws : Texts) (p : Option (List ℕ)) → waits ws None p → length ws < 2
few_left ws None h = rw h (omega arith)
few_left ws (Some y) h = rw h (omega arith)

few_right : (ws : Texts) (p : Option (List ℕ)) → waits ws p None → length ws < 2
few_right ws None h = rw h (omega arith)
few_right ws (Some y) h = rw h (omega arith)

few : (ws : Texts) (p q : Option (List ℕ)) → waits ws p q → length ws ≤ 2
few ws None None h = rw h (omega arith)
few ws None (Some y) h = rw h (omega arith)
few ws (Some x) None h = rw h (omega arith)
few ws (Some x) (Some y) h = ⊎_elim (λ (e : ws ≡ x ∷ (y ∷ [])). rw e (omega arith)) (λ (e : ws ≡ y ∷ (x ∷ [])). rw e (omega arith)) h

pub none_waits : (ws : Texts) (p q : Option (List ℕ)) → waits ws p q → ws ≡ [] → (p ≡ None) × (q ≡ None)
none_waits ws None None h e = (refl, refl)
none_waits ws None (Some y) h e = absurd (let z : ◌≡◌ {A = ℕ} 0 1 = cc in omega arith)
none_waits ws (Some x) None h e = absurd (let z : ◌≡◌ {A = ℕ} 0 1 = cc in omega arith)
none_waits ws (Some x) (Some y) h e = absurd (⊎_elim (λ (k : ws ≡ x ∷ (y ∷ [])). by k) (λ (k : ws ≡ y ∷ (x ∷ [])). by k) h)
  where
    by : {a b : List ℕ} → ws ≡ a ∷ (b ∷ []) → ⊥
    by k = let z : ◌≡◌ {A = ℕ} 0 1 = cc in omega arith

uncoded : (K : Coding) (s : Side) (p : Option Msg) → coded K s p ≡ None → p ≡ None
uncoded K s None e = refl
uncoded K s (Some m) e = absurd (let z : ◌≡◌ {A = ℕ} 0 1 = cc in omega arith)

abbrev pub AllGood : Coding → Option Msg → Type 0
AllGood K None = Unit {0}
AllGood K (Some m) = Good K m

pub all_good : (K : Coding) (p : Option Msg) → ((m : Msg) → p ≡ Some m → Good K m) → AllGood K p
all_good K None h = tt
all_good K (Some m) h = h m refl

the_one : (K : Coding) (s : Side) (p : Option Msg) (d : List ℕ) → AllGood K p → coded K s p ≡ Some d → (m : Msg) × (p ≡ Some m) × (K.dec s d ≡ Some m)
the_one K s None d g e = absurd (let z : ◌≡◌ {A = ℕ} 0 1 = cc in omega arith)
the_one K s (Some m) d g e = let f : K.enc s m ≡ d = cc in (m, refl, sym (ap (K.dec s) f) ∙ K.back s m g)

empty_or : (ws : Texts) → (ws ≡ []) ⊎ (0 < length ws)
empty_or [] = inl refl
empty_or (x ∷ ws) = inr (omega arith)

sent_adds :
    (s : Side) (m n : Meaning) (d : List ℕ) (t : Bool)
    → Sent m n (other s) d t
    → Within m d
    → length (m.waiting (other s)) < m.depth
    → (t ≡ true) × (n.depth ≡ m.depth) × Without (n.waiting (other s)) d (m.waiting (other s)) × (n.waiting s ≡ m.waiting s)
sent_adds A m n d t h = h.adds
sent_adds B m n d t h = h.adds

module _ (K : Coding) (wide : ℕ) (short : Short K wide) (s : Side) (m n : Meaning) where
  -- a request, or a reply, is taken
  pub sends_request :
      (a : Msg) (y v w : Option Msg) (t : Bool)
      → Good K a
      → Held K wide s m None y v w
      → Sent m n (other s) (K.enc s a) t
      → Held K wide s n (Some a) y v w
  sends_request a y v w t g h k =
      let few = few_left _ (coded K s y) h.there in
      let x = sent_adds s m n (K.enc s a) t k (let z = short s a g in (z.0, omega (arith, h.long))) (omega (arith, h.deep)) in
      record {
        deep = omega (arith, x.1, h.deep);
        long = omega (arith, k.longest, h.long);
        there = add_left _ _ (K.enc s a) (coded K s y) h.there x.2;
        here = rw x.3 h.here;
      }

  pub sends_reply :
      (a : Msg) (x v w : Option Msg) (t : Bool)
      → Good K a
      → Held K wide s m x None v w
      → Sent m n (other s) (K.enc s a) t
      → Held K wide s n x (Some a) v w
  sends_reply a o v w t g h k =
      let few = few_right _ (coded K s o) h.there in
      let x = sent_adds s m n (K.enc s a) t k (let z = short s a g in (z.0, omega (arith, h.long))) (omega (arith, h.deep)) in
      record {
        deep = omega (arith, x.1, h.deep);
        long = omega (arith, k.longest, h.long);
        there = add_right _ _ (K.enc s a) (coded K s o) h.there x.2;
        here = rw x.3 h.here;
      }

  pub same_held : (x y v w : Option Msg) → Held K wide s m x y v w → Same m n → Held K wide s n x y v w
  same_held x y v w h k =
      record {
        deep = omega (arith, k.depth, h.deep);
        long = omega (arith, k.longest, h.long);
        there = rw (k.waiting (other s)) h.there;
        here = rw (k.waiting s) h.here;
      }

  -- nothing comes only where nothing waits
  pub gets_nothing : (x y v w : Option Msg) → Held K wide s m x y v w → Got m n s None → (m.waiting s ≡ []) × Same m n
  gets_nothing x y v w h k = ⊎_elim (λ e. (e, (k.none (omega (arith, h.deep)) e).1)) (λ l. absurd (by l)) (empty_or (m.waiting s))
    where
      by : 0 < length (m.waiting s) → ⊥
      by l = let f = few _ (coded K (other s) v) (coded K (other s) w) h.here in (k.one l (omega (arith, h.deep))).0

  -- what comes is a request or a reply that waits
  pub gets_one :
      (x y v w : Option Msg) (d : List ℕ)
      → AllGood K v
      → AllGood K w
      → Held K wide s m x y v w
      → Got m n s (Some d)
      → ((a : Msg) × (v ≡ Some a) × (K.dec (other s) d ≡ Some a) × Held K wide s n x y None w)
      ⊎ ((a : Msg) × (w ≡ Some a) × (K.dec (other s) d ≡ Some a) × Held K wide s n x y v None)
  gets_one x y v w d gv gw h k = ⊎_elim (λ e. absurd (never e)) some (empty_or (m.waiting s))
    where
      never : m.waiting s ≡ [] → ⊥
      never e = let f = (k.none (omega (arith, h.deep)) e).0 in let z : ◌≡◌ {A = ℕ} 0 1 = cc in omega arith

      held : (p q : Option Msg) → (n.depth ≡ m.depth) → (n.waiting (other s) ≡ m.waiting (other s)) → waits (n.waiting s) (coded K (other s) p) (coded K (other s) q) → Held K wide s n x y p q
      held p q e f g = record { deep = omega (arith, h.deep); long = omega (arith, k.longest, h.long); there = rw f h.there; here = g }

      some : 0 < length (m.waiting s)
          → ((a : Msg) × (v ≡ Some a) × (K.dec (other s) d ≡ Some a) × Held K wide s n x y None w)
          ⊎ ((a : Msg) × (w ≡ Some a) × (K.dec (other s) d ≡ Some a) × Held K wide s n x y v None)
      some l =
          let f = few _ (coded K (other s) v) (coded K (other s) w) h.here in
          let g = k.one l (omega (arith, h.deep)) in
          ⊎_elim (λ e. let o = the_one K (other s) v d gv e.0 in inl (o.0, o.1, o.2, held None w g.1 g.2 e.1))
          (λ e. let o = the_one K (other s) w d gw e.0 in inr (o.0, o.1, o.2, held v None g.1 g.2 e.1))
          (take_one (m.waiting s) (n.waiting s) d (coded K (other s) v) (coded K (other s) w) h.here g.0)

  -- where nothing waits for an end, nothing is due to it
  pub nothing_due : (x y v w : Option Msg) → Held K wide s m x y v w → m.waiting s ≡ [] → (v ≡ None) × (w ≡ None)
  nothing_due x y v w h e =
      let k = none_waits _ (coded K (other s) v) (coded K (other s) w) h.here e in
      (uncoded K (other s) v k.0, uncoded K (other s) w k.1)

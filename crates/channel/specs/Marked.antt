-- Marked datagrams, and lists of them.
use Rattle.std.specs.Prelude.{◌≡◌, ℕ, ◌-◌, ◌≤◌, Bool, true, ◌&&◌, List, [], ◌∷◌, ◌++◌, map, length, take, drop, ◌==◌, refl}
use Rattle.std.proofs.Common.{sym, ap, subst, ◌∙◌, inl, inr, arith}
use Rattle.std.proofs.lemmas.List.{length-drop, map-append, take_at, drop_at}
use Rattle.std.proofs.lemmas.Bool.{false≢true, eqb-true, ltb-true, lt-ltb, and_parts, and_from}
use Rattle.nonce.specs.declared.side.Side.{Side}
use Rattle.nonce.specs.declared.side.Side.TheVariants.{A, B}
use Rattle.nonce.specs.Sides.{other}
use Rattle.channel.specs.Meaning.{In, Without}
use Rattle.channel.specs.Marks.{mark, is_marked, all_marked}

-- ---- one datagram

pub marked_long : (d : List ℕ) → is_marked d ≡ true → 5 ≤ length d
marked_long d h = ltb-true 4 (length d) (and_parts _ _ h).0

-- a marked datagram is the mark and what is behind it
pub marks_back : (d : List ℕ) → is_marked d ≡ true → d ≡ mark (drop 4 d)
marks_back [] h = absurd (false≢true h)
marks_back (a ∷ []) h = absurd (false≢true h)
marks_back (a ∷ b ∷ []) h = absurd (false≢true h)
marks_back (a ∷ b ∷ c ∷ []) h = absurd (false≢true h)
marks_back (a ∷ b ∷ c ∷ d ∷ xs) h =
    let p = and_parts (a == 0) (b == 0 && (c == 0 && d == 0)) (and_parts _ _ h).1 in
    let q = and_parts (b == 0) (c == 0 && d == 0) p.1 in
    let r = and_parts (c == 0) (d == 0) q.1 in
    rw (eqb-true a 0 p.0, eqb-true b 0 q.0, eqb-true c 0 r.0, eqb-true d 0 r.1)

pub mark_is_marked : (d : List ℕ) → 1 ≤ length d → is_marked (mark d) ≡ true
mark_is_marked d h = and_from _ _ (lt-ltb 4 (length (mark d)) (omega arith)) refl

pub length_behind : (d : List ℕ) → is_marked d ≡ true → 1 ≤ length (drop 4 d)
length_behind d h = omega (arith, length-drop 4 d, marked_long d h)

-- what is behind the mark, written over the front of a buffer
module _ (d was : List ℕ) where
  pub front_behind : take (length d - 4) (drop 4 d ++ drop (length d - 4) was) ≡ drop 4 d
  front_behind = take_at (drop 4 d) (drop (length d - 4) was) (length d - 4) (length-drop 4 d)

  pub rest_behind : drop (length d - 4) (drop 4 d ++ drop (length d - 4) was) ≡ drop (length d - 4) was
  rest_behind = drop_at (drop 4 d) (drop (length d - 4) was) (length d - 4) (length-drop 4 d)

-- ---- lists

all_put :
    (front back : List (List ℕ)) (d : List ℕ) → is_marked d ≡ true → all_marked (front ++ back) ≡ true →
    all_marked (front ++ (d ∷ back)) ≡ true
all_put [] back d h k = and_from _ _ h k
all_put (x ∷ front) back d h k = let p = and_parts _ _ k in and_from _ _ p.0 (all_put front back d h p.1)

all_get :
    (front back : List (List ℕ)) (d : List ℕ) → all_marked (front ++ (d ∷ back)) ≡ true →
    (is_marked d ≡ true) × (all_marked (front ++ back) ≡ true)
all_get [] back d k = and_parts _ _ k
all_get (x ∷ front) back d k =
    let p = and_parts _ _ k in
    let q = all_get front back d p.1 in
    (q.0, and_from _ _ p.0 q.1)

module _ {ds : List (List ℕ)} {d : List ℕ} {rest : List (List ℕ)} (w : Without ds d rest) where
  pub all_with : is_marked d ≡ true → all_marked rest ≡ true → all_marked ds ≡ true
  all_with h k = ap all_marked w.was ∙ all_put w.front w.back d h (ap all_marked (sym w.left) ∙ k)

  pub all_without : all_marked ds ≡ true → (is_marked d ≡ true) × (all_marked rest ≡ true)
  all_without k =
      let p = all_get w.front w.back d (ap all_marked (sym w.was) ∙ k) in
      (p.0, ap all_marked w.left ∙ p.1)

  -- the same without the marks
  pub cut_without : Without (map (drop 4) ds) (drop 4 d) (map (drop 4) rest)
  cut_without = record {
    front = map (drop 4) w.front;
    back = map (drop 4) w.back;
    was = ap (map (drop 4)) w.was ∙ map-append (drop 4) w.front (d ∷ w.back);
    left = ap (map (drop 4)) w.left ∙ map-append (drop 4) w.front w.back;
  }

pub in_cut : (ds : List (List ℕ)) (d : List ℕ) → In (mark d) ds → In d (map (drop 4) ds)
in_cut [] d h = elim h [ ]
in_cut (x ∷ ds) d (inl e) = inl (ap (drop 4) e)
in_cut (x ∷ ds) d (inr h) = inr (in_cut ds d h)

pub in_back :
    (ds : List (List ℕ)) (d : List ℕ) → all_marked ds ≡ true → In d (map (drop 4) ds) → (1 ≤ length d) × In (mark d) ds
in_back [] d k h = elim h [ ]
in_back (x ∷ ds) d k (inl e) =
    let t = (and_parts _ _ k).0 in
    (subst (λ (y : List ℕ). 1 ≤ length y) e (length_behind x t), inl (marks_back x t ∙ ap mark e))
in_back (x ∷ ds) d k (inr h) = let q = in_back ds d (and_parts _ _ k).1 h in (q.0, inr q.1)

-- ---- both ends

module _ (ws : Side → List (List ℕ)) where
  abbrev pub both_marked : Bool
  both_marked = all_marked (ws A) && all_marked (ws B)

  pub each_marked : both_marked ≡ true → (e : Side) → all_marked (ws e) ≡ true
  each_marked h A = (and_parts _ _ h).0
  each_marked h B = (and_parts _ _ h).1

  pub both_from : (e : Side) → all_marked (ws e) ≡ true → all_marked (ws (other e)) ≡ true → both_marked ≡ true
  both_from A h k = and_from _ _ h k
  both_from B h k = and_from _ _ k h

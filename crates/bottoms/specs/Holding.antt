-- A channel that holds datagrams keeps the rules of a channel.
use Rattle.std.specs.Prelude.{◌≡◌, ℕ, ◌<◌, ◌≤◌, Bool, true, false, cond, ◌⊎◌, List, [], ◌∷◌, ◌++◌, length, take, drop, Some, None, Option, refl, nat_le, nat_lt}
use Rattle.std.proofs.Common.{sym, ap, subst, ◌∙◌, inl, inr, ⊎_elim, arith}
use Rattle.std.proofs.lemmas.List.{append-nil, take_at, drop_at}
use Rattle.std.proofs.lemmas.Bool.{and_from, and_parts, both_ways, cases_Bool, leb-true, le-leb, ltb-true, lt-ltb, cond-true, cond-false}
use Rattle.nonce.specs.declared.side.Side.{Side}
use Rattle.nonce.specs.declared.side.Side.TheVariants.{A, B}
use Rattle.nonce.specs.Sides.{other}
use Rattle.channel.specs.Meaning.{In, Without, Sound}
use Rattle.channel.specs.Effects.{SentAs, ReceivedAs}
use Rattle.channel.specs.declared.sent.Sent.TheVariants.{Taken, NotTaken}
use Rattle.bottoms.specs.Datagrams.{is_sized, all_sized, first_of}
use Rattle.bottoms.specs.Stores.{Store, list_at, with_list, admits, serves, with_left, received, added_last, added_first, store_of}
use Rattle.bottoms.specs.Bottoms.{holding}
use Rattle.bottoms.specs.declared.lanes.Lanes.{Lanes}
use Rattle.bottoms.specs.Sizes.{sized_parts, sized_from}
use Rattle.bottoms.specs.Fates.{fated}
use Rattle.bottoms.specs.declared.rule.Fate.{Fate}
use Rattle.bottoms.specs.declared.rule.Fate.TheVariants.{Pass, Lose, Double, Jump}

-- ---- lists

in_sized : (longest : ℕ) (ds : List (List ℕ)) (d : List ℕ) → all_sized longest ds ≡ true → In d ds → is_sized longest d ≡ true
in_sized longest [] d h i = elim i [ ]
in_sized longest (x ∷ ds) d h (inl e) = subst (λ (y : List ℕ). is_sized longest y ≡ true) e (and_parts _ _ h).0
in_sized longest (x ∷ ds) d h (inr i) = in_sized longest ds d (and_parts _ _ h).1 i

in_last : (ds : List (List ℕ)) (d x : List ℕ) → In x (ds ++ (d ∷ [])) → In x ds ⊎ (d ≡ x)
in_last [] d x (inl e) = inr e
in_last [] d x (inr i) = elim i [ ]
in_last (y ∷ ds) d x (inl e) = inl (inl e)
in_last (y ∷ ds) d x (inr i) = ⊎_elim (λ j. inl (inr j)) (λ e. inr e) (in_last ds d x i)

-- the list at a side, and at the other
list_here : (s : Store) (side : Side) (ds : List (List ℕ)) → list_at (with_list s side ds) side ≡ ds
list_here s A ds = refl
list_here s B ds = refl

list_there : (s : Store) (side : Side) (ds : List (List ℕ)) → list_at (with_list s side ds) (other side) ≡ list_at s (other side)
list_there s A ds = refl
list_there s B ds = refl

longest_same : (s : Store) (side : Side) (ds : List (List ℕ)) → (with_list s side ds).longest ≡ s.longest
longest_same s A ds = refl
longest_same s B ds = refl

-- what holds of a side and of the other holds of both
both : (P : Side → Type 0) (side e : Side) → P side → P (other side) → P e
both P A A h k = h
both P A B h k = k
both P B A h k = k
both P B B h k = h

-- ---- what holds always

lanes_sized : (l : Lanes) (e : Side) → all_sized l.longest (list_at (store_of l) e) ≡ true
lanes_sized l A = l.sizes A
lanes_sized l B = l.sizes B

module _ (depth : ℕ) (l : Lanes) where
  pub holding_sound : Sound (holding depth (store_of l))
  holding_sound = record {
    most = l.most;
    sized = λ e d i. sized_parts l.longest d (in_sized l.longest (list_at (store_of l) e) d (lanes_sized l e) i);
    listed = λ e d _ i. i;
    comes = λ e d _ i. i;
  }

-- ---- a send that is taken

-- The other list stays, and this one has nothing more than it had, and d.
pub record Grown (s : Store) (to : Side) (d : List ℕ) (next : Store) : Type 0 where
  pub long : next.longest ≡ s.longest
  pub there : list_at next (other to) ≡ list_at s (other to)
  pub here : (x : List ℕ) → In x (list_at next to) → In x (list_at s to) ⊎ (d ≡ x)

module _ (s : Store) (to : Side) (d : List ℕ) where
  pub grown_none : Grown s to d s
  grown_none = record { long = refl; there = refl; here = λ x i. inl i }

  grown_list :
      (next : Store) (ds : List (List ℕ)) → Grown s to d next →
      ((x : List ℕ) → In x ds → In x (list_at next to) ⊎ (d ≡ x)) → Grown s to d (with_list next to ds)
  grown_list next ds g more = record {
    long = longest_same next to ds ∙ g.long;
    there = list_there next to ds ∙ g.there;
    here = λ x i. ⊎_elim (g.here x) (λ e. inr e) (more x (subst (In x) (list_here next to ds) i));
  }

  pub grown_last : (next : Store) → Grown s to d next → Grown s to d (added_last next to d)
  grown_last next g = grown_list next _ g (in_last (list_at next to) d)

  pub grown_first : (next : Store) → Grown s to d next → Grown s to d (added_first next to d)
  grown_first next g = grown_list next _ g (λ x i. ⊎_elim (λ e. inr e) (λ j. inl j) i)

  -- one more
  pub grown_once : Grown s to d (added_last s to d)
  grown_once = grown_last s grown_none

  grown_twice : (b : Bool) → Grown s to d (cond b (added_last (added_last s to d) to d) (added_last s to d))
  grown_twice true = grown_last (added_last s to d) grown_once
  grown_twice false = grown_once

  pub grown_by : (fate : Fate) → Grown s to d (fated fate s to d)
  grown_by Pass = grown_once
  grown_by Lose = grown_none
  grown_by Double = grown_twice (admits (added_last s to d) to d)
  grown_by Jump = grown_first s grown_none

  -- what is added once is there once more
  pub once_more : (fate : Fate) → (fate ≡ Pass) ⊎ (fate ≡ Jump) → Without (list_at (fated fate s to d) to) d (list_at s to)
  once_more fate (inl e) = rw e (record {
    front = list_at s to;
    back = [];
    was = list_here s to (list_at s to ++ (d ∷ []));
    left = sym (append-nil (list_at s to));
  })
  once_more fate (inr e) = rw e (record { front = []; back = list_at s to; was = list_here s to (d ∷ list_at s to); left = refl })

module _ (depth : ℕ) (s : Store) (to : Side) (d : List ℕ) where
  -- a fate that adds once, if there is a depth
  pub fated_sent :
      (fate : Fate) → (0 < depth → (fate ≡ Pass) ⊎ (fate ≡ Jump)) → (after : Store) → after ≡ fated fate s to d →
      SentAs (holding depth s) (holding depth after) to d Taken
  fated_sent fate once after e =
      let g = grown_by s to d fate in
      rw e (record {
        longest = g.long;
        here = λ x i. ⊎_elim (λ j. inl j) (λ f. inr (refl, f)) (g.here x i);
        there = λ x i. subst (In x) g.there i;
        adds = λ _ l. record { taken = refl; depth = refl; here = once_more s to d fate (once (omega (arith, l))); there = g.there };
      })

  -- what is not admitted is too long, or the end is full
  pub refused_sent : depth ≤ 32 → admits s to d ≡ false → SentAs (holding depth s) (holding depth s) to d NotTaken
  refused_sent few full = record {
    longest = refl;
    here = λ x i. inl i;
    there = λ x i. i;
    adds = λ fit l.
        let room : length (list_at s to) < 32 = omega (arith, l, few) in
        absurd (both_ways (admits s to d) full (and_from _ _ (sized_from s.longest d fit.0 fit.1) (lt-ltb (length (list_at s to)) 32 room)));
  }

-- ---- a receive

module _ (depth : ℕ) (l : Lanes) (side : Side) (was : List ℕ) where
  abbrev s : Store
  s = store_of l

  -- the first is given
  given :
      (first : List ℕ) (rest : List (List ℕ)) → list_at s side ≡ first ∷ rest → s.longest ≤ length was →
      ReceivedAs (holding depth s) (holding depth (with_list s side rest)) side was (first ++ drop (length first) was) (Some (length first))
  given first rest list wide =
      let here = list_here s side rest in
      let there = list_there s side rest in
      let front : take (length first) (first ++ drop (length first) was) ≡ first = take_at first _ (length first) refl in
      let sized = sized_parts s.longest first (and_parts _ _ (ap (all_sized s.longest) (sym list) ∙ lanes_sized l side)).0 in
      record {
        longest = longest_same s side rest;
        only = λ v x. both (λ u. In x (list_at (with_list s side rest) u) → In x (list_at s u)) side v
            (λ i. subst (In x) (sym list) (inr (subst (In x) here i))) (subst (In x) there);
        gives = record {
          fits = omega (arith, sized, wide);
          could = subst (In (take (length first) (first ++ drop (length first) was))) (sym list) (inl (sym front));
          behind = drop_at first _ (length first) refl;
        };
        removes = λ _ _ _. record {
          here = record { front = []; back = rest; was = list ∙ ap (λ x. x ∷ rest) (sym front); left = here };
          depth = refl;
          there = there;
        };
      }

  -- none is given, since the buffer is short or nothing is there
  none_given : serves s side was ≡ false → ReceivedAs (holding depth s) (holding depth s) side was was None
  none_given short = record {
    longest = refl;
    only = λ v x i. i;
    gives = refl;
    removes = λ wide some _.
        absurd (both_ways (serves s side was) short (and_from _ _ (le-leb s.longest (length was) wide) (lt-ltb 0 (length (list_at s side)) some)));
  }

  pub received_as :
      (r : Option ℕ) (is : List ℕ) (after : Store) → (r, is, after) ≡ received s side was →
      ReceivedAs (holding depth s) (holding depth after) side was is r
  received_as r is after e = ⊎_elim served none (cases_Bool (serves s side was)) where
    none : serves s side was ≡ false → ReceivedAs (holding depth s) (holding depth after) side was is r
    none f =
        let p : (r, is, after) ≡ (None, was, s) = e ∙ cond-false (serves s side was) _ (None, was, s) f in
        let p0 : r ≡ None = ap (λ x. x.0) p in
        let p1 : is ≡ was = ap (λ x. x.1) p in
        let p2 : after ≡ s = ap (λ x. x.2) p in
        rw (p0, p1, p2) (none_given f)

    served : serves s side was ≡ true → ReceivedAs (holding depth s) (holding depth after) side was is r
    served t = by (list_at s side) refl where
      q : (nat_le s.longest (length was) ≡ true) × (nat_lt 0 (length (list_at s side)) ≡ true)
      q = and_parts _ _ t

      by : (ds : List (List ℕ)) → list_at s side ≡ ds → ReceivedAs (holding depth s) (holding depth after) side was is r
      by [] f = absurd (omega (arith, ltb-true 0 (length (list_at s side)) q.1, ap length f))
      by (d ∷ ds) f =
          let p : (r, is, after) ≡ with_left s side (first_of (d ∷ ds) was) =
          e ∙ cond-true (serves s side was) _ (None, was, s) t ∙ ap (λ xs. with_left s side (first_of xs was)) f
          in
          let p0 : r ≡ Some (length d) = ap (λ x. x.0) p in
          let p1 : is ≡ d ++ drop (length d) was = ap (λ x. x.1) p in
          let p2 : after ≡ with_list s side ds = ap (λ x. x.2) p in
          rw (p0, p1, p2) (given d ds f (leb-true s.longest (length was) q.0))

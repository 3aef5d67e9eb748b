-- A channel of marked datagrams keeps the rules of a channel.
use Rattle.std.specs.Prelude.{◌≡◌, ℕ, ◌-◌, ◌<◌, ◌≤◌, Bool, true, false, cond, List, [], ◌++◌, map, length, take, drop, replicate, Some, None, Option, MatchOption, refl}
use Rattle.std.proofs.Common.{sym, ap, subst, ◌∙◌, inl, inr, ⊎_elim, arith}
use Rattle.std.proofs.lemmas.List.{length-map, nil_from_length}
use Rattle.std.proofs.lemmas.Bool.{both_ways, cases_Bool, cond-true, cond-false}
use Rattle.nonce.specs.declared.side.Side.{Side}
use Rattle.nonce.specs.Sides.{other}
use Rattle.channel.specs.Meaning.{Meaning, Sound, Within}
use Rattle.channel.specs.Effects.{SentAs, Removed, ReceivedAs}
use Rattle.channel.specs.Marks.{mark, is_marked, all_marked, marked, passed, Unmarks}
use Rattle.channel.specs.declared.sent.Sent.{Sent}
use Rattle.channel.specs.Marked.{marks_back, mark_is_marked, length_behind, front_behind, rest_behind, all_with, all_without, cut_without, in_cut, in_back, both_marked, each_marked, both_from}

-- ---- the depth

at_depth : (b : Bool) (n : ℕ) → 0 < cond b n 0 → (b ≡ true) × (cond b n 0 ≡ n)
at_depth true n h = (refl, refl)
at_depth false n h = absurd (omega arith)

module _ (m : Meaning) where
  -- above depth 0 all is marked, and the depth is that below
  deep : 0 < (marked m).depth → (both_marked m.waiting ≡ true) × ((marked m).depth ≡ m.depth)
  deep h = at_depth (both_marked m.waiting) m.depth h

  shown : both_marked m.waiting ≡ true → (marked m).depth ≡ m.depth
  shown b = cond-true (both_marked m.waiting) m.depth 0 b

  as_many : (e : Side) → length ((marked m).waiting e) ≡ length (m.waiting e)
  as_many e = length-map (m.waiting e) (drop 4)

  -- where nothing waits above, nothing waits below
  pub none_below : (e : Side) → (marked m).waiting e ≡ [] → m.waiting e ≡ []
  none_below e h = nil_from_length (m.waiting e) (sym (as_many e) ∙ ap length h)

  pub marked_sound : Sound m → Sound (marked m)
  marked_sound s = record {
    most = omega (arith, s.most);
    sized = λ e d h. (h.0, omega (arith, s.sized e (mark d) h.1));
    listed = λ e d l h. let b = deep l in in_cut (m.waiting e) d (s.listed e (mark d) (omega (arith, b.1)) h.1);
    comes = λ e d l h.
        let b = deep l in
        let p = in_back (m.waiting e) d (each_marked m.waiting b.0 e) h in
        (p.0, s.comes e (mark d) (omega (arith, b.1)) p.1);
  }

-- ---- sending

module _ (m n : Meaning) (side : Side) (d : List ℕ) where
  pub sent_marked :
      {t : Sent} → Within (marked m) d → SentAs m n side (mark d) t → SentAs (marked m) (marked n) side d t
  sent_marked fit s = record {
    longest = ap (λ k. k - 4) s.longest;
    here = λ x h. ⊎_elim (λ i. inl (h.0, i)) (λ e. inr (e.0, ap (drop 4) e.1)) (s.here (mark x) h.1);
    there = λ x h. (h.0, s.there (mark x) h.1);
    adds = λ _ l.
        let b = deep m (omega (arith, l)) in
        let few : length (m.waiting side) < m.depth = omega (arith, l, b.1, as_many m side) in
        let a = s.adds (omega (arith, fit), omega (arith, fit)) few in
        let here = all_with a.here (mark_is_marked d fit.0) (each_marked m.waiting b.0 side) in
        let there = ap all_marked a.there ∙ each_marked m.waiting b.0 (other side) in
        record {
          taken = a.taken;
          depth = shown n (both_from n.waiting side here there) ∙ a.depth ∙ sym b.1;
          here = cut_without a.here;
          there = ap (map (drop 4)) a.there;
        };
  }

  -- what is not within the longest is not sent below
  pub unsent_marked : {t : Sent} → (Within (marked m) d → ⊥) → SentAs (marked m) (marked m) side d t
  unsent_marked h = record {
    longest = refl;
    here = λ x k. inl k;
    there = λ x k. k;
    adds = λ f _. absurd (h f);
  }

-- ---- receiving

module _ (m n : Meaning) (side : Side) (was is : List ℕ) (answer : Option ℕ) (sound : Sound m) where
  module _ (room : List ℕ) (came : Option ℕ) (s : ReceivedAs m n side (replicate 256 0) room came) where
    -- what the receive below removed, where 1 to depth wait above
    found :
        0 < length ((marked m).waiting side) → length ((marked m).waiting side) ≤ (marked m).depth →
        (both_marked m.waiting ≡ true) × ((marked m).depth ≡ m.depth) × Removed m n side room came
    found a l =
        let b = deep m (omega (arith, l)) in
        let c = as_many m side in
        (b.0, b.1, s.removes sound.most (omega arith) (omega (arith, l, b.1)))

    only_marked : (e : Side) (d : List ℕ) → (marked n).may e d → (marked m).may e d
    only_marked e d h = (h.0, s.only e (mark d) h.1)

  -- nothing came below
  nothing :
      (room : List ℕ) → ReceivedAs m n side (replicate 256 0) room None → answer ≡ None → is ≡ was →
      ReceivedAs (marked m) (marked n) side was is answer
  nothing room s e f = rw (e, f) (record {
    longest = ap (λ k. k - 4) s.longest;
    only = only_marked room None s;
    gives = refl;
    removes = λ _ a l. absurd (found room None s a l).2.here;
  })

  module _ (room : List ℕ) (k : ℕ) (s : ReceivedAs m n side (replicate 256 0) room (Some k)) where
    -- a datagram that is not marked is dropped
    dropped :
        is_marked (take k room) ≡ false → (answer, is) ≡ passed (take k room) was →
        ReceivedAs (marked m) (marked n) side was is answer
    dropped f e =
        let p = e ∙ cond-false (is_marked (take k room)) _ (None, was) f in
        let p0 : answer ≡ None = ap (λ x. x.0) p in
        let p1 : is ≡ was = ap (λ x. x.1) p in
        rw (p0, p1) (record {
          longest = ap (λ k. k - 4) s.longest;
          only = only_marked room (Some k) s;
          gives = refl;
          removes = λ _ a l.
              let o = found room (Some k) s a l in
              absurd (both_ways _ f (all_without o.2.here (each_marked m.waiting o.0 side)).0);
        })

    -- what is behind the mark comes
    passes :
        is_marked (take k room) ≡ true → (answer, is) ≡ passed (take k room) was → (marked m).longest ≤ length was →
        ReceivedAs (marked m) (marked n) side was is answer
    passes t e wide =
        let d = take k room in
        let p = e ∙ cond-true (is_marked d) _ (None, was) t in
        let p0 : answer ≡ Some (length d - 4) = ap (λ x. x.0) p in
        let p1 : is ≡ drop 4 d ++ drop (length d - 4) was = ap (λ x. x.1) p in
        rw (p0, p1) (record {
          longest = ap (λ k. k - 4) s.longest;
          only = only_marked room (Some k) s;
          gives = record {
            fits = omega (arith, sound.sized side d s.gives.could);
            could = rw (front_behind d was) (length_behind d t, subst (m.may side) (marks_back d t) s.gives.could);
            behind = rest_behind d was;
          };
          removes = λ _ a l.
              let o = found room (Some k) s a l in
              let each = each_marked m.waiting o.0 in
              let w = o.2.here in
              let here = (all_without w (each side)).1 in
              let there = ap all_marked o.2.there ∙ each (other side) in
              record {
                here = rw (front_behind d was) (cut_without w);
                depth = shown n (both_from n.waiting side here there) ∙ o.2.depth ∙ sym o.1;
                there = ap (map (drop 4)) o.2.there;
              };
        })

  pub unmarks_received :
      (marked m).longest ≤ length was → Unmarks m n side was is answer →
      ReceivedAs (marked m) (marked n) side was is answer
  unmarks_received wide u = by u.came u.below u.passes where
    by :
        (came : Option ℕ) → ReceivedAs m n side (replicate 256 0) u.room came →
        MatchOption came ((answer ≡ None) × (is ≡ was)) (λ k. (answer, is) ≡ passed (take k u.room) was) →
        ReceivedAs (marked m) (marked n) side was is answer
    by None s (e, f) = nothing u.room s e f
    by (Some k) s e =
        ⊎_elim (λ t. passes u.room k s t e wide) (λ f. dropped u.room k s f e)
        (cases_Bool (is_marked (take k u.room)))

-- a short buffer: nothing is asked below
pub short_received :
    (m : Meaning) (side : Side) (was : List ℕ) → length was < (marked m).longest →
    ReceivedAs (marked m) (marked m) side was was None
short_received m side was short = record {
  longest = refl;
  only = λ e d h. h;
  gives = refl;
  removes = λ l _ _. absurd (omega arith);
}

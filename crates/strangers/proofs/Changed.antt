-- Rows in any order, with one more or without one: what is then found, and what they are by rising own SPI.
use Rattle.std.proofs.Common.{◌≡◌, ℕ, ◌<◌, Bool, true, false, cond, not, eqb, List, [], ◌∷◌, ◌++◌, length, filter, is_some, is_ok, IsOk, if◌then◌else◌, Some, None, Ok, Err, Option, Result, sym, refl, ap, ◌∙◌, inl, inr, arith}
use Rattle.std.proofs.lemmas.Bool.{cases_Bool, cases_eq, eq-eqb, ne_eqb}
use Rattle.std.proofs.lemmas.Bool.Decides.{nat_tests}
use Rattle.nonce.specs.Spis.{last_reserved}
use Rattle.book.specs.declared.row.Row.{Row}
use Rattle.book.specs.declared.BookRefusal.TheVariants.{Absent}
use Rattle.book.specs.Shelves.{Shelf, Orderly, Answer, Rising, lookup, has, insert, replace, remove, put_in, written_in, removed_from, read_in, row_or}
use Rattle.book.proofs.Changes.{put_done, write_done, remove_absent, remove_done}
use Rattle.book.proofs.Firsts.{above_start}
use Rattle.book.proofs.Lookups.{lookup_insert, lookup_replace, lookup_remove, rising_insert, rising_replace, rising_remove, length_remove, same_rows}
use Rattle.strangers.specs.Sorted.{sorted, apart, apart_parts, apart_from, lookup_sorted, has_sorted, rising_sorted}

-- Rows that rise are those in order where each lookup finds the same.
sorted_is : (rs ss : List Row) → apart rs ≡ true → Rising last_reserved ss → ((n : ℕ) → lookup rs n ≡ lookup ss n) → sorted rs ≡ ss
sorted_is rs ss a h e = same_rows last_reserved last_reserved (sorted rs) ss (rising_sorted rs a) h (λ n. lookup_sorted rs n a ∙ e n)

-- one more at the end
lookup_pushed : (rs : List Row) (x : Row) (n : ℕ) → has rs x.own ≡ false → lookup (rs ++ (x ∷ [])) n ≡ cond (eqb x.own n) (Some x) (lookup rs n)
lookup_pushed [] x n h = refl
lookup_pushed (r ∷ rs) x n h =
    elim (cases_eq r.own x.own) [
      | inl e ↦ absurd (grind (arith, nat_tests))
      | inr e ↦
          let t : eqb r.own x.own ≡ false = ne_eqb _ _ e in
          let ih = lookup_pushed rs x n (rw t at h) in
          grind (arith, nat_tests)
    ]

pub apart_pushed : (rs : List Row) (x : Row) → apart rs ≡ true → last_reserved < x.own → has rs x.own ≡ false → apart (rs ++ (x ∷ [])) ≡ true
apart_pushed [] x a l h = apart_from x [] l refl refl
apart_pushed (r ∷ rs) x a l h =
    let p = apart_parts r rs a in
    elim (cases_eq r.own x.own) [
      | inl e ↦ absurd (grind (arith, nat_tests))
      | inr e ↦
          let t : eqb r.own x.own ≡ false = ne_eqb _ _ e in
          let u : eqb x.own r.own ≡ false = ne_eqb _ _ (λ f. e (sym f)) in
          let no : has rs x.own ≡ false = rw t at h in
          let m : has (rs ++ (x ∷ [])) r.own ≡ false = ap is_some (lookup_pushed rs x r.own no) ∙ rw u p.1 in
          apart_from r (rs ++ (x ∷ [])) p.0 m (apart_pushed rs x p.2 l no)
    ]

pub sorted_pushed : (rs : List Row) (x : Row) → apart rs ≡ true → last_reserved < x.own → has rs x.own ≡ false → sorted (rs ++ (x ∷ [])) ≡ insert (sorted rs) x
sorted_pushed rs x a l h =
    let no : has (sorted rs) x.own ≡ false = has_sorted rs x.own a ∙ h in
    sorted_is (rs ++ (x ∷ [])) (insert (sorted rs) x) (apart_pushed rs x a l h) (rising_insert last_reserved (sorted rs) x l no (rising_sorted rs a))
    (λ n.
    let p = lookup_pushed rs x n h in
    let q = lookup_insert (sorted rs) x n no in
    let r = lookup_sorted rs n a in
    p ∙ ap (λ (o : Option Row). cond (eqb x.own n) (Some x) o) (sym r) ∙ sym q)

-- what a push leaves where there is room for it
pub pushed : {A E : Type 0} (r : Result A E) (new old more : List Row) → IsOk r → new ≡ (if is_ok r then more else old) → new ≡ more
pushed (Ok _) new old more ok e = e
pushed (Err _) new old more ok e = cc

-- those that have not an own SPI
abbrev pub without : List Row → ℕ → List Row
without rs k = filter (λ r. not (eqb r.own k)) rs

lookup_without : (rs : List Row) (k n : ℕ) → lookup (without rs k) n ≡ cond (eqb k n) None (lookup rs n)
lookup_without [] k n = grind (arith, nat_tests)
lookup_without (r ∷ rs) k n =
    let ih = lookup_without rs k n in
    elim (cases_eq r.own k) [
      | inl e ↦
          let t : eqb r.own k ≡ true = eq-eqb _ _ e in
          grind (arith, nat_tests)
      | inr e ↦
          let t : eqb r.own k ≡ false = ne_eqb _ _ e in
          grind (arith, nat_tests)
    ]

none_without : (rs : List Row) (k n : ℕ) → has rs n ≡ false → has (without rs k) n ≡ false
none_without rs k n h = ap is_some (lookup_without rs k n) ∙ none (eqb k n) (lookup rs n) h
  where
    none : (b : Bool) (o : Option Row) → is_some o ≡ false → is_some (cond b None o) ≡ false
    none true o e = refl
    none false o e = e

pub apart_without : (rs : List Row) (k : ℕ) → apart rs ≡ true → apart (without rs k) ≡ true
apart_without [] k a = refl
apart_without (r ∷ rs) k a =
    let p = apart_parts r rs a in
    elim (cases_Bool (eqb r.own k)) [
      | inl t ↦ rw t (apart_without rs k p.2)
      | inr t ↦ rw t (apart_from r (without rs k) p.0 (none_without rs k r.own p.1) (apart_without rs k p.2))
    ]

pub sorted_without : (rs : List Row) (k : ℕ) → apart rs ≡ true → sorted (without rs k) ≡ remove (sorted rs) k
sorted_without rs k a =
    sorted_is (without rs k) (remove (sorted rs) k) (apart_without rs k a) (rising_remove last_reserved (sorted rs) k (rising_sorted rs a))
    (λ n.
    lookup_without rs k n ∙ ap (λ (o : Option Row). cond (eqb k n) None o) (sym (lookup_sorted rs n a))
    ∙ sym (lookup_remove last_reserved (sorted rs) k n (rising_sorted rs a)))

-- a row is there that was read
pub was_read : (s : Shelf) (k : ℕ) (x : Row) → Ok x ≡ read_in s k → has s.rows k ≡ true
was_read s k x e = by (lookup s.rows k) e
  where
    by : (o : Option Row) → Ok x ≡ row_or o → is_some o ≡ true
    by None e = cc
    by (Some y) e = refl

ok_or_err : {A E : Type 0} {x : A} {e : E} → ◌≡◌ {A = Result A E} (Ok x) (Err e) → ⊥
ok_or_err e = cc

-- a row that is removed and put again is written
module _ (s : Shelf) (x : Row) (o : Orderly s) where
  there_above : (r : Option Row) → lookup s.rows x.own ≡ r → is_some r ≡ true → last_reserved < x.own
  there_above None e h = cc
  there_above (Some r) e h = above_start last_reserved s.rows x.own r o.rises e

  replaced : has s.rows x.own ≡ true → has (remove s.rows x.own) x.own ≡ false → insert (remove s.rows x.own) x ≡ replace s.rows x
  replaced h left =
      let l = there_above (lookup s.rows x.own) refl h in
      let gone = rising_remove last_reserved s.rows x.own o.rises in
      same_rows last_reserved last_reserved (insert (remove s.rows x.own) x) (replace s.rows x) (rising_insert last_reserved (remove s.rows x.own) x l left gone)
      (rising_replace last_reserved s.rows x o.rises)
      (λ n.
      let p = lookup_insert (remove s.rows x.own) x n left in
      let q = lookup_replace s.rows x n h in
      let r = lookup_remove last_reserved s.rows x.own n o.rises in
      grind (arith, nat_tests))

  pub rewritten : (m : Shelf) → (Ok tt, m) ≡ removed_from s x.own → put_in m x ≡ written_in s x
  rewritten m e =
      elim (cases_Bool (has s.rows x.own)) [
        | inl h ↦
            let f : m ≡ record { rows = remove s.rows x.own; most = s.most } = ap (λ (p : Answer × Shelf). p.1) (e ∙ remove_done s x.own h) in
            let t : eqb x.own x.own ≡ true = eq-eqb _ _ refl in
            let no : has (remove s.rows x.own) x.own ≡ false = ap is_some (lookup_remove last_reserved s.rows x.own x.own o.rises) ∙ rw t refl in
            let few : length (remove s.rows x.own) < s.most = omega (arith, length_remove s.rows x.own h, o.within) in
            rw f (put_done (record { rows = remove s.rows x.own; most = s.most }) x (omega (arith, there_above (lookup s.rows x.own) refl h)) no few
            ∙ ap (λ (rs : List Row). (Ok tt, record { rows = rs; most = s.most })) (replaced h no) ∙ sym (write_done s x h))
        | inr h ↦ let g : ◌≡◌ {A = Answer} (Ok tt) (Err Absent) = ap (λ (p : Answer × Shelf). p.0) (e ∙ remove_absent s x.own h) in absurd (ok_or_err g)
      ]

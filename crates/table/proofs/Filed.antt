-- What a place that was found says of the rows, and the rows after each change of a slot.
use Rattle.std.proofs.Common.{◌≡◌, ℕ, zero, suc, ◌+◌, ◌<◌, ◌≤◌, true, false, [], ◌∷◌, length, get_or, set, is_some, Some, None, Ok, Err, Option, sym, refl, ap, ◌∙◌, arith}
use Rattle.std.specs.Option.{ok_or}
use Rattle.nonce.specs.Spis.{last_reserved}
use Rattle.book.specs.declared.row.Row.{Row}
use Rattle.book.specs.declared.BookRefusal.{BookRefusal}
use Rattle.book.specs.declared.BookRefusal.TheVariants.{Full, Absent}
use Rattle.book.specs.Shelves.{Shelf, Answer, has, row_or, put_in, written_in, removed_from, read_in}
use Rattle.book.proofs.Changes.{put_full, put_made, write_made, remove_made, ok_is, err_is}
use Rattle.table.specs.Slots.{Slots, sorted_rows, used, seek, apart, place_of, free_from, home, astray, strays_from}
use Rattle.table.specs.Seeking.{none_from, apart_parts}
use Rattle.table.specs.Sorting.{lookup_sorted, has_sorted, length_sorted, used_some, used_within, seek_slot, sorted_put, sorted_write, sorted_remove}
use Rattle.table.proofs.Placing.{place_holds, place_none, free_is, full}
use Rattle.table.proofs.Strays.{strays_put, strays_out, strays_over}

-- the slots as a book, and a change that leaves these slots apart
abbrev shelf : Slots → Shelf
shelf s = record { rows = sorted_rows s; most = 16 }

abbrev Files : Slots → Answer × Shelf → Type 0
Files new after = (apart new ≡ true) × ((Ok tt, shelf new) ≡ after)

-- a row is there where its place was found
pub has_place : (s : Slots) (k : ℕ) → apart s ≡ true → has (sorted_rows s) k ≡ is_some (place_of s k)
has_place s k a = has_sorted s k a ∙ seek_at (place_of s k) refl
  where
    seek_at : (o : Option ℕ) → o ≡ place_of s k → is_some (seek s k) ≡ is_some o
    seek_at None e = ap is_some (place_none s k e)
    seek_at (Some i) e = let p = place_holds s k i e in ap is_some (seek_slot s i p.0 k a p.3 p.1 p.2)

there : {E : Type 0} (e : E) (s : Slots) (k i : ℕ) → apart s ≡ true → Ok i ≡ ok_or (place_of s k) e → has (sorted_rows s) k ≡ true
there e s k i a h = has_place s k a ∙ sym (ap is_some (ok_is _ e i h))

pub read_place :
    {E : Type 0} (e : E) (s : Slots) (k i : ℕ) → apart s ≡ true → Ok i ≡ ok_or (place_of s k) e → ok_or (get_or s i None) Absent ≡ read_in (shelf s) k
read_place e s k i a h =
    let p = place_holds s k i (ok_is _ e i h) in
    ap (λ (o : Option Row). ok_or o Absent) p.1
    ∙ sym (ap row_or (lookup_sorted s k a ∙ seek_slot s i p.0 k a p.3 p.1 p.2))

pub put_none :
    (e : BookRefusal) (s : Slots) (x : Row) (f : Option ℕ) → length s ≡ 16 → last_reserved < x.own → has (sorted_rows s) x.own ≡ false →
    f ≡ free_from s (home x.own) 16 → Err e ≡ ok_or f Full → (Err e, shelf s) ≡ put_in (shelf s) x
put_none e s x f m l absent g h =
    let n = err_is f Full e h in
    let u : 16 ≤ length (sorted_rows s) = omega (arith, length_sorted s, full s (home x.own) m (omega arith) (n.0 ∙ g)) in
    rw n.1 (sym (put_full (shelf s) x (omega arith) absent u))

-- no row has a reserved own SPI
slot_above : (s : Slots) (i : ℕ) (r : Row) → apart s ≡ true → get_or s i None ≡ Some r → last_reserved < r.own
slot_above [] i r a e = cc
slot_above (None ∷ s) zero r a e = cc
slot_above (Some y ∷ s) zero r a e = let f : y ≡ r = cc in omega (arith, (apart_parts y s a).0, ap (λ (x : Row). x.own) f)
slot_above (None ∷ s) (suc i) r a e = slot_above s i r a e
slot_above (Some y ∷ s) (suc i) r a e = slot_above s i r (apart_parts y s a).2 e

one_free : (s : Slots) (i : ℕ) → i < length s → get_or s i None ≡ None → used s < length s
one_free [] i l e = absurd (omega arith)
one_free (None ∷ s) zero l e = omega (arith, used_within s)
one_free (Some r ∷ s) zero l e = cc
one_free (None ∷ s) (suc i) l e = omega (arith, one_free s i (omega arith) e)
one_free (Some r ∷ s) (suc i) l e = omega (arith, used_some r s, one_free s i (omega arith) e)

pub filed_in :
    {E : Type 0} (e : E) (s : Slots) (x : Row) (f : Option ℕ) (i : ℕ) → apart s ≡ true → length s ≡ 16 → last_reserved < x.own →
    has (sorted_rows s) x.own ≡ false → f ≡ free_from s (home x.own) 16 → Ok i ≡ ok_or f e → i < 16 → Files (set s i (Some x)) (put_in (shelf s) x)
filed_in e s x f i a m l absent g h b =
    let free = free_is s (home x.own) 16 i (ok_is f e i h ∙ g) in
    let c = sorted_put s i x a (omega arith) free l (none_from (seek s x.own) (sym (has_sorted s x.own a) ∙ absent)) in
    let room : length (sorted_rows s) < 16 = omega (arith, length_sorted s, one_free s i (omega arith) free) in
    (c.0, put_made (shelf s) x (sorted_rows (set s i (Some x))) (omega arith) absent room c.1)

pub filed_over :
    {E : Type 0} (e : E) (s : Slots) (x : Row) (i : ℕ) → apart s ≡ true → Ok i ≡ ok_or (place_of s x.own) e → Files (set s i (Some x)) (written_in (shelf s) x)
filed_over e s x i a h =
    let p = place_holds s x.own i (ok_is _ e i h) in
    let c = sorted_write s i p.0 x a p.3 p.1 p.2 (omega (arith, p.2, slot_above s i p.0 a p.1)) in
    (c.0, write_made (shelf s) x (sorted_rows (set s i (Some x))) (there e s x.own i a h) c.1)

pub filed_out :
    {E : Type 0} (e : E) (s : Slots) (k i : ℕ) → apart s ≡ true → Ok i ≡ ok_or (place_of s k) e → Files (set s i None) (removed_from (shelf s) k)
filed_out e s k i a h =
    let p = place_holds s k i (ok_is _ e i h) in
    let c = sorted_remove s i p.0 k a p.3 p.1 p.2 in
    (c.0, remove_made (shelf s) k (sorted_rows (set s i None)) (there e s k i a h) c.1)

-- how many rows are astray after each change
pub strayed_in :
    {E : Type 0} (e : E) (s : Slots) (x : Row) (f : Option ℕ) (i : ℕ) → length s ≡ 16 → f ≡ free_from s (home x.own) 16 → Ok i ≡ ok_or f e → i < 16 →
    strays_from 0 (set s i (Some x)) ≡ strays_from 0 s + astray x.own i
strayed_in e s x f i m g h b = strays_put s i x (omega arith) (free_is s (home x.own) 16 i (ok_is f e i h ∙ g))

pub strayed_over :
    {E : Type 0} (e : E) (s : Slots) (x : Row) (i : ℕ) → Ok i ≡ ok_or (place_of s x.own) e → strays_from 0 (set s i (Some x)) ≡ strays_from 0 s
strayed_over e s x i h = let p = place_holds s x.own i (ok_is _ e i h) in strays_over s i p.0 x p.3 p.1 p.2

pub strayed_out :
    {E : Type 0} (e : E) (s : Slots) (k i : ℕ) → Ok i ≡ ok_or (place_of s k) e → strays_from 0 (set s i None) + astray k i ≡ strays_from 0 s
strayed_out e s k i h =
    let p = place_holds s k i (ok_is _ e i h) in
    omega (arith, strays_out s i p.0 p.3 p.1, ap (λ n. astray n i) p.2)

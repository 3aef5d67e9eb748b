-- What a place says of the rows, and what a change at it leaves.
use Rattle.std.proofs.Common.{◌≡◌, ℕ, ◌<◌, ◌≤◌, true, false, eqb, List, [], ◌∷◌, length, get_or, set, is_some, Some, None, Ok, Err, Option, sym, refl, ap, ◌∙◌, arith}
use Rattle.std.specs.List.{insert as put_at, remove as taken_at}
use Rattle.std.specs.Option.{ok_or}
use Rattle.std.proofs.lemmas.Bool.{eqb-false}
use Rattle.nonce.specs.Spis.{last_reserved}
use Rattle.book.specs.declared.row.Row.{Row}
use Rattle.book.specs.declared.BookRefusal.TheVariants.{Present, Full}
use Rattle.book.specs.Shelves.{Shelf, Answer, has, insert, replace, remove, put_in, written_in, removed_from, read_in}
use Rattle.book.proofs.Changes.{put_present, put_full, put_made, write_made, remove_made, ok_is, err_is}
use Rattle.book.proofs.Lookups.{rising_insert, rising_replace, rising_remove}
use Rattle.ordered.specs.Places.{rises, index_of, room}
use Rattle.ordered.specs.Found.{rises_rising, rising_rises, index_lookup, index_absent, insert_at, replace_at, remove_at}

abbrev shelf : List Row → Shelf
shelf rs = record { rows = rs; most = 16 }

-- these rows rise, and are what the change leaves
abbrev Files : List Row → Answer × Shelf → Type 0
Files new after = (rises last_reserved new ≡ true) × ((Ok tt, shelf new) ≡ after)

-- a row is there where there is a place
pub has_index : (rs : List Row) (k : ℕ) → has rs k ≡ is_some (index_of rs k)
has_index rs k = has_at rs k (index_of rs k) refl
  where
    has_at : (rs : List Row) (k : ℕ) (o : Option ℕ) → o ≡ index_of rs k → has rs k ≡ is_some o
    has_at rs k None e = ap is_some (index_absent rs k e)
    has_at [] k (Some i) e = cc
    has_at (r ∷ rs) k (Some i) e = ap is_some (index_lookup (r ∷ rs) k i r e)

there : {E : Type 0} (e : E) (rs : List Row) (k i : ℕ) → Ok i ≡ ok_or (index_of rs k) e → has rs k ≡ true
there e rs k i h = has_index rs k ∙ sym (ap is_some (ok_is _ e i h))

lacking : {E : Type 0} (e d : E) (rs : List Row) (k : ℕ) → Err d ≡ ok_or (index_of rs k) e → has rs k ≡ false
lacking e d rs k h = has_index rs k ∙ sym (ap is_some (err_is _ e d h).0)

pub read_at : {E : Type 0} (e : E) (rs : List Row) (k i : ℕ) (d : Row) → Ok i ≡ ok_or (index_of rs k) e → Ok (get_or rs i d) ≡ read_in (shelf rs) k
read_at e rs k i d h = let l = index_lookup rs k i d (ok_is _ e i h) in rw l refl

pub put_there : {E : Type 0} (e : E) (rs : List Row) (x : Row) (i : ℕ) → last_reserved < x.own → Ok i ≡ ok_or (index_of rs x.own) e → (Err Present, shelf rs) ≡ put_in (shelf rs) x
put_there e rs x i l h = sym (put_present (shelf rs) x (omega arith) (there e rs x.own i h))

pub put_none : (rs : List Row) (x : Row) (i : ℕ) → last_reserved < x.own → length rs ≡ 16 → Err i ≡ ok_or (index_of rs x.own) (room rs x.own) → (Err Full, shelf rs) ≡ put_in (shelf rs) x
put_none rs x i l m h = sym (put_full (shelf rs) x (omega arith) (lacking _ i rs x.own h) (omega arith))

pub not_full : (n : ℕ) → eqb n 16 ≡ false → n ≤ 16 → n < 16
not_full n e l = omega (arith, eqb-false n 16 e)

pub filed_in :
    (rs : List Row) (x : Row) (i : ℕ) → rises last_reserved rs ≡ true → last_reserved < x.own → length rs < 16 → Err i ≡ ok_or (index_of rs x.own) (room rs x.own) →
    Files (put_at rs i x) (put_in (shelf rs) x)
filed_in rs x i s l m h =
    let f = lacking _ i rs x.own h in
    let e : put_at rs i x ≡ insert rs x = ap (λ (j : ℕ). put_at rs j x) (err_is _ _ i h).1 ∙ sym (insert_at rs x) in (
      ap (rises last_reserved) e ∙ rising_rises last_reserved (insert rs x) (rising_insert last_reserved rs x l f (rises_rising last_reserved rs s)),
      put_made (shelf rs) x (put_at rs i x) (omega arith) f m e,
    )

pub filed_over :
    {E : Type 0} (e : E) (rs : List Row) (x : Row) (i : ℕ) → rises last_reserved rs ≡ true → Ok i ≡ ok_or (index_of rs x.own) e →
    Files (set rs i x) (written_in (shelf rs) x)
filed_over d rs x i s h =
    let e : set rs i x ≡ replace rs x = sym (replace_at rs x i (ok_is _ d i h)) in (
      ap (rises last_reserved) e ∙ rising_rises last_reserved (replace rs x) (rising_replace last_reserved rs x (rises_rising last_reserved rs s)),
      write_made (shelf rs) x (set rs i x) (there d rs x.own i h) e,
    )

pub filed_out :
    {E : Type 0} (e : E) (rs : List Row) (k i : ℕ) → rises last_reserved rs ≡ true → Ok i ≡ ok_or (index_of rs k) e →
    Files (taken_at rs i) (removed_from (shelf rs) k)
filed_out d rs k i s h =
    let e : taken_at rs i ≡ remove rs k = sym (remove_at rs k i (ok_is _ d i h)) in (
      ap (rises last_reserved) e ∙ rising_rises last_reserved (remove rs k) (rising_remove last_reserved rs k (rises_rising last_reserved rs s)),
      remove_made (shelf rs) k (taken_at rs i) (there d rs k i h) e,
    )

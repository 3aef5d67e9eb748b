-- A book over which an end is made has no rows.
use Rattle.std.proofs.Common.{◌≡◌, ℕ, false, List, [], ◌∷◌, length, Some, None, Option, refl, arith}
use Rattle.std.specs.Prelude.{◌==◌}
use Rattle.std.proofs.lemmas.Bool.{ne_eqb}
use Rattle.book.specs.Shelves.{Shelf}
use Rattle.book.specs.declared.row.Row.{Row}
use Rattle.calls.specs.declared.making.Making.{Making}
use Rattle.calls.specs.declared.refusals.MakingRefusal.{MakingRefusal}
use Rattle.calls.specs.declared.refusals.MakingRefusal.TheVariants.{BookNotEmpty}
use Rattle.law.specs.Ends.{making_refused}

rows_none : (m : Making) (n : ℕ) (rs : List Row) → making_refused m (record { rows = rs; most = n }) ≡ None → rs ≡ []
rows_none m n [] h = refl
rows_none m n (r ∷ rs) h =
    let f : (length (r ∷ rs) == 0) ≡ false = ne_eqb (length (r ∷ rs)) 0 (λ z. omega arith) in
    let z : ◌≡◌ {A = Option MakingRefusal} (Some BookNotEmpty) None = rw f at h in
    cc

pub none_filed : (m : Making) (s : Shelf) → making_refused m s ≡ None → s.rows ≡ []
none_filed m s h = rows_none m s.most s.rows h

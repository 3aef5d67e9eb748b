-- A book without the row of an own SPI, whether or not it was there.
use Rattle.std.proofs.Common.{◌≡◌, ℕ, false, List, [], ◌∷◌, sym, refl, ap, ◌∙◌, inl, inr, arith}
use Rattle.std.proofs.lemmas.Bool.{cases_Bool}
use Rattle.std.proofs.lemmas.Bool.Decides.{nat_tests}
use Rattle.nonce.specs.Spis.{last_reserved}
use Rattle.book.specs.Shelves as shelf
use Rattle.book.specs.Shelves.{Shelf, Rising, has}
use Rattle.book.proofs.Changes.{remove_absent, remove_done}
use Rattle.book.proofs.Lookups.{rising_remove}
use Rattle.book.specs.declared.row.Row.{Row}
use Rattle.protocol.specs.Rows.{remove}
use Rattle.law.specs.Rows.{without}
use Rattle.law.proofs.Cells.{lines, lines_remove}
use Rattle.law.proofs.Tied.{Below, Begun, below_remove, begun_remove}

remove_none : (rs : List Row) (k : ℕ) → has rs k ≡ false → shelf.remove rs k ≡ rs
remove_none [] k h = refl
remove_none (r ∷ rs) k h = let i = remove_none rs k in grind (arith, nat_tests)

module _ (s : Shelf) (k : ℕ) where
  rows_without : (without s k).rows ≡ shelf.remove s.rows k
  rows_without =
      elim (cases_Bool (has s.rows k)) [
        | inl h ↦ ap (λ p. p.1.rows) (remove_done s k h)
        | inr h ↦ ap (λ p. p.1.rows) (remove_absent s k h) ∙ sym (remove_none s.rows k h)
      ]

  pub lines_without : lines (without s k).rows ≡ remove k (lines s.rows)
  lines_without = ap lines rows_without ∙ lines_remove s.rows k

  pub rising_without : Rising last_reserved s.rows → Rising last_reserved (without s k).rows
  rising_without h = rw rows_without (rising_remove last_reserved s.rows k h)

  pub below_without : (i : ℕ) → Below i s.rows → Below i (without s k).rows
  below_without i b = rw rows_without (below_remove i s.rows k b)

  pub begun_without : Begun s.rows → Begun (without s k).rows
  begun_without b = rw rows_without (begun_remove s.rows k b)

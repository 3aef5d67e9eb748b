-- What is found by a peer SPI.
use Rattle.std.proofs.Common.{◌≡◌, ℕ, true, false, List, [], ◌∷◌, Some, None, Option, sym, refl, ap, ◌∙◌, arith}
use Rattle.std.proofs.lemmas.Bool.{both_ways}
use Rattle.std.specs.List.{AllByRecursion as All}
use Rattle.nonce.specs.Spis.{last_reserved}
use Rattle.book.specs.Rows.{is_opening}
use Rattle.book.specs.Shelves.{Rising, lookup, find}
use Rattle.book.proofs.Firsts.{find_some}
use Rattle.book.proofs.Lookups.{lookup_own}
use Rattle.book.specs.declared.row.Row.{Row}
use Rattle.book.specs.declared.row.RowState.{RowState}
use Rattle.book.specs.declared.row.RowState.TheVariants as state
use Rattle.law.specs.Rows.{calmed, calm}
use Rattle.law.specs.Requests.{row_at, found}
use Rattle.law.proofs.Tied.{all_lookup}

-- the row r is in rs under its own SPI, with the peer SPI p, and is not Opening
pub record Shows (rs : List Row) (p : ℕ) (r : Row) : Type 0 where
  pub here : lookup rs r.own ≡ Some r
  pub peer : r.peer ≡ p
  pub live : is_opening r.state ≡ false

shows_at :
    (rs : List Row) (p : ℕ) (q : Option ℕ) (r : Row) → Rising last_reserved rs → find rs p ≡ q → row_at rs q ≡ Some r → Shows rs p r
shows_at rs p None r s e h = let z : ◌≡◌ {A = ℕ} 0 1 = cc in absurd (omega arith)
shows_at rs p (Some k) r s e h =
    let f = find_some last_reserved rs p k s e in
    let x : f.0 ≡ r = cc f.1 in
    record {
      here = ap (lookup rs) (lookup_own rs k r h) ∙ h;
      peer = sym (ap (λ y. y.peer) x) ∙ f.2;
      live = sym (ap (λ y. is_opening y.state) x) ∙ f.3;
    }

pub found_shows : (rs : List Row) (p : ℕ) (r : Row) → Rising last_reserved rs → found rs p ≡ Some r → Shows rs p r
found_shows rs p r s h = shows_at rs p (find rs p) r s refl h

-- the states of what is found in a book in which no row is Fresh
abbrev pub Ready : RowState → Type 0
Ready state.Opening = ⊥
Ready state.Fresh = ⊥
Ready state.Standing = Unit {0}
Ready state.Superseded = Unit {0}
Ready state.Closing = Unit {0}

abbrev Calm : RowState → Type 0
Calm state.Opening = Unit {0}
Calm state.Fresh = ⊥
Calm state.Standing = Unit {0}
Calm state.Superseded = Unit {0}
Calm state.Closing = Unit {0}

calmed_calm : (s : RowState) → Calm (calmed s)
calmed_calm state.Opening = tt
calmed_calm state.Fresh = tt
calmed_calm state.Standing = tt
calmed_calm state.Superseded = tt
calmed_calm state.Closing = tt

all_calm : (rs : List Row) → All (λ (r : Row). Calm r.state) (calm rs)
all_calm [] = tt
all_calm (r ∷ rs) = (calmed_calm r.state, all_calm rs)

ready_if : (s : RowState) → Calm s → is_opening s ≡ false → Ready s
ready_if state.Opening c o = both_ways true o refl
ready_if state.Fresh c o = c
ready_if state.Standing c o = tt
ready_if state.Superseded c o = tt
ready_if state.Closing c o = tt

pub shows_ready : (rs : List Row) (p : ℕ) (r : Row) → Shows (calm rs) p r → Ready r.state
shows_ready rs p r h =
    ready_if r.state (all_lookup (λ (x : Row). Calm x.state) (calm rs) r.own r (all_calm rs) h.here) h.live

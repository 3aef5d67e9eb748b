-- Each row that an end files has an initiator's nonce of 16 to 32 octets.
use Rattle.std.proofs.Common.{◌≡◌, ℕ, true, eqb, ltb, List, [], ◌∷◌, Some, None, Option, IfSome, inl, inr}
use Rattle.std.proofs.lemmas.Bool.{cases_Bool}
use Rattle.nonce.specs.Nonces.{nonce_long}
use Rattle.book.specs.Rows.{kept_octets}
use Rattle.book.specs.Shelves.{Shelf, lookup, insert, replace, remove, changed, put_refusal, absence}
use Rattle.book.specs.declared.BookRefusal.{BookRefusal}
use Rattle.book.specs.declared.row.Row.{Row}
use Rattle.law.specs.Rows.{calm, with_row, rewritten, without}
use Rattle.endpoint.specs.Views.{NoncesLong}

abbrev Long : Row → Type 0
Long r = nonce_long (kept_octets r.ni) ≡ true

nonces_insert : (rs : List Row) (x : Row) → NoncesLong rs → Long x → NoncesLong (insert rs x)
nonces_insert [] x f l = (l, tt)
nonces_insert (r ∷ rs) x f l =
    elim (cases_Bool (ltb x.own r.own)) [
      | inl t ↦ rw t (l, f)
      | inr t ↦ rw t (f.0, nonces_insert rs x f.1 l)
    ]

nonces_replace : (rs : List Row) (x : Row) → NoncesLong rs → Long x → NoncesLong (replace rs x)
nonces_replace [] x f l = tt
nonces_replace (r ∷ rs) x f l =
    elim (cases_Bool (eqb r.own x.own)) [
      | inl t ↦ rw t (l, f.1)
      | inr t ↦ rw t (f.0, nonces_replace rs x f.1 l)
    ]

nonces_remove : (rs : List Row) (k : ℕ) → NoncesLong rs → NoncesLong (remove rs k)
nonces_remove [] k f = tt
nonces_remove (r ∷ rs) k f =
    elim (cases_Bool (eqb r.own k)) [
      | inl t ↦ rw t f.1
      | inr t ↦ rw t (f.0, nonces_remove rs k f.1)
    ]

-- a change that is refused leaves the rows as they were
nonces_changed :
    (s : Shelf) (e : Option BookRefusal) (rs : List Row) → NoncesLong s.rows → NoncesLong rs → NoncesLong (changed s e rs).1.rows
nonces_changed s None rs f h = h
nonces_changed s (Some e) rs f h = f

pub nonces_put : (s : Shelf) (x : Row) → NoncesLong s.rows → Long x → NoncesLong (with_row s x).rows
nonces_put s x f l = nonces_changed s (put_refusal s x) (insert s.rows x) f (nonces_insert s.rows x f l)

pub nonces_write : (s : Shelf) (x : Row) → NoncesLong s.rows → Long x → NoncesLong (rewritten s x).rows
nonces_write s x f l = nonces_changed s (absence s x.own) (replace s.rows x) f (nonces_replace s.rows x f l)

pub nonces_without : (s : Shelf) (k : ℕ) → NoncesLong s.rows → NoncesLong (without s k).rows
nonces_without s k f = nonces_changed s (absence s k) (remove s.rows k) f (nonces_remove s.rows k f)

pub nonces_calm : (rs : List Row) → NoncesLong rs → NoncesLong (calm rs)
nonces_calm [] f = tt
nonces_calm (r ∷ rs) f = (f.0, nonces_calm rs f.1)

pub nonces_lookup : (rs : List Row) (k : ℕ) → NoncesLong rs → IfSome (lookup rs k) Long
nonces_lookup [] k f = tt
nonces_lookup (r ∷ rs) k f =
    elim (cases_Bool (eqb r.own k)) [
      | inl t ↦ rw t f.0
      | inr t ↦ rw t (nonces_lookup rs k f.1)
    ]

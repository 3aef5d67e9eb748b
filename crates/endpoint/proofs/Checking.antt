-- What is left of an ask once its first checks are passed.
use Rattle.std.proofs.Common.{◌≡◌, ℕ, suc, Bool, true, not, List, Some, Err, Result, ◌∙◌}
use Rattle.nonce.specs.Nonces.{nonce_long}
use Rattle.book.specs.Shelves.{lookup}
use Rattle.book.specs.declared.row.Row.{Row}
use Rattle.calls.specs.declared.refusals.AskRefusal.{AskRefusal}
use Rattle.calls.specs.declared.refusals.AskRefusal.TheVariants as refusal
use Rattle.law.specs.Asks.{Asked, where_holds, by_state, of_row, creating, create_asked, rekeying, rekey_asked, has_room}
use Rattle.law.specs.Ends.{End, is_quiet, is_spent}
use Rattle.endpoint.specs.Begun.{passing}

-- the end's answer to whether it is idle and has an ID left, where d is what follows: r d
abbrev Idle : End → ℕ → (Asked → Asked) → Type 0
Idle e last r =
    (d : Asked) → r d ≡ where_holds (is_quiet e.outstanding) refusal.Busy (where_holds (not (is_spent last)) refusal.IdsSpent d)

pub create_busy :
    (e : End) (n : List ℕ) (f : AskRefusal) → nonce_long n ≡ true → Idle e e.next (λ d. Err f) →
    ◌≡◌ {A = Asked} (Err f) (create_asked e n)
unfolding create_asked
create_busy e n f l h =
    let x : ◌≡◌ {A = Asked} (Err f) _ =
    h (where_holds (not (is_spent e.spi)) refusal.SpisSpent (where_holds (has_room e.shelf) refusal.BookFull (creating e n)))
    in
    rw l x

pub rekey_busy :
    (e : End) (own : ℕ) (n : List ℕ) (f : AskRefusal) (last : ℕ) → last ≡ suc e.next → nonce_long n ≡ true → Idle e last (λ d. Err f) →
    ◌≡◌ {A = Asked} (Err f) (rekey_asked e own n)
unfolding rekey_asked
rekey_busy e own n f last q l h =
    let x : ◌≡◌ {A = Asked} (Err f) _ =
    h
    (where_holds (not (is_spent e.spi)) refusal.SpisSpent
    (of_row (lookup e.shelf.rows own) (λ r. where_holds (has_room e.shelf) refusal.BookFull (rekeying e n r))))
    in
    rw l (rw q at x)

-- by the row, which may be rekeyed or is the reason of a refusal
pub rekey_row :
    (e : End) (own : ℕ) (n : List ℕ) (r : Row) (last : ℕ) (x : Result Row AskRefusal) (b : Bool) → has_room e.shelf ≡ b → last ≡ suc e.next → nonce_long n ≡ true →
    Idle e last (λ d. d) → not (is_spent e.spi) ≡ true → lookup e.shelf.rows own ≡ Some r →
    ((d : Row → Asked) → passing x d ≡ by_state r.state (d r)) →
    passing x (λ y. where_holds b refusal.BookFull (rekeying e n y)) ≡ rekey_asked e own n
unfolding rekey_asked
rekey_row e own n r last x b m q l h s k v =
    let d : Row → Asked = λ y. where_holds b refusal.BookFull (rekeying e n y) in
    rw (l, s, k, m) (v d ∙ (rw q at h (by_state r.state (d r))))

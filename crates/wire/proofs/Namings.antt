-- The bodies that name an SPI.
use Rattle.std.proofs.Common.{◌≡◌, ℕ, true, leb, List, [], ◌∷◌, length, get_or, refl}
use Rattle.octets.specs.Numbers.{be16, be32}
use Rattle.wire.specs.declared.table.Naming.{Naming}
use Rattle.wire.specs.declared.table.Naming.TheVariants.{Rekeyed, NotFound, Deleted}
use Rattle.wire.specs.Payloads.{rekey_body, failure_body, delete_body, naming_number, naming_body, rekeyed_in, not_found_in, deleted_in, named_in, carried}

-- the body, octet by octet
pub naming_written :
    (n : Naming) (k x : ℕ) (a b : List ℕ) → k ≡ naming_number n → a ≡ be16 k → b ≡ be32 x →
    (0x03 ∷ 0x04 ∷ get_or a 0 0 ∷ get_or a 1 0 ∷ get_or b 0 0 ∷ get_or b 1 0 ∷ get_or b 2 0 ∷ get_or b 3 0 ∷ []) ≡ naming_body n x
unfolding rekey_body failure_body delete_body
naming_written Rekeyed k x a b e f g = rw (f, g, e)
naming_written NotFound k x a b e f g = rw (f, g, e)
naming_written Deleted k x a b e f g = rw (f, g, e)

pub naming_long : (n : Naming) (x : ℕ) → leb 8 (length (naming_body n x)) ≡ true
unfolding rekey_body failure_body delete_body
naming_long Rekeyed x = refl
naming_long NotFound x = refl
naming_long Deleted x = refl

pub carried-named : (n : Naming) (s : List ℕ) → carried (naming_body n) 4 s ≡ named_in n s
unfolding rekeyed_in not_found_in deleted_in
carried-named Rekeyed s = refl
carried-named NotFound s = refl
carried-named Deleted s = refl

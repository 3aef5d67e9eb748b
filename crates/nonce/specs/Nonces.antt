-- Nonces and their lengths.
use Rattle.std.specs.Prelude.{ℕ, Bool, cond, ◌&&◌, List, length, Some, None, Option, nat_le}

-- whether octets have the length of a nonce: 16 to 32
abbrev pub nonce_long : List ℕ → Bool
nonce_long s = nat_le 16 (length s) && nat_le (length s) 32

-- the nonce that octets are, where they have its length
abbrev pub as_nonce : List ℕ → Option (List ℕ)
as_nonce s = cond (nonce_long s) (Some s) None

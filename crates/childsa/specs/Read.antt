-- What the words of a script stand for.
use Rattle.std.specs.Prelude.{ℕ, Bool, cond, List, [], ◌∷◌, length, replicate, Some, None, Option, ◌==◌}
use Rattle.std.specs.Char.{is_ascii_digit}
use Rattle.std.specs.List.{list_all}
use Rattle.octets.specs.Numbers.{long}

-- whether a text is made of decimal digits
abbrev pub decimal : List ℕ → Bool
decimal s = list_all is_ascii_digit s

-- the octets that a nonce is written by: one alone stands for sixteen of it
abbrev pub spread : List ℕ → List ℕ
spread [] = []
spread (x ∷ []) = replicate 16 x
spread (x ∷ y ∷ rest) = x ∷ y ∷ rest

-- the number that eight octets are
abbrev pub ike_spi : List ℕ → Option ℕ
ike_spi s = cond (length s == 8) (Some (long s 0)) None

-- A number is what its octets say, and octets are those of the number they say.
use Rattle.std.proofs.Common.{◌≡◌, ℕ, ◌+◌, ◌/◌, ◌^◌, ◌<◌, ◌≤◌, List, [], ◌∷◌, length, Some, None, arith}
use Rattle.std.proofs.lemmas.Bool.Decides.{nat_tests}
use Rattle.octets.specs.Numbers.{be16, be32, be64, half, word, long, within}

-- a quotient by a product, one octet at a time
by16 : (n : ℕ) → n / 65536 ≡ n / 256 / 256
by16 n = omega arith

by24 : (n : ℕ) → n / 16777216 ≡ n / 256 / 256 / 256
by24 n = omega arith

by32 : (n : ℕ) → n / 4294967296 ≡ n / 256 / 256 / 256 / 256
by32 n = omega arith

by40 : (n : ℕ) → n / 1099511627776 ≡ n / 256 / 256 / 256 / 256 / 256
by40 n = omega arith

by48 : (n : ℕ) → n / 281474976710656 ≡ n / 256 / 256 / 256 / 256 / 256 / 256
by48 n = omega arith

by56 : (n : ℕ) → n / 72057594037927936 ≡ n / 256 / 256 / 256 / 256 / 256 / 256 / 256
by56 n = omega arith

-- reading what was written
pub half_be16 : (n : ℕ) → n < 2 ^ 16 → half (be16 n) 0 ≡ n
half_be16 n h = omega arith

pub word_be32 : (n : ℕ) → n < 2 ^ 32 → word (be32 n) 0 ≡ n
word_be32 n h = rw (by16 n, by24 n) (omega arith)

pub long_be64 : (n : ℕ) → n < 2 ^ 64 → long (be64 n) 0 ≡ n
long_be64 n h = rw (by16 n, by24 n, by32 n, by40 n, by48 n, by56 n) (omega arith)

-- writing what was read
two : (a b c d : ℕ) → a ≡ c → b ≡ d → a ∷ b ∷ [] ≡ c ∷ d ∷ []
two a b c d p q = cc

four : (a b c d e f g h : ℕ) → a ≡ e → b ≡ f → c ≡ g → d ≡ h → a ∷ b ∷ c ∷ d ∷ [] ≡ e ∷ f ∷ g ∷ h ∷ []
four a b c d e f g h p q r s = cc

eight :
    (a b c d e f g h a' b' c' d' e' f' g' h' : ℕ) →
    a ≡ a' → b ≡ b' → c ≡ c' → d ≡ d' → e ≡ e' → f ≡ f' → g ≡ g' → h ≡ h' →
    a ∷ b ∷ c ∷ d ∷ e ∷ f ∷ g ∷ h ∷ [] ≡ a' ∷ b' ∷ c' ∷ d' ∷ e' ∷ f' ∷ g' ∷ h' ∷ []
eight a b c d e f g h a' b' c' d' e' f' g' h' p q r s t u v w = cc

pub be16_half : (a b : ℕ) → a < 256 → b < 256 → be16 (half (a ∷ b ∷ []) 0) ≡ a ∷ b ∷ []
be16_half a b p q = two _ _ _ _ (omega arith) (omega arith)

pub be32_word :
    (a b c d : ℕ) → a < 256 → b < 256 → c < 256 → d < 256 →
    be32 (word (a ∷ b ∷ c ∷ d ∷ []) 0) ≡ a ∷ b ∷ c ∷ d ∷ []
be32_word a b c d p q r s = four _ _ _ _ _ _ _ _ (omega arith) (omega arith) (omega arith) (omega arith)

pub be64_long :
    (a b c d e f g h : ℕ) →
    a < 256 → b < 256 → c < 256 → d < 256 → e < 256 → f < 256 → g < 256 → h < 256 →
    be64 (long (a ∷ b ∷ c ∷ d ∷ e ∷ f ∷ g ∷ h ∷ []) 0) ≡ a ∷ b ∷ c ∷ d ∷ e ∷ f ∷ g ∷ h ∷ []
be64_long a b c d e f g h p q r s t u v w =
    eight _ _ _ _ _ _ _ _ _ _ _ _ _ _ _ _
    (omega arith) (omega arith) (omega arith) (omega arith) (omega arith) (omega arith) (omega arith) (omega arith)

-- what a number read at a place says
pub within_some : (s : List ℕ) (i w x y : ℕ) → Some x ≡ within s i w y → (x ≡ y) × (i + w ≤ length s)
within_some s i w x y e = (grind (arith, nat_tests), grind (arith, nat_tests))

pub within_none : (s : List ℕ) (i w y : ℕ) → None ≡ within s i w y → length s < i + w
within_none s i w y e = grind (arith, nat_tests)

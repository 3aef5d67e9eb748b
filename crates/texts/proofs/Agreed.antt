-- What `{:02x}` writes, and the digits that the crate `hex` writes and reads, are those of `specs/Hex`.
use Rattle.std.proofs.Common.{◌≡◌, ℕ, zero, suc, ◌+◌, ◌*◌, ◌/◌, ◌%◌, ◌^◌, ◌-◌, ◌<◌, ◌==◌, Bool, true, false, cond, ◌&&◌, inl, inr, List, [], ◌∷◌, ◌++◌, length, get_or, slice_index, Some, None, Option, Result, Ok, Err, refl, sym, ap, subst, ◌∙◌, arith}
use Rattle.std.specs.Result.{result_ok}
use Rattle.std.proofs.lemmas.Bool.{eqb-true, cases_lt, and_parts}
use Rattle.std.proofs.lemmas.Fmt.{hex_byte}
use Rattle.std.specs.Fmt.{digits, padded_integral, format_spec}
use Rattle.std.proofs.lemmas.Grind.{common_steps}
use Rattle.hex.specs.Hex.{encode_lower, encode_with, lower_digits, decode_of, decode_pairs, hex_digit_value, pair_value, digit_or_error, ◌>>=◌}
use Rattle.hex.specs.declared.error.FromHexError.{FromHexError}
use Rattle.hex.specs.declared.error.FromHexError.TheVariants.{OddLength}
use Rattle.texts.specs.Hex.{digit_value, pair_value as pair_of, before, from_hex, digit_char, hex_text}

-- ---- writing

-- an octet more, as `{:02x}` writes it
pub text_more : (xs : List ℕ) (x : ℕ) → x < 256
    → hex_text (xs ++ x ∷ []) ≡ hex_text xs ++ padded_integral (format_spec 32 0 4 2 (2 ^ 64 - 1)) false [] (digits 16 false x)
text_more [] x small = sym (hex_byte false x small)
text_more (y ∷ ys) x small = ap (λ (t : List ℕ). digit_char (y / 16) ∷ digit_char (y % 16) ∷ t) (text_more ys x small)

-- a test of each number below n, and what it says of one of them
every : ℕ → (ℕ → Bool) → Bool
every zero test = true
every (suc n) test = test n && every n test

one_of_every : (n : ℕ) (test : ℕ → Bool) → every n test ≡ true → (d : ℕ) → d < n → test d ≡ true
unfolding every
one_of_every zero test h d l = absurd (omega (arith, l))
one_of_every (suc n) test h d l =
    elim (cases_lt d n) [
      | inl below ↦ one_of_every n test (and_parts (test n) (every n test) h).1 d below
      | inr above ↦ let last : n ≡ d = omega (arith, l, above) in subst (λ (k : ℕ). test k ≡ true) last (and_parts (test n) (every n test) h).0
    ]

-- the digits of the crate `hex`
digit_agrees : (d : ℕ) → d < 16 → slice_index lower_digits d ≡ digit_char d
unfolding every
digit_agrees d small = eqb-true _ _ (one_of_every 16 (λ (k : ℕ). slice_index lower_digits k == digit_char k) refl d small)

-- octets as the crate `hex` writes them
pub written_agrees : (xs : List ℕ) → ((i : ℕ) → get_or xs i 0 < 256) → encode_lower xs ≡ hex_text xs
unfolding encode_with
written_agrees [] small = refl
written_agrees (x ∷ xs) small =
    let s : x < 256 = small 0 in
    let high = digit_agrees (x / 16) (omega (arith, s)) in
    let low = digit_agrees (x % 16) (omega arith) in
    rw (high, low, written_agrees xs (λ i. small (suc i))) refl

-- ---- reading

value_agrees : (c : ℕ) → hex_digit_value c ≡ digit_value c
value_agrees c = grind (arith, common_steps)

pair_read : (h l i : ℕ) (o p : Option ℕ) → result_ok (digit_or_error h i o >>= λ (x : ℕ). digit_or_error l (i + 1) p >>= λ (y : ℕ). Ok (x * 16 + y)) ≡ pair_of o p
pair_read h l i None p = refl
pair_read h l i (Some x) None = refl
pair_read h l i (Some x) (Some y) = let e : x * 16 + y ≡ 16 * x + y = omega arith in ap (λ (n : ℕ). Some n) e

pair_agrees : (h l i : ℕ) → result_ok (pair_value h l i) ≡ pair_of (digit_value h) (digit_value l)
pair_agrees h l i =
    pair_read h l i (hex_digit_value h) (hex_digit_value l)
    ∙ ap (λ (o : Option ℕ). pair_of o (hex_digit_value l)) (value_agrees h)
    ∙ ap (λ (o : Option ℕ). pair_of (digit_value h) o) (value_agrees l)

-- an octet, and then those behind it
joined : (v : Result ℕ FromHexError) (r : Result (List ℕ) FromHexError) → result_ok (v >>= λ (x : ℕ). r >>= λ (xs : List ℕ). Ok (x ∷ xs)) ≡ before (result_ok v) (result_ok r)
joined (Err e) r = refl
joined (Ok x) (Err e) = refl
joined (Ok x) (Ok xs) = refl

pairs_agree : (i : ℕ) (xs : List ℕ) → result_ok (decode_pairs i xs) ≡ from_hex xs
unfolding decode_pairs
pairs_agree i [] = refl
pairs_agree i (h ∷ []) = refl
pairs_agree i (h ∷ l ∷ rest) =
    joined (pair_value h l i) (decode_pairs (i + 2) rest)
    ∙ ap (λ (o : Option ℕ). before o (result_ok (decode_pairs (i + 2) rest))) (pair_agrees h l i)
    ∙ ap (λ (o : Option (List ℕ)). before (pair_of (digit_value h) (digit_value l)) o) (pairs_agree (i + 2) rest)

before_none : (o : Option ℕ) → before o None ≡ None
before_none None = refl
before_none (Some x) = refl

-- an odd number of digits is none of octets
odd_none : (xs : List ℕ) → length xs % 2 ≡ 1 → from_hex xs ≡ None
odd_none [] h = absurd (omega arith)
odd_none (x ∷ []) h = refl
odd_none (x ∷ y ∷ rest) h =
    let odd : length rest % 2 ≡ 1 = omega (arith, h) in
    ap (λ (o : Option (List ℕ)). before (pair_of (digit_value x) (digit_value y)) o) (odd_none rest odd)
    ∙ before_none (pair_of (digit_value x) (digit_value y))

by_parity : (b : Bool) (xs : List ℕ) → (length xs % 2 == 1) ≡ b → result_ok (cond b (Err OddLength) (decode_pairs 0 xs)) ≡ from_hex xs
by_parity true xs e = sym (odd_none xs (eqb-true (length xs % 2) 1 e))
by_parity false xs e = pairs_agree 0 xs

pub octets_agree : (xs : List ℕ) → result_ok (decode_of xs) ≡ from_hex xs
octets_agree xs = by_parity (length xs % 2 == 1) xs refl

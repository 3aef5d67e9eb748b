-- A number that a body carries at a place.
use Rattle.std.proofs.Common.{◌≡◌, ℕ, ◌+◌, ◌<◌, true, false, cond, leb, List, length, Some, None, Option, sym, refl, ap, ◌∙◌, ⊎_elim, arith}
use Rattle.std.proofs.lemmas.Slice.Eq.{bytes_eq-Decides}
use Rattle.std.proofs.lemmas.Bool.{cases_Bool, cond-false, leb-true}
use Rattle.std.specs.Str.{bytes_eq}
use Rattle.std.specs.Bool.{then_some}
use Rattle.std.specs.Prelude.{Bool, MatchOption}
use Rattle.octets.specs.Numbers.{word, within}
use Rattle.octets.proofs.Words.{within_some, within_none}
use Rattle.wire.specs.Payloads.{carried}

pub same_equal : (xs ys : List ℕ) → bytes_eq xs ys ≡ true → xs ≡ ys
same_equal xs ys e = (bytes_eq-Decides xs ys).0 e

-- rows of different lengths are not the same
shorter_differs : (xs ys : List ℕ) → length xs < length ys → bytes_eq xs ys ≡ false
shorter_differs xs ys l =
    ⊎_elim (λ t. absurd (omega (arith, ap length (same_equal xs ys t)))) (λ f. f) (cases_Bool (bytes_eq xs ys))

-- a body that ends before the number carries none
carried_short :
    (table : ℕ → List ℕ) (s : List ℕ) (i : ℕ) → ((x : ℕ) → leb (i + 4) (length (table x)) ≡ true) →
    None ≡ within s i 4 (word s i) → None ≡ carried table i s
unfolding carried
carried_short table s i long e =
    let short = within_none s i 4 (word s i) e in
    let l : length s < length (table (word s i)) =
    omega (arith, leb-true (i + 4) (length (table (word s i))) (long (word s i)))
    in
    sym (cond-false _ (Some (word s i)) None (shorter_differs s (table (word s i)) l))

then_some-cond : (b : Bool) (x : ℕ) → then_some b x ≡ cond b (Some x) None
then_some-cond true x = refl
then_some-cond false x = refl

-- the number that is read at place i, kept where the body is the table's for it
pub carried_kept :
    (table : ℕ → List ℕ) (s : List ℕ) (i : ℕ) (o r : Option ℕ) (Answers : ℕ → Bool → Type 0) →
    ((x : ℕ) → leb (i + 4) (length (table x)) ≡ true) → o ≡ within s i 4 (word s i) →
    ((x : ℕ) (b : Bool) → Answers x b → b ≡ bytes_eq s (table x)) →
    MatchOption o (r ≡ None) (λ x. (b : Bool) × Answers x b × (r ≡ then_some b x)) → r ≡ carried table i s
unfolding carried
carried_kept table s i None r Answers long e same h = h ∙ carried_short table s i long e
carried_kept table s i (Some x) r Answers long e same (b, a, h) =
    let k = (within_some s i 4 x (word s i) e).0 in
    h ∙ then_some-cond b x ∙ rw (same x b a, k)

-- The first payload of a chain.
use Rattle.std.proofs.Common.{◌≡◌, ℕ, ◌+◌, ◌-◌, ◌≤◌, true, List, length, get_or, take, drop, Some, ap, ◌∙◌, arith}
use Rattle.std.proofs.lemmas.List.{drop-drop, take_rest}
use Rattle.std.proofs.lemmas.Bool.{le-leb, eq-eqb, and_from}
use Rattle.octets.specs.Numbers.{half}
use Rattle.wire.specs.Decoding.{opens, opened}

module _ (s : List ℕ) where
  right : 4 ≤ length s → get_or s 1 0 ≡ 0 → 4 ≤ half s 2 → half s 2 ≤ length s → opens s ≡ true
  right a b c d =
      and_from _ _ (le-leb 4 (length s) a)
      (and_from _ _ (eq-eqb (get_or s 1 0) 0 b)
      (and_from _ _ (le-leb 4 (half s 2) c) (le-leb (half s 2) (length s) d)))

  -- the octets behind the opening four, cut where the length says
  pub opened_cut :
      (n : ℕ) (behind b r : List ℕ) → n ≡ half s 2 → 4 ≤ length s → get_or s 1 0 ≡ 0 → 4 ≤ half s 2 → half s 2 ≤ length s →
      behind ≡ take (length s - 4) (drop 4 s) → b ≡ take (n - 4) behind → r ≡ drop (n - 4) behind →
      Some (record { body = b; next = get_or s 0 0; rest = r }) ≡ opened s
  unfolding opened
  opened_cut n behind b r q k z l m h e f =
      let t = right k z l m in
      let e' : b ≡ take (half s 2 - 4) behind = rw q at e in
      let f' : r ≡ drop (half s 2 - 4) behind = rw q at f in
      let i : behind ≡ drop 4 s = h ∙ take_rest s 4 in
      let w : 4 + (half s 2 - 4) ≡ half s 2 = omega arith in
      let j : r ≡ drop (half s 2) s =
      f' ∙ ap (drop (half s 2 - 4)) i ∙ drop-drop (half s 2 - 4) 4 s ∙ ap (λ x. drop x s) w
      in
      rw (t, e', i, j)

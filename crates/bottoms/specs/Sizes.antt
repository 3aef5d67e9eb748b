-- The sizes of datagrams.
use Rattle.std.specs.Prelude.{◌≡◌, ℕ, ◌<◌, ◌≤◌, true, List, [], ◌∷◌, ◌++◌, length}
use Rattle.std.proofs.lemmas.Bool.{and_from, and_parts, leb-true, le-leb, ltb-true}
use Rattle.bottoms.specs.Datagrams.{is_sized, all_sized, admitted}

module _ (longest : ℕ) where
  pub sized_parts : (d : List ℕ) → is_sized longest d ≡ true → (1 ≤ length d) × (length d ≤ longest)
  sized_parts d h = let p = and_parts _ _ h in (leb-true 1 (length d) p.0, leb-true (length d) longest p.1)

  pub sized_from : (d : List ℕ) → 1 ≤ length d → length d ≤ longest → is_sized longest d ≡ true
  sized_from d a b = and_from _ _ (le-leb 1 (length d) a) (le-leb (length d) longest b)

  pub admitted_parts :
      (ds : List (List ℕ)) (d : List ℕ) → admitted longest ds d ≡ true →
      (is_sized longest d ≡ true) × (length d ≤ longest) × (length ds < 32)
  admitted_parts ds d h =
      let p = and_parts _ _ h in
      (p.0, (sized_parts d p.0).1, ltb-true (length ds) 32 p.1)

  pub sized_last :
      (ds : List (List ℕ)) (d : List ℕ) → all_sized longest ds ≡ true → is_sized longest d ≡ true →
      all_sized longest (ds ++ (d ∷ [])) ≡ true
  sized_last [] d h k = and_from _ _ k h
  sized_last (x ∷ ds) d h k = let p = and_parts _ _ h in and_from _ _ p.0 (sized_last ds d p.1 k)

-- The sizes in the lanes after a change.
use Rattle.std.proofs.Common.{◌≡◌, ℕ, true, List, [], ◌∷◌, ◌++◌, map, Ok, Err, Result}
use Rattle.std.specs.List.{remove}
use Rattle.std.specs.Result.{OnOk, OnErr}
use Rattle.std.proofs.lemmas.Bool.{and_parts}
use Rattle.std.proofs.lemmas.List.{map_push}
use Rattle.arrayvec.specs.ArrayVec.{ArrayVec}
use Rattle.nonce.specs.declared.side.Side.{Side}
use Rattle.nonce.specs.declared.side.Side.TheVariants.{A, B}
use Rattle.nonce.specs.Both.{at, with_at}
use Rattle.bottoms.specs.Datagrams.{octets_of, lane_list, is_sized, all_sized}
use Rattle.bottoms.specs.Sizes.{admitted_parts, sized_last}
use Rattle.bottoms.specs.Stores.{list_at, admits, store_of}
use Rattle.bottoms.specs.declared.lanes.Lanes.{Lanes}

-- what is admitted has the size of a datagram
pub fit : (l : Lanes) (to : Side) (octets : List ℕ) → admits (store_of l) to octets ≡ true → is_sized l.longest octets ≡ true
fit l to octets h = (admitted_parts l.longest (list_at (store_of l) to) octets h).0

-- without the first, if there is one
pub sizes_rest :
    (longest : ℕ) (lane x : ArrayVec (ArrayVec ℕ)) → all_sized longest (lane_list lane) ≡ true → x.items ≡ remove lane.items 0 →
    all_sized longest (lane_list x) ≡ true
sizes_rest longest lane x h e = rw e (rest lane.items h) where
  rest : (ds : List (ArrayVec ℕ)) → all_sized longest (map octets_of ds) ≡ true → all_sized longest (map octets_of (remove ds 0)) ≡ true
  rest [] h = h
  rest (d ∷ ds) h = (and_parts _ _ h).1

-- with one more behind the others
module _ (longest : ℕ) (lane x : ArrayVec (ArrayVec ℕ)) (d : ArrayVec ℕ) where
  pub sizes_more :
      is_sized longest d.items ≡ true → all_sized longest (lane_list lane) ≡ true → x.items ≡ lane.items ++ (d ∷ []) →
      all_sized longest (lane_list x) ≡ true
  sizes_more h k e = rw (e, map_push) (sized_last longest (lane_list lane) d.items k h)

  -- if there was room for it
  pub sizes_tried :
      {E : Type 0} (r : Result (Unit {0}) E) → is_sized longest d.items ≡ true → all_sized longest (lane_list lane) ≡ true →
      OnOk r (x.items ≡ lane.items ++ (d ∷ [])) → OnErr r (x ≡ lane) → all_sized longest (lane_list x) ≡ true
  sizes_tried (Ok _) h k e _ = sizes_more h k e
  sizes_tried (Err _) h k _ f = rw f k

-- with another lane at a side
pub sizes_with :
    (l : Lanes) (side : Side) (x : ArrayVec (ArrayVec ℕ)) → all_sized l.longest (lane_list x) ≡ true → (e : Side) →
    all_sized l.longest (lane_list (at (with_at l.lists side x) e)) ≡ true
sizes_with l A x h A = h
sizes_with l A x h B = l.sizes B
sizes_with l B x h A = l.sizes A
sizes_with l B x h B = h

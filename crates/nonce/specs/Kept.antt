-- How a nonce is kept.
use Rattle.std.specs.Prelude.{◌≡◌, ◌-◌, ◌≤◌, ◌++◌, length, take, drop, replicate}
use Rattle.std.proofs.Common.{arith, take-append-drop, length-take-le}
use Rattle.nonce.specs.declared.Nonce.TheInside.{Inside}

-- 16 to 32 octets in front of 32, and zeros behind them
pub record IsKept (n : Inside) : Type 0 where
  pub least : 16 ≤ n.len
  pub most : n.len ≤ 32
  pub long : length n.octets ≡ 32
  pub padded : drop n.len n.octets ≡ replicate (32 - n.len) 0

pub fields_back : (n : Inside) → IsKept n
    → record { octets = take n.len n.octets ++ replicate (32 - length (take n.len n.octets)) 0; len = length (take n.len n.octets) } ≡ n
fields_back n h =
    let l : length (take n.len n.octets) ≡ n.len = length-take-le n.len n.octets (omega (arith, h.most, h.long)) in
    let o : take n.len n.octets ++ replicate (32 - length (take n.len n.octets)) 0 ≡ n.octets =
    rw (l, ← h.padded) (take-append-drop n.len n.octets)
    in
    λ i. record { octets = o i; len = l i }

use Rattle.std.proofs.Common.{◌≡◌, ◌≤◌, true, length, refl, arith}
use Rattle.std.proofs.lemmas.Bool.{le-leb, and_from}
use Rattle.nonce.specs.Nonces.{nonce_long}
use Rattle.nonce.proofs.Padded.{zeros_behind, long_kept, octets_in_front}
use Rattle.nonce.proofs.Nonce.new.Goals as goal

pub invariant_of-result : goal.invariant_of-result
invariant_of-result c = record {
  least = omega arith;
  most = omega arith;
  long = long_kept _ c.copy_from_slice.new.self c.args.octets.now c.copy_from_slice.ensures.after refl (omega arith);
  padded = zeros_behind _ c.copy_from_slice.new.self c.args.octets.now c.copy_from_slice.ensures.after refl;
}

pub returns : goal.returns
returns c =
    let s = c.args.octets.now in
    let least : 16 ≤ length s = omega arith in
    let most : length s ≤ 32 = omega arith in
    let long : nonce_long s ≡ true = and_from _ _ (le-leb _ _ least) (le-leb _ _ most) in
    rw (long, octets_in_front _ c.copy_from_slice.new.self _ s c.copy_from_slice.ensures.after refl)

use Rattle.std.proofs.Common.{length}
use Rattle.nonce.proofs.order.compare.+lower_or.Given as goal

abbrev pub decreases-lower_or : goal.decreases-lower_or
decreases-lower_or l = length l.a.now

use Rattle.std.proofs.Common.{length}
use Rattle.exported.proofs.Padding.{zeros_behind}
use Rattle.exported.proofs.padded.padded.Goals as goal

pub returns : goal.returns
returns c = zeros_behind (length c.args.nonce.now) c.copy_from_slice.new.self c.args.nonce.now c.copy_from_slice.ensures.after

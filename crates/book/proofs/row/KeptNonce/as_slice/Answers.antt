use Rattle.std.proofs.Common.{rules}
use Rattle.book.proofs.Kept.{take_capped}
use Rattle.book.proofs.row.KeptNonce.as_slice.Goals as goal

pub returns : goal.returns
returns c = take_capped _ _ c.args.self.now.octets (search rules) (search rules)

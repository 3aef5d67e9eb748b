use Rattle.std.proofs.Common.{◌∙◌, rules}
use Rattle.book.proofs.Kept.{nonce_copied}
use Rattle.book.proofs.row.KeptNonceFromRefNonce.from.Goals as goal

pub returns : goal.returns
returns c =
    let octets = c.as_slice-from.ensures in
    nonce_copied _ c.copy_from_slice.new.self _ (c.copy_from_slice.ensures.after ∙ octets.value) (search rules) (search rules) (search rules)

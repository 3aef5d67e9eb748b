use Rattle.protocol.proofs.Fates.{succession}
use Rattle.protocol.proofs.Gone.{rekeyed_gone}
use Rattle.protocol.proofs.Kept.{books_agree}
use Rattle.protocol.proofs.Keys.{keys_name_one}
use Rattle.protocol.proofs.Lines.{lines_go_on}
use Rattle.protocol.proofs.ends_agree.Goals as goal

pub returns : goal.returns
returns c =
    record { books = books_agree; keys = keys_name_one; rekeyed = rekeyed_gone; fates = succession; lines = lines_go_on }

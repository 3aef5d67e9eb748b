use Rattle.std.proofs.Common.{◌∙◌, rules, tests}
use Rattle.std.specs.Str.{bytes_eq}
use Rattle.std.proofs.lemmas.Iterator.{YieldsList-from_slice}
use Rattle.std.proofs.lemmas.Iterator.Search.{find_from_yields_List}
use Rattle.wire.specs.Payloads.{failure_body, bare_failures}
use Rattle.wire.proofs.table.bare_in.Goals as goal

pub returns : goal.returns
returns c =
    c.copied.ensures
    ∙ find_from_yields_List (λ bare. bytes_eq c.args.body.now (failure_body bare)) _ _ _ c.find.ensures.ran
    (YieldsList-from_slice bare_failures cc) (λ x b q k. search (rules, tests))

use Rattle.std.proofs.Common.{rules}
use Rattle.std.proofs.lemmas.Iterator.{YieldsList-from_slice}
use Rattle.std.proofs.lemmas.Iterator.Search.{find_from_yields_List}
use Rattle.ordered.proofs.Placing.{first_is}
use Rattle.ordered.proofs.OrderedBook.first.Goals as goal

pub returns : goal.returns
returns g c q says =
    let rs = c.args.self.now.rows.items in
    first_is q rs c.find.result _ c.map.result
    (find_from_yields_List q _ _ c.find.result c.find.ensures.ran (YieldsList-from_slice rs (cc)) (λ x b f k. (search rules, says x.now b (search rules))))
    c.map.ensures.cases (λ x k p. search rules)

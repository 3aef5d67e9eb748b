use Rattle.std.proofs.Common.{sym, ◌∙◌, rules, tests}
use Rattle.std.proofs.lemmas.Iterator.{YieldsList-from_map, YieldsList-from_slice}
use Rattle.std.proofs.lemmas.Iterator.Adapters.{option_map_id}
use Rattle.std.proofs.lemmas.Iterator.Consumers.{YieldsList-at, YieldsList-from_filter, min_from_yields_List}
use Rattle.book.specs.declared.row.Row.{Row}
use Rattle.strangers.proofs.Lowest.{lowest_first}
use Rattle.strangers.proofs.any_order.Drawer.lowest.Goals as goal

pub returns : goal.returns
returns g c q says =
    let b = c.args.self.now in
    sym (option_map_id c.min.result)
    ∙ min_from_yields_List c.map.result c.min.result c.min.ensures.ran
    (YieldsList-from_map _ (λ (r : Row). r.own)
    (YieldsList-at c.map.ensures.source
    (YieldsList-from_filter _ q (YieldsList-at c.filter.ensures.source (YieldsList-from_slice b.rows.items (cc)))
    c.filter.ensures.closure (λ x b f k. (search rules, says x.now b (search rules)))))
    c.map.ensures.closure (λ x r f k. (search rules, search (rules, tests))))
    ∙ lowest_first q b.rows.items b.ok

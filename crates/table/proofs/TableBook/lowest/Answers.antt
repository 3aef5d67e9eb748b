use Rattle.std.proofs.Common.{sym, ◌∙◌, rules, tests}
use Rattle.std.specs.Option.{option_to_list}
use Rattle.std.proofs.lemmas.Iterator.{YieldsList-from_map, YieldsList-from_slice}
use Rattle.std.proofs.lemmas.Iterator.Adapters.{YieldsList-from_flatten, option_map_id}
use Rattle.std.proofs.lemmas.Iterator.Consumers.{YieldsList-at, YieldsList-from_filter, min_from_yields_List}
use Rattle.book.specs.declared.row.Row.{Row}
use Rattle.table.proofs.Placing.{slot_road, lowest_least}
use Rattle.table.proofs.TableBook.lowest.Goals as goal

pub returns : goal.returns
returns g c q says =
    let s = c.args.self.now.slots in
    sym (option_map_id c.min.result)
    ∙ min_from_yields_List c.map.result c.min.result c.min.ensures.ran
    (YieldsList-from_map _ (λ (r : Row). r.own)
    (YieldsList-at c.map.ensures.source
    (YieldsList-from_filter _ q
    (YieldsList-at c.filter.ensures.source
    (YieldsList-from_flatten _ _ (λ y. y.now) option_to_list (λ x j b. slot_road x.now j b.0 b.1)
    (YieldsList-at c.flatten.ensures.source (YieldsList-from_slice s (cc))) c.flatten.ensures.front c.flatten.ensures.back c.flatten.ensures.done))
    c.filter.ensures.closure (λ x b f k. (search rules, says x.now b (search rules)))))
    c.map.ensures.closure (λ x r f k. (search rules, search (rules, tests))))
    ∙ lowest_least q s

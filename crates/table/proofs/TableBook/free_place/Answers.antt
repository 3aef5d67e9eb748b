use Rattle.std.proofs.Common.{◌+◌, ◌%◌, sym, ap, ◌∙◌, not, get_or, is_some, None, rules, tests, arith}
use Rattle.std.proofs.lemmas.Iterator.{YieldsList-from_map, YieldsList-from_range}
use Rattle.std.proofs.lemmas.Iterator.Adapters.{option_map_id}
use Rattle.std.proofs.lemmas.Iterator.Consumers.{YieldsList-at}
use Rattle.std.proofs.lemmas.Iterator.Search.{find_from_yields_List}
use Rattle.table.specs.Slots.{free_from}
use Rattle.table.proofs.Placing.{free_found}
use Rattle.table.proofs.TableBook.free_place.Goals as goal

pub returns-clause-value : goal.returns-clause-value
returns-clause-value c =
    let s = c.args.self.now.slots in
    let h = c.home-start.result in
    sym (option_map_id c.find.result)
    ∙ find_from_yields_List (λ i. not (is_some (get_or s i None))) _ _ c.find.result c.find.ensures.ran
    (YieldsList-from_map _ (λ k. (h + k) % 16) (YieldsList-at c.map.ensures.source (YieldsList-from_range 0 16 16 (search rules) (omega arith)))
    c.map.ensures.closure (λ x r q k. (search rules, search (rules, tests))))
    (λ x b q k. (search rules, search (rules, tests)))
    ∙ free_found s h 0 16 ∙ ap (λ m. free_from s m 16) (omega arith)

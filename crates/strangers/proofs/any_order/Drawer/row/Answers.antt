use Rattle.std.proofs.Common.{nat_eq, sym, ◌∙◌, rules}
use Rattle.std.proofs.lemmas.Iterator.{YieldsList-from_slice}
use Rattle.std.proofs.lemmas.Iterator.Search.{find_from_yields_List}
use Rattle.strangers.specs.Sorted.{lookup_sorted}
use Rattle.strangers.proofs.Lowest.{find_lookup}
use Rattle.strangers.proofs.any_order.Drawer.row.Goals as goal

pub returns : goal.returns
returns c =
    let b = c.args.self.now in
    c.copied.ensures
    ∙ find_from_yields_List (λ r. nat_eq r.own c.args.own) _ _ c.find.result c.find.ensures.ran (YieldsList-from_slice b.rows.items (cc))
    (λ x f g k. (search rules, search rules))
    ∙ find_lookup b.rows.items c.args.own
    ∙ sym (lookup_sorted b.rows.items c.args.own b.ok)

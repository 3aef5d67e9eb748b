use Rattle.std.proofs.Common.{◌∙◌, rules}
use Rattle.strangers.specs.Drawers.{shelved, drawer_orderly}
use Rattle.strangers.proofs.Changed.{rewritten}
use Rattle.strangers.proofs.any_order.methods.DrawerBook.write.Goals as goal

pub returns : goal.returns
returns c =
    let b = c.args.self.now in
    c.put.ensures ∙ rewritten (shelved b) c.args.row (drawer_orderly b) (shelved c.remove.new.self) (search rules)

use Rattle.std.proofs.Common.{sym, ◌∙◌}
use Rattle.endpoint.proofs.Calming.{shelf_start, shelf_step, fewer, shelf_done}
use Rattle.endpoint.proofs.calm.calm.Goals as goal

pub loop-own-init : goal.loop-own-init
loop-own-init g c = shelf_start _ (g.met.B.Book.orderly c.args.book.now).rises

pub loop-own-smaller : goal.loop-own-smaller
loop-own-smaller g c =
    let b = c.args.book.now in
    let e = sym c.in-Some.is ∙ c.next.ensures in
    fewer (g.B.Book.shelf b) _ _ c.loop-own.invariant _ (g.met.B.Book.orderly b).rises e

pub loop-own-preserved : goal.loop-own-preserved
loop-own-preserved g c =
    let b = c.args.book.now in
    let e = sym c.in-Some.is ∙ c.next.ensures in
    c.calm_row.ensures ∙ shelf_step (g.B.Book.shelf b) _ _ c.loop-own.invariant _ (g.met.B.Book.orderly b).rises e

pub returns : goal.returns
returns g c =
    let e = sym c.in_default.is ∙ c.next.ensures in
    shelf_done (g.B.Book.shelf c.args.book.now) _ c.loop-own.last c.loop-own.invariant e

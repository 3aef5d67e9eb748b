use Rattle.std.proofs.Common.{sym, ◌∙◌, arith}
use Rattle.childsa.proofs.Fronts.{front, shown, mapped_ok}
use Rattle.childsa.proofs.messages.octets_text.Goals as goal

pub slice_bounds-to_string-end : goal.slice_bounds-to_string-end
slice_bounds-to_string-end c =
    let wrote = mapped_ok _ _ _ c.in_ok-len.len c.map_err.ensures.cases c.map_err.ensures.variant c.in_ok-len.was in
    let f = front c.args.message.now _ c.in_ok-len.len (sym wrote ∙ c.encode.ensures.answer) in
    omega (arith, f.room, c.encode.auto.out)

pub returns : goal.returns
returns c =
    let wrote = mapped_ok _ _ _ c.in_ok-len.len c.map_err.ensures.cases c.map_err.ensures.variant c.in_ok-len.was in
    shown c.args.message.now _ _ c.in_ok-len.len _ (sym wrote ∙ c.encode.ensures.answer)
    c.encode.ensures.buffer c.in_ok-to_string.ensures.ok

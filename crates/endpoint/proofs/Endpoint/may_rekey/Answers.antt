use Rattle.std.proofs.Common.{rules, arith, ◌≡◌, ◌+◌, true, false, not, suc, Some, Ok, Err, refl}
use Rattle.std.proofs.lemmas.Result.{err_from_is_err_and}
use Rattle.nonce.specs.Nonces.{nonce_long}
use Rattle.book.specs.Shelves.{lookup}
use Rattle.law.specs.Asks.{has_room}
use Rattle.law.specs.Ends.{is_spent}
use Rattle.endpoint.proofs.Checking.{rekey_busy, rekey_row}
use Rattle.endpoint.proofs.Endpoint.may_rekey.Goals as goal

pub returns-in_err-idle-clause-value : goal.returns-in_err-idle-clause-value
returns-in_err-idle-clause-value g c =
    let e = c.args.self.now in
    let p = err_from_is_err_and c.from_residual-in_err-idle.result c.from_residual-in_err-idle.ensures.1 in
    let l : nonce_long c.args.nonce.now ≡ true = search rules in
    let q : c.self.inside.next + 1 ≡ suc e.next = rw (← c.self.view_is) (omega arith) in
    rw (p.1, p.2) (rekey_busy e c.args.own c.args.nonce.now _ _ q l c.in_err-idle.ensures.value)

pub returns-in_err-row-clause-value : goal.returns-in_err-row-clause-value
returns-in_err-row-clause-value g c =
    let e = c.args.self.now in
    let r = c.in_ok-ok_or.field-0 in
    let p = err_from_is_err_and c.from_residual-in_err-row.result c.from_residual-in_err-row.ensures.1 in
    let l : nonce_long c.args.nonce.now ≡ true = search rules in
    let q : c.self.inside.next + 1 ≡ suc e.next = rw (← c.self.view_is) (omega arith) in
    let s : not (is_spent e.spi) ≡ true = search rules in
    let f : lookup e.shelf.rows c.args.own ≡ Some r = search rules in
    rw (p.1, p.2)
    (rekey_row e c.args.own c.args.nonce.now r _ (Err c.in_err-row.field-0.0) _ refl q l c.in_ok-idle.ensures.value s f c.in_err-row.ensures.value)

pub returns-then-is_full-clause-value : goal.returns-then-is_full-clause-value
returns-then-is_full-clause-value g c =
    let e = c.args.self.now in
    let r = c.in_ok-ok_or.field-0 in
    let l : nonce_long c.args.nonce.now ≡ true = search rules in
    let q : c.self.inside.next + 1 ≡ suc e.next = rw (← c.self.view_is) (omega arith) in
    let s : not (is_spent e.spi) ≡ true = search rules in
    let f : lookup e.shelf.rows c.args.own ≡ Some r = search rules in
    let b : has_room e.shelf ≡ false = search rules in
    rekey_row e c.args.own c.args.nonce.now r _ (Ok c.in_ok-row.row) _ b q l c.in_ok-idle.ensures.value s f c.in_ok-row.ensures.value

pub returns-clause-value : goal.returns-clause-value
returns-clause-value g c =
    let e = c.args.self.now in
    let r = c.in_ok-ok_or.field-0 in
    let l : nonce_long c.args.nonce.now ≡ true = search rules in
    let q : c.self.inside.next + 1 ≡ suc e.next = rw (← c.self.view_is) (omega arith) in
    let s : not (is_spent e.spi) ≡ true = search rules in
    let f : lookup e.shelf.rows c.args.own ≡ Some r = search rules in
    let b : has_room e.shelf ≡ true = search rules in
    let n : c.in_ok-nonce.nonce ≡ c.args.nonce.now = search rules in
    rw n (rekey_row e c.args.own c.args.nonce.now r _ (Ok c.in_ok-row.row) _ b q l c.in_ok-idle.ensures.value s f c.in_ok-row.ensures.value)

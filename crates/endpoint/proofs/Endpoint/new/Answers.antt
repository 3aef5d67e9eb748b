use Rattle.std.proofs.Common.{rules, arith, ◌≡◌, [], None, refl}
use Rattle.law.specs.Ends.{making_refused}
use Rattle.endpoint.proofs.Emptied.{none_filed}
use Rattle.endpoint.proofs.Endpoint.new.Goals as goal

pub invariant_of-result : goal.invariant_of-result
invariant_of-result g c =
    let n : making_refused c.args.making (g.B.Book.shelf c.args.book) ≡ None = search rules in
    let l : (g.B.Book.shelf c.args.book).rows ≡ [] = none_filed c.args.making (g.B.Book.shelf c.args.book) n in
    record {
      next = omega (arith, c.wide.ensures.left);
      expected = omega (arith, c.wide-2.ensures.left);
      spi = omega (arith, c.wide-3.ensures.left);
      nonces = rw l tt;
      alone = λ _. refl;
    }

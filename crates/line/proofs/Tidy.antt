-- At every moment of a run the books are tidy.
use Rattle.std.proofs.Common.{ℕ, List, [], ◌∷◌, Option, arith}
use Rattle.wire.specs.declared.message.Response.{Response}
use Rattle.protocol.specs.Model.{Nonce, Cell, Book}
use Rattle.protocol.specs.Invariant.{Half, RowOwned, LinkOwned}
use Rattle.protocol.specs.Rows.{lookup, ordered}
use Rattle.protocol.specs.Node.{Out, Node, link_by, Ghost, end_of}
use Rattle.protocol.proofs.Kept.{run_keeps}
use Rattle.channel.specs.Meaning.{Meaning}
use Rattle.line.specs.Calls.{Coding}
use Rattle.line.specs.History.{GivenUpBy}
use Rattle.line.specs.Line.{Sane}
use Rattle.line.specs.Tidy.{RowHeld, OutHeld, Tidy}
use Rattle.line.specs.World.{World, Move, Answer, Run, Start}
use Rattle.nonce.specs.declared.side.Side.{Side}
use Rattle.line.proofs.Runs.{Alive, run_alive, starts}

row_by : (spi : ℕ) (o : Out) (e : ℕ) (r : Option (Response Nonce)) (k : ℕ) (c : Option Cell) → RowOwned spi (link_by o e r) k c → RowHeld spi o k c
row_by spi o e r k c h = grind arith

out_by : (spi : ℕ) (b : Book) (o : Out) (e : ℕ) (r : Option (Response Nonce)) → LinkOwned spi b (link_by o e r) → OutHeld spi b o
out_by spi b o e r h = grind arith

tidy_end : (K : Coding) (γ δ : Ghost) (P Q : Node) → Sane K P → ordered P.rows → Half (end_of γ P Q) (end_of δ Q P) → Tidy K P
tidy_end K γ δ P Q s a h =
    record {
      sane = s;
      rises = a;
      rows = λ k. row_by P.spi P.out Q.exp Q.reply k (lookup P.rows k) (h.rows k);
      own = out_by P.spi (lookup P.rows) P.out Q.exp Q.reply h.own;
    }

module _ {C : Type 0} (K : Coding) (meaning : C → Meaning) where
  pub tidy_alive : (acc : Side → ℕ → Type 0) (us : List (World C)) (w : World C) → Alive K meaning acc us w → Tidy K w.a × Tidy K w.b
  tidy_alive acc us w l =
      let i = run_keeps l.lived.run in
      let b = l.between in (
        tidy_end K l.ghost_a l.ghost_b w.a w.b b.p_sane b.p_rows i.here,
        tidy_end K l.ghost_b l.ghost_a w.b w.a b.q_sane b.q_rows i.there,
      )

  pub tidy : (v : World C) (xs : List Move) (rs : List Answer) (w : World C) → Run K meaning v xs rs w → Start K meaning v → Tidy K w.a × Tidy K w.b
  tidy v xs rs w h s =
      tidy_alive (GivenUpBy xs rs) _ w
      (run_alive K meaning (GivenUpBy xs rs) (v ∷ []) v xs rs w h (λ s k e. e) (starts K meaning (GivenUpBy xs rs) v s))

-- What has become of each SA, once both ends are quiet.
use Rattle.std.proofs.Common.{◌≡◌, ℕ, Some, None, Option, arith}
use Rattle.protocol.specs.Model.{St, Sa, live, quiet, End, mirror, kept, lost}
use Rattle.protocol.specs.Invariant.{Half, Row, Faced, Child, Loses, LostTo, LostIf, StandIf, ChildAt, KeptAt, LostAt, CollidedAt, NotStanding}
use Rattle.protocol.specs.Law.{FateAt, Succession}
use Rattle.protocol.proofs.Kept.{run_keeps}

module _ (P Q : End) (p : P.link ≡ quiet) (q : Q.link ≡ quiet) (k : ℕ) (s : Sa) (m : Child P.book Q.book Q.link P.spi Q.spi k s) where
  stands :
      StandIf (P.given k) (Q.given s.peer) (P.book k) (Q.book s.peer)
      → Row Q s.peer
      → P.given k ≡ kept
      → Q.given s.peer ≡ kept
      → ((t : St) × (P.book k ≡ Some (live t s))) × ((t : St) × (Q.book s.peer ≡ Some (live t (mirror k s))))
  stands f r e g = grind arith

  peers_gone : NotStanding (Q.book s.peer) → Row Q s.peer → Q.book s.peer ≡ None
  peers_gone f r = grind arith

  own_gone : Q.book s.peer ≡ None → Row P k → Faced P Q k → P.book k ≡ None
  own_gone e r f = grind arith

  truly : (j : ℕ) → LostIf Q.first Q.born_here s (Q.given s.peer) → Q.given s.peer ≡ lost j → LostTo Q.first s (Q.born_here j)
  truly j f e = rw e at f

  met_one : (j : ℕ) (t : Sa) (c : Option Sa) → CollidedAt Q.first Q.book (Some s) c → c ≡ Some t → Loses Q.first s t → NotStanding (Q.book s.peer)
  met_one j t None f e l = absurd (grind arith)
  met_one j t (Some u) f e l = let g : u ≡ t = cc in f (rw g l)

module _ (P Q : End) (p : P.link ≡ quiet) (q : Q.link ≡ quiet) (h : Half P Q) (g : Half Q P) (k : ℕ) where
  fate :
      (c : Option Sa)
      → ChildAt P.book Q.book Q.link P.spi Q.spi k c
      → KeptAt P.given Q.given P.book Q.book k c
      → LostAt Q.first Q.born_here Q.given c
      → ((j : ℕ) → CollidedAt Q.first Q.book c (Q.born_here j))
      → FateAt P Q k c
  fate None m f l d = tt
  fate (Some s) m f l d =
      record {
        stands = stands P Q p q k s m f (g.rows s.peer);
        loser_gone =
            λ j t e w.
            let there = peers_gone P Q p q k s m (met_one P Q p q k s m j t (Q.born_here j) (d j) e w) (g.rows s.peer) in
            (own_gone P Q p q k s m there (h.rows k) (h.faced k), there);
        lost_truly = λ j e. truly P Q p q k s m j l e;
      }

pub succession : Succession
succession m n past s r p q k =
    let i = run_keeps r in (
      fate s.a s.b p q i.here i.there k (s.a.born_here k) (i.here.children k) (i.here.kept k) (i.here.lost k) (λ j. i.here.collided k j),
      fate s.b s.a q p i.there i.here k (s.b.born_here k) (i.there.children k) (i.there.kept k) (i.there.lost k) (λ j. i.there.collided k j),
    )

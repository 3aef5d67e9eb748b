-- An SA that was rekeyed is gone once both ends are quiet.
use Rattle.std.proofs.Common.{◌≡◌, ℕ, Some, None, Option, arith}
use Rattle.protocol.specs.Model.{Sa, quiet, End}
use Rattle.protocol.specs.Invariant.{Half, Row, Worn, Heir, HeirAt, WornOut, ParentLeft}
use Rattle.protocol.specs.Law.{GoneWith, RekeyedGone}
use Rattle.protocol.proofs.Common.{heir_then}
use Rattle.protocol.proofs.Kept.{run_keeps}

module _ (P Q : End) (p : P.link ≡ quiet) (q : Q.link ≡ quiet) where
  -- a row that is on its way out is out when both are quiet
  out : (k : ℕ) → Row P k → Worn P Q k → WornOut (P.book k) → P.book k ≡ None
  out k r w f = grind arith

  out' : (k o : ℕ) → Row Q k → Worn Q P k → ParentLeft Q.link o (Q.book k) → Q.book k ≡ None
  out' k o r w f = grind arith

  module _ (h : Half P Q) (g : Half Q P) where
    with_heir :
        (k : ℕ) (s : Sa)
        → Heir P.book Q.book P.link Q.link P.spi Q.spi k s
        → (P.book s.po ≡ None) × (Q.book s.pp ≡ None)
    with_heir k s r = (
      out s.po (h.rows s.po) (h.worn s.po) r.own_gone,
      out' s.pp s.peer (g.rows s.pp) (g.worn s.pp) r.peers_left,
    )

    gone : (k : ℕ) (c : Option Sa) → HeirAt P.book Q.book P.link Q.link P.spi Q.spi k c → GoneWith P.book Q.book c
    gone k None f = tt
    gone k (Some s) f = λ e. with_heir k s (heir_then _ _ _ _ _ _ k s s.heir e f)

pub rekeyed_gone : RekeyedGone
rekeyed_gone m n past s r p q k =
    let i = run_keeps r in (
      gone s.a s.b p q i.here i.there k (s.a.born_here k) (i.here.heirs k),
      gone s.b s.a q p i.there i.here k (s.b.born_here k) (i.there.heirs k),
    )

-- Two ends, each with a book of SAs and the state of its own outstanding request.
use Rattle.std.specs.Prelude.{◌≡◌, ℕ, suc, Bool, true, false, cond, not, List, Some, None, Option, ◌==◌, ◌≢◌}
use Rattle.nonce.specs.Order.{lowest_of, loser_by}
use Rattle.nonce.specs.declared.side.Side.TheVariants.{A, B}
use Rattle.nonce.specs.Sides.{is_side}

-- a nonce: its octets
abbrev pub Nonce : Type 0
Nonce = List ℕ

pub data St : Type 0 where
  fresh standing superseded closing : St

-- what an SA is, as the end that holds it under its own key sees it
pub record Sa : Type 0 where
  pub peer : ℕ
  pub mine : Bool
  pub heir : Bool
  pub po : ℕ
  pub pp : ℕ
  pub ni : Nonce
  pub nr : Nonce

-- what is known of an SA before the peer has answered: whether it has a parent, the parent's two keys, and the own nonce
pub record Seed : Type 0 where
  pub heir : Bool
  pub po : ℕ
  pub pp : ℕ
  pub ni : Nonce

pub data Cell : Type 0 where
  opening : Seed → Cell
  live : St → Sa → Cell

abbrev pub Book : Type 0
Book = ℕ → Option Cell

abbrev pub put : {X : Type 0} → (ℕ → Option X) → ℕ → Option X → ℕ → Option X
put b k c j = cond (j == k) c (b j)

-- a request makes each fresh row a standing one
abbrev pub calmed : Option Cell → Option Cell
calmed None = None
calmed (Some (opening d)) = Some (opening d)
calmed (Some (live fresh a)) = Some (live standing a)
calmed (Some (live standing a)) = Some (live standing a)
calmed (Some (live superseded a)) = Some (live superseded a)
calmed (Some (live closing a)) = Some (live closing a)

abbrev pub calm : Book → Book
calm b j = calmed (b j)

-- the peer's rekey of the same SA, where it was answered meanwhile: the key of the row made for it, and its nonces
pub data Coll : Type 0 where
  alone : Coll
  met : ℕ → Nonce → Nonce → Coll

pub data Ask : Type 0 where
  create : ℕ → Seed → Ask
  rekey : ℕ → Seed → Coll → Ask
  delete : ℕ → Ask
  check : Ask

pub data Reply : Type 0 where
  made : ℕ → Nonce → Reply
  no_such : Reply
  refused : Reply
  done : Reply

-- an end's own request: none, sent and not yet processed, or processed by the peer with its stored reply
pub data Link : Type 0 where
  quiet : Link
  sent : Ask → Link
  answered : Ask → Reply → Link

-- whether an end has given an SA up, by an own request to delete or rekey it, or as the loser against the SA of the row j
pub data Why : Type 0 where
  kept given_up : Why
  lost : ℕ → Why

pub record End : Type 0 where
  pub first : Bool
  pub book : Book
  pub spi : ℕ
  pub link : Link
  -- each SA that this end ever made for the peer, under its key: no code holds it
  pub born_here : ℕ → Option Sa
  -- what it has given up, by its own key: no code holds it
  pub given : ℕ → Why

-- the same SA in the other end's book, where the first end has it under k
abbrev pub mirror : ℕ → Sa → Sa
mirror k a = record { peer = k; mine = not a.mine; heir = a.heir; po = a.pp; pp = a.po; ni = a.ni; nr = a.nr }

-- the answerer's row for a request that opens o with the seed d, answered with the nonce n
abbrev pub born : ℕ → Seed → Nonce → Sa
born o d n = record { peer = o; mine = false; heir = d.heir; po = d.pp; pp = d.po; ni = d.ni; nr = n }

-- the asker's row for the seed d once the peer has answered with its key k and nonce n
abbrev pub grown : ℕ → Seed → Nonce → Sa
grown k d n = record { peer = k; mine = true; heir = d.heir; po = d.po; pp = d.pp; ni = d.ni; nr = n }

-- whether the new SA of this end loses, which is A if first: i and r are the nonces of its exchange, e and f those of the peer's
unfoldable pub lose : Bool → Nonce → Nonce → Nonce → Nonce → Bool
lose true i r e f = is_side (loser_by (lowest_of i r e f)) A
lose false i r e f = is_side (loser_by (lowest_of e f i r)) B

abbrev pub loses : Bool → Seed → Nonce → Coll → Bool
loses w d n alone = false
loses w d n (met j e f) = lose w d.ni n e f

-- the answerer of a rekey of q notes it in its own rekey of the same SA
abbrev pub noted_ask : ℕ → ℕ → Nonce → Nonce → Ask → Ask
noted_ask q j e f (create o d) = create o d
noted_ask q j e f (rekey o d c) = rekey o d (cond (d.po == q) (met j e f) c)
noted_ask q j e f (delete x) = delete x
noted_ask q j e f check = check

abbrev pub noted : ℕ → ℕ → Nonce → Nonce → Link → Link
noted q j e f quiet = quiet
noted q j e f (sent a) = sent (noted_ask q j e f a)
noted q j e f (answered a r) = answered (noted_ask q j e f a) r

abbrev pub with_link : End → Link → End
with_link P l = record { first = P.first; book = P.book; spi = P.spi; link = l; born_here = P.born_here; given = P.given }

abbrev pub with_book : End → Book → End
with_book P b = record { first = P.first; book = b; spi = P.spi; link = P.link; born_here = P.born_here; given = P.given }

abbrev pub with_both : End → Book → Link → End
with_both P b l = record { first = P.first; book = b; spi = P.spi; link = l; born_here = P.born_here; given = P.given }

-- with a new row under the next key
abbrev pub with_new : End → Book → Cell → Link → End
with_new P b c l = record { first = P.first; book = put b P.spi (Some c); spi = suc P.spi; link = l; born_here = P.born_here; given = P.given }

-- with a new row for a request of the peer
abbrev pub with_child : End → Book → Sa → Link → End
with_child P b a l =
    record {
      first = P.first;
      book = put b P.spi (Some (live fresh a));
      spi = suc P.spi;
      link = l;
      born_here = put P.born_here P.spi (Some a);
      given = P.given;
    }

abbrev pub mark : (ℕ → Why) → ℕ → Why → ℕ → Why
mark g k w j = cond (j == k) w (g j)

abbrev pub giving : End → ℕ → Why → End
giving P x w = record { first = P.first; book = P.book; spi = P.spi; link = P.link; born_here = P.born_here; given = mark P.given x w }

abbrev pub NoRowFor : ℕ → Option Cell → Type 0
NoRowFor p None = Unit {0}
NoRowFor p (Some (opening d)) = Unit {0}
NoRowFor p (Some (live s a)) = a.peer ≡ p → ⊥

abbrev pub plain : Nonce → Seed
plain n = record { heir = false; po = 0; pp = 0; ni = n }

-- an end asks
pub data Asks (P : End) : End → Type 0 where
  ask_check : P.link ≡ quiet → Asks P (with_link P (sent check))
  ask_create :
      (n : Nonce) → P.link ≡ quiet → Asks P (with_new P P.book (opening (plain n)) (sent (create P.spi (plain n))))
  ask_rekey :
      (x : ℕ) (a : Sa) (d : Seed)
      → P.link ≡ quiet
      → P.book x ≡ Some (live standing a)
      → d.heir ≡ true
      → d.po ≡ x
      → d.pp ≡ a.peer
      → Asks P (giving (with_new P P.book (opening d) (sent (rekey P.spi d alone))) x given_up)
  ask_delete :
      (x : ℕ) (a : Sa)
      → P.link ≡ quiet
      → P.book x ≡ Some (live standing a)
      → Asks P (giving (with_both P (put P.book x (Some (live closing a))) (sent (delete x))) x given_up)

-- Q, whose rows have been calmed, processes the request of P: what both are then
pub data Acts (P Q : End) : End → End → Type 0 where
  act_check : P.link ≡ sent check → Acts P Q (with_link P (answered check done)) Q
  refuse_create :
      (o : ℕ) (d : Seed) → P.link ≡ sent (create o d) → Acts P Q (with_link P (answered (create o d) refused)) Q
  act_create :
      (o : ℕ) (d : Seed) (n : Nonce)
      → P.link ≡ sent (create o d)
      → Acts P Q (with_link P (answered (create o d) (made Q.spi n)))
      (with_child Q Q.book (born o d n) Q.link)
  refuse_rekey :
      (o : ℕ) (d : Seed) (c : Coll)
      → P.link ≡ sent (rekey o d c)
      → Acts P Q (with_link P (answered (rekey o d c) refused)) Q
  rekey_none :
      (o : ℕ) (d : Seed) (c : Coll)
      → P.link ≡ sent (rekey o d c)
      → ((j : ℕ) → NoRowFor d.po (Q.book j))
      → Acts P Q (with_link P (answered (rekey o d c) no_such)) Q
  act_rekey :
      (o : ℕ) (d : Seed) (c : Coll) (q : ℕ) (b : Sa) (n : Nonce)
      → P.link ≡ sent (rekey o d c)
      → Q.book q ≡ Some (live standing b)
      → b.peer ≡ d.po
      → Acts P Q (with_link P (answered (rekey o d c) (made Q.spi n)))
      (with_child Q (put Q.book q (Some (live superseded b))) (born o d n) (noted q Q.spi d.ni n Q.link))
  delete_none :
      (x : ℕ)
      → P.link ≡ sent (delete x)
      → ((j : ℕ) → NoRowFor x (Q.book j))
      → Acts P Q (with_link P (answered (delete x) done)) Q
  delete_closing :
      (x q : ℕ) (b : Sa)
      → P.link ≡ sent (delete x)
      → Q.book q ≡ Some (live closing b)
      → b.peer ≡ x
      → Acts P Q (with_link P (answered (delete x) done)) Q
  delete_row :
      (x q : ℕ) (t : St) (b : Sa)
      → P.link ≡ sent (delete x)
      → Q.book q ≡ Some (live t b)
      → (t ≢ closing)
      → b.peer ≡ x
      → Acts P Q (with_link P (answered (delete x) done)) (with_book Q (put Q.book q None))

-- P processes the reply to its request
pub data Settles (P : End) : End → Type 0 where
  settle_check : (r : Reply) → P.link ≡ answered check r → Settles P (with_link P quiet)
  settle_delete :
      (x : ℕ) (r : Reply)
      → P.link ≡ answered (delete x) r
      → Settles P (with_both P (put P.book x None) quiet)
  settle_create :
      (o : ℕ) (d : Seed) (k : ℕ) (n : Nonce)
      → P.link ≡ answered (create o d) (made k n)
      → Settles P (with_both P (put P.book o (Some (live standing (grown k d n)))) quiet)
  create_refused :
      (o : ℕ) (d : Seed)
      → P.link ≡ answered (create o d) refused
      → Settles P (with_both P (put P.book o None) quiet)
  rekey_refused :
      (o : ℕ) (d : Seed) (c : Coll)
      → P.link ≡ answered (rekey o d c) refused
      → Settles P (with_both P (put P.book o None) quiet)
  rekey_no_such :
      (o : ℕ) (d : Seed) (c : Coll)
      → P.link ≡ answered (rekey o d c) no_such
      → Settles P (with_both P (put (put P.book o None) d.po None) quiet)
  rekey_lost :
      (o : ℕ) (d : Seed) (j : ℕ) (e f : Nonce) (k : ℕ) (n : Nonce)
      → P.link ≡ answered (rekey o d (met j e f)) (made k n)
      → lose P.first d.ni n e f ≡ true
      → Settles P (giving (with_both P (put P.book o (Some (live closing (grown k d n)))) (sent (delete o))) o (lost j))
  rekey_won :
      (o : ℕ) (d : Seed) (c : Coll) (k : ℕ) (n : Nonce) (s : St) (a : Sa)
      → P.link ≡ answered (rekey o d c) (made k n)
      → loses P.first d n c ≡ false
      → P.book d.po ≡ Some (live s a)
      → Settles P
      (with_both P (put (put P.book o (Some (live standing (grown k d n)))) d.po (Some (live closing a)))
      (sent (delete d.po)))
  rekey_won_gone :
      (o : ℕ) (d : Seed) (c : Coll) (k : ℕ) (n : Nonce)
      → P.link ≡ answered (rekey o d c) (made k n)
      → loses P.first d n c ≡ false
      → P.book d.po ≡ None
      → Settles P (with_both P (put P.book o (Some (live standing (grown k d n)))) quiet)

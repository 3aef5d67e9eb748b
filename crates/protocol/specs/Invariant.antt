-- What holds of two ends at every moment.
use Rattle.std.specs.Prelude.{◌≡◌, ℕ, ◌<◌, Bool, true, false, not, ◌⊎◌, Some, None, Option, ◌≢◌}
use Rattle.protocol.specs.Model.{Nonce, St, fresh, standing, superseded, closing, Sa, Seed, Cell, opening, live, Book, mirror, born, NoRowFor, loses, lose, Why, kept, given_up, lost, Coll, alone, met, Ask, create, rekey, delete, check, made, no_such, refused, done, Link, quiet, sent, answered, End}

-- the request opens the key k with the seed d
abbrev pub asks_open : Ask → ℕ → Seed → Type 0
asks_open (create o e) k d = (k ≡ o) × (d ≡ e)
asks_open (rekey o e c) k d = (k ≡ o) × (d ≡ e)
asks_open (delete x) k d = ⊥
asks_open check k d = ⊥

abbrev pub opens : Link → ℕ → Seed → Type 0
opens quiet k d = ⊥
opens (sent a) k d = asks_open a k d
opens (answered a r) k d = asks_open a k d

abbrev pub AsksClose : Ask → ℕ → Type 0
AsksClose (create o e) k = ⊥
AsksClose (rekey o e c) k = ⊥
AsksClose (delete x) k = k ≡ x
AsksClose check k = ⊥

abbrev pub Closes : Link → ℕ → Type 0
Closes quiet k = ⊥
Closes (sent a) k = AsksClose a k
Closes (answered a r) k = AsksClose a k

-- a row of an end, by its own request: opening and closing rows are those of the request
abbrev pub RowOwned : ℕ → Link → ℕ → Option Cell → Type 0
RowOwned spi l k None = Unit {0}
RowOwned spi l k (Some (opening d)) = (k < spi) × opens l k d
RowOwned spi l k (Some (live fresh a)) = k < spi
RowOwned spi l k (Some (live standing a)) = k < spi
RowOwned spi l k (Some (live superseded a)) = k < spi
RowOwned spi l k (Some (live closing a)) = (k < spi) × Closes l k

-- the old row of a rekey, while it stands, is the SA that the seed names
abbrev pub OldRow : Seed → Option Cell → Type 0
OldRow d None = Unit {0}
OldRow d (Some (opening e)) = ⊥
OldRow d (Some (live fresh a)) = ⊥
OldRow d (Some (live standing a)) = a.peer ≡ d.pp
OldRow d (Some (live superseded a)) = a.peer ≡ d.pp
OldRow d (Some (live closing a)) = ⊥

abbrev pub IsClosing : Option Cell → Type 0
IsClosing None = ⊥
IsClosing (Some (opening d)) = ⊥
IsClosing (Some (live fresh a)) = ⊥
IsClosing (Some (live standing a)) = ⊥
IsClosing (Some (live superseded a)) = ⊥
IsClosing (Some (live closing a)) = Unit {0}

abbrev pub IsSuperseded : Option Cell → Type 0
IsSuperseded None = ⊥
IsSuperseded (Some (opening d)) = ⊥
IsSuperseded (Some (live fresh a)) = ⊥
IsSuperseded (Some (live standing a)) = ⊥
IsSuperseded (Some (live superseded a)) = Unit {0}
IsSuperseded (Some (live closing a)) = ⊥

abbrev pub IsStanding : Option Cell → Type 0
IsStanding None = ⊥
IsStanding (Some (opening d)) = ⊥
IsStanding (Some (live fresh a)) = ⊥
IsStanding (Some (live standing a)) = Unit {0}
IsStanding (Some (live superseded a)) = ⊥
IsStanding (Some (live closing a)) = ⊥

-- the request's own rows are in the book
abbrev pub AskOwned : ℕ → Book → Ask → Type 0
AskOwned spi b (create o d) = (b o ≡ Some (opening d)) × (d.heir ≡ false)
AskOwned spi b (rekey o d c) = (b o ≡ Some (opening d)) × OldRow d (b d.po) × (d.po < spi) × (d.heir ≡ true)
AskOwned spi b (delete x) = IsClosing (b x)
AskOwned spi b check = Unit {0}

abbrev pub LinkOwned : ℕ → Book → Link → Type 0
LinkOwned spi b quiet = Unit {0}
LinkOwned spi b (sent a) = AskOwned spi b a
LinkOwned spi b (answered a r) = AskOwned spi b a

-- the reply to the request made the SA k with the nonce n
abbrev pub has_made : Link → ℕ → Nonce → Type 0
has_made quiet k n = ⊥
has_made (sent a) k n = ⊥
has_made (answered a (made j m)) k n = (k ≡ j) × (n ≡ m)
has_made (answered a no_such) k n = ⊥
has_made (answered a refused) k n = ⊥
has_made (answered a done) k n = ⊥

-- a live row k, and what the peer, whose request is m, has under its peer key
abbrev pub Facing : Link → ℕ → St → Sa → Option Cell → Type 0
Facing m k s a None = s ≡ closing
Facing m k s a (Some (opening d)) = (s ≡ fresh) × (a ≡ born a.peer d a.nr) × has_made m k a.nr
Facing m k s a (Some (live t b)) = (b ≡ mirror k a) × (s ≡ fresh → t ≢ fresh)

abbrev pub RowFaced : End → ℕ → Option Cell → Type 0
RowFaced Q k None = Unit {0}
RowFaced Q k (Some (opening d)) = Unit {0}
RowFaced Q k (Some (live s a)) = (a.peer < Q.spi) × Facing Q.link k s a (Q.book a.peer)

abbrev pub GoneOrClosing : Option Cell → Type 0
GoneOrClosing None = Unit {0}
GoneOrClosing (Some (opening d)) = ⊥
GoneOrClosing (Some (live fresh a)) = ⊥
GoneOrClosing (Some (live standing a)) = ⊥
GoneOrClosing (Some (live superseded a)) = ⊥
GoneOrClosing (Some (live closing a)) = Unit {0}

abbrev pub PeerGone : Book → Option Cell → Type 0
PeerGone q None = Unit {0}
PeerGone q (Some (opening d)) = Unit {0}
PeerGone q (Some (live s a)) = GoneOrClosing (q a.peer)

abbrev pub Unanswered : Book → ℕ → Type 0
Unanswered q o = (j : ℕ) → NoRowFor o (q j)

-- what the peer has under the old SA's key is the old SA
abbrev pub OldPeer : Seed → Option Cell → Type 0
OldPeer d None = Unit {0}
OldPeer d (Some (opening e)) = ⊥
OldPeer d (Some (live t b)) = b.peer ≡ d.po

-- what the state of P's request says of Q's book
abbrev pub LinkFaced : ℕ → Book → Book → Link → Type 0
LinkFaced spi p q quiet = Unit {0}
LinkFaced spi p q (sent (create o d)) = Unanswered q o
LinkFaced spi p q (sent (rekey o d c)) = Unanswered q o × (d.pp < spi) × OldPeer d (q d.pp)
LinkFaced spi p q (sent (delete x)) = Unit {0}
LinkFaced spi p q (sent check) = Unit {0}
LinkFaced spi p q (answered (create o d) (made k n)) = q k ≡ Some (live fresh (born o d n))
LinkFaced spi p q (answered (create o d) no_such) = Unanswered q o
LinkFaced spi p q (answered (create o d) refused) = Unanswered q o
LinkFaced spi p q (answered (create o d) done) = Unanswered q o
LinkFaced spi p q (answered (rekey o d c) (made k n)) =
    (q k ≡ Some (live fresh (born o d n))) × (d.pp < spi) × OldPeer d (q d.pp)
LinkFaced spi p q (answered (rekey o d c) no_such) = Unanswered q o × (d.pp < spi) × (q d.pp ≡ None)
LinkFaced spi p q (answered (rekey o d c) refused) = Unanswered q o × (d.pp < spi) × OldPeer d (q d.pp)
LinkFaced spi p q (answered (rekey o d c) done) = Unanswered q o × (d.pp < spi) × OldPeer d (q d.pp)
LinkFaced spi p q (answered (delete x) r) = PeerGone q (p x)
LinkFaced spi p q (answered check r) = Unit {0}

-- the request m is a rekey of x that the peer has answered with a new SA
abbrev pub rekeyed : Link → ℕ → Type 0
rekeyed quiet x = ⊥
rekeyed (sent a) x = ⊥
rekeyed (answered (create o d) r) x = ⊥
rekeyed (answered (rekey o d c) (made k n)) x = d.po ≡ x
rekeyed (answered (rekey o d c) no_such) x = ⊥
rekeyed (answered (rekey o d c) refused) x = ⊥
rekeyed (answered (rekey o d c) done) x = ⊥
rekeyed (answered (delete y) r) x = ⊥
rekeyed (answered check r) x = ⊥

-- the peer's delete of x has not come yet
abbrev pub deleting : Link → ℕ → Type 0
deleting quiet x = ⊥
deleting (sent (create o d)) x = ⊥
deleting (sent (rekey o d c)) x = ⊥
deleting (sent (delete y)) x = y ≡ x
deleting (sent check) x = ⊥
deleting (answered a r) x = ⊥

-- the own rekey of x met the peer's, and wins
abbrev pub Winning : Bool → Link → ℕ → Type 0
Winning w quiet x = ⊥
Winning w (sent a) x = ⊥
Winning w (answered (create o d) r) x = ⊥
Winning w (answered (rekey o d alone) r) x = ⊥
Winning w (answered (rekey o d (met j e f)) (made k n)) x = (d.po ≡ x) × (loses w d n (met j e f) ≡ false)
Winning w (answered (rekey o d (met j e f)) no_such) x = ⊥
Winning w (answered (rekey o d (met j e f)) refused) x = ⊥
Winning w (answered (rekey o d (met j e f)) done) x = ⊥
Winning w (answered (delete y) r) x = ⊥
Winning w (answered check r) x = ⊥

-- a superseded row is on its way out: by the peer's request, or by the own one
abbrev pub RowWorn : Bool → Link → Link → ℕ → Option Cell → Type 0
RowWorn w l m k None = Unit {0}
RowWorn w l m k (Some (opening d)) = Unit {0}
RowWorn w l m k (Some (live fresh a)) = Unit {0}
RowWorn w l m k (Some (live standing a)) = Unit {0}
RowWorn w l m k (Some (live superseded a)) = rekeyed m a.peer ⊎ (deleting m a.peer ⊎ Winning w l k)
RowWorn w l m k (Some (live closing a)) = Unit {0}

abbrev pub NotSuperseded : Option Cell → Type 0
NotSuperseded None = Unit {0}
NotSuperseded (Some (opening d)) = Unit {0}
NotSuperseded (Some (live fresh a)) = Unit {0}
NotSuperseded (Some (live standing a)) = Unit {0}
NotSuperseded (Some (live superseded a)) = ⊥
NotSuperseded (Some (live closing a)) = Unit {0}

-- the peer's request, if it is a rekey of x, was answered with the nonces e and f
abbrev pub Rival : Link → ℕ → ℕ → Nonce → Nonce → Type 0
Rival quiet x j e f = Unit {0}
Rival (sent (create o d)) x j e f = Unit {0}
Rival (sent (rekey o d c)) x j e f = d.po ≡ x → ⊥
Rival (sent (delete y)) x j e f = Unit {0}
Rival (sent check) x j e f = Unit {0}
Rival (answered (create o d) r) x j e f = Unit {0}
Rival (answered (rekey o d c) (made k n)) x j e f = d.po ≡ x → (j ≡ k) × (e ≡ d.ni) × (f ≡ n)
Rival (answered (rekey o d c) no_such) x j e f = d.po ≡ x → ⊥
Rival (answered (rekey o d c) refused) x j e f = d.po ≡ x → ⊥
Rival (answered (rekey o d c) done) x j e f = d.po ≡ x → ⊥
Rival (answered (delete y) r) x j e f = Unit {0}
Rival (answered check r) x j e f = Unit {0}

-- the peer's request, if it is a rekey of x, has noted the nonces i and n
abbrev pub Noticed : Link → ℕ → ℕ → Nonce → Nonce → Type 0
Noticed quiet x j i n = Unit {0}
Noticed (sent a) x j i n = Unit {0}
Noticed (answered (create o d) r) x j i n = Unit {0}
Noticed (answered (rekey o d c) r) x j i n = d.po ≡ x → c ≡ met j i n
Noticed (answered (delete y) r) x j i n = Unit {0}
Noticed (answered check r) x j i n = Unit {0}

-- the peer's row x of an SA that both rekeyed stands only while the peer's rekey of it is outstanding
abbrev pub Outlived : Link → ℕ → Option Cell → Type 0
Outlived m x None = Unit {0}
Outlived m x (Some (opening d)) = ⊥
Outlived m x (Some (live fresh a)) = rekeyed m x
Outlived m x (Some (live standing a)) = rekeyed m x
Outlived m x (Some (live superseded a)) = Unit {0}
Outlived m x (Some (live closing a)) = Unit {0}

-- the loser's peer has superseded the old row only while its own rekey is outstanding; the winner's old rows are both superseded
abbrev pub verdict : Bool → Link → ℕ → Option Cell → Option Cell → Type 0
verdict true m x p q = IsSuperseded q → rekeyed m x
verdict false m x p q = IsSuperseded p × IsSuperseded q

-- a row of which no request can start any more
abbrev pub WornOut : Option Cell → Type 0
WornOut None = Unit {0}
WornOut (Some (opening d)) = ⊥
WornOut (Some (live fresh a)) = ⊥
WornOut (Some (live standing a)) = ⊥
WornOut (Some (live superseded a)) = Unit {0}
WornOut (Some (live closing a)) = Unit {0}

abbrev pub AskClash : Link → Option Cell → Option Cell → Seed → Coll → Type 0
AskClash m p q d alone = NotSuperseded p
AskClash m p q d (met j e f) = Rival m d.pp j e f × Outlived m d.pp q × WornOut p

abbrev pub MadeClash : Bool → Link → Option Cell → Option Cell → Seed → Coll → ℕ → Nonce → Type 0
MadeClash w m p q d alone k n = IsStanding p × IsSuperseded q
MadeClash w m p q d (met j e f) k n = Noticed m d.pp k d.ni n × verdict (loses w d n (met j e f)) m d.pp p q

-- P's rekey and Q's of the same SA
abbrev pub LinkClash : Bool → Link → Book → Book → Link → Type 0
LinkClash w m p q quiet = Unit {0}
LinkClash w m p q (sent (create o d)) = Unit {0}
LinkClash w m p q (sent (rekey o d c)) = AskClash m (p d.po) (q d.pp) d c
LinkClash w m p q (sent (delete x)) = Unit {0}
LinkClash w m p q (sent check) = Unit {0}
LinkClash w m p q (answered (create o d) r) = Unit {0}
LinkClash w m p q (answered (rekey o d c) (made k n)) =
    AskClash m (p d.po) (q d.pp) d c × MadeClash w m (p d.po) (q d.pp) d c k n
LinkClash w m p q (answered (rekey o d c) no_such) = AskClash m (p d.po) (q d.pp) d c
LinkClash w m p q (answered (rekey o d c) refused) = AskClash m (p d.po) (q d.pp) d c
LinkClash w m p q (answered (rekey o d c) done) = AskClash m (p d.po) (q d.pp) d c
LinkClash w m p q (answered (delete x) r) = Unit {0}
LinkClash w m p q (answered check r) = Unit {0}

-- the request m is a rekey that opens the key o
abbrev pub rekeying : Link → ℕ → Type 0
rekeying quiet o = ⊥
rekeying (sent (create y d)) o = ⊥
rekeying (sent (rekey y d c)) o = y ≡ o
rekeying (sent (delete x)) o = ⊥
rekeying (sent check) o = ⊥
rekeying (answered (create y d) r) o = ⊥
rekeying (answered (rekey y d c) r) o = y ≡ o
rekeying (answered (delete x) r) o = ⊥
rekeying (answered check r) o = ⊥

-- what is left of the SA x under its key: nothing, or the same SA
abbrev pub LeftOf : Sa → Option Cell → Type 0
LeftOf x None = Unit {0}
LeftOf x (Some (opening d)) = ⊥
LeftOf x (Some (live s a)) = a ≡ x

-- what the asker, whose request is m, has of the SA s that was made for it under k
abbrev pub AskerRow : Link → ℕ → Sa → Option Cell → Type 0
AskerRow m k s None = Unit {0}
AskerRow m k s (Some (opening d)) = (s ≡ born s.peer d s.nr) × has_made m k s.nr
AskerRow m k s (Some (live t b)) = b ≡ mirror k s

-- the asker's row of the parent stands only while the request that made the heir o is outstanding
abbrev pub ParentLeft : Link → ℕ → Option Cell → Type 0
ParentLeft m o None = Unit {0}
ParentLeft m o (Some (opening d)) = ⊥
ParentLeft m o (Some (live fresh a)) = ⊥
ParentLeft m o (Some (live standing a)) = rekeying m o
ParentLeft m o (Some (live superseded a)) = Unit {0}
ParentLeft m o (Some (live closing a)) = Unit {0}

-- the answerer's own rekey of the same parent has noted it
abbrev pub AskSeen : ℕ → Ask → Sa → Type 0
AskSeen k (create o d) s = Unit {0}
AskSeen k (rekey o d c) s = d.po ≡ s.po → c ≡ met k s.ni s.nr
AskSeen k (delete x) s = Unit {0}
AskSeen k check s = Unit {0}

abbrev pub Seen : ℕ → Link → Sa → Type 0
Seen k quiet s = Unit {0}
Seen k (sent a) s = AskSeen k a s
Seen k (answered a r) s = AskSeen k a s

-- an SA s with a parent, which the end with the book p made for the one with the book q
pub record Heir (p q : Book) (l m : Link) (i j k : ℕ) (s : Sa) : Type 0 where
  pub old_own : s.po < i
  pub old_peers : s.pp < j
  pub own_gone : WornOut (p s.po)
  pub peers_left : ParentLeft m s.peer (q s.pp)
  pub noted : Seen k l s

abbrev pub HeirIf : Bool → Book → Book → Link → Link → ℕ → ℕ → ℕ → Sa → Type 0
HeirIf false p q l m i j k s = Unit {0}
HeirIf true p q l m i j k s = Heir p q l m i j k s

abbrev pub HeirAt : Book → Book → Link → Link → ℕ → ℕ → ℕ → Option Sa → Type 0
HeirAt p q l m i j k None = Unit {0}
HeirAt p q l m i j k (Some s) = HeirIf s.heir p q l m i j k s

pub record Child (p q : Book) (m : Link) (i j k : ℕ) (s : Sa) : Type 0 where
  pub own_key : k < i
  pub peers_key : s.peer < j
  pub not_mine : s.mine ≡ false
  pub own_row : LeftOf s (p k)
  pub peers_row : AskerRow m k s (q s.peer)

abbrev pub ChildAt : Book → Book → Link → ℕ → ℕ → ℕ → Option Sa → Type 0
ChildAt p q m i j k None = Unit {0}
ChildAt p q m i j k (Some s) = Child p q m i j k s

-- each live row is of an SA that was made
abbrev pub SaKnown : Bool → (ℕ → Option Sa) → (ℕ → Option Sa) → ℕ → Sa → Type 0
SaKnown false g f k a = g k ≡ Some a
SaKnown true g f k a = f a.peer ≡ Some (mirror k a)

abbrev pub RowKnown : (ℕ → Option Sa) → (ℕ → Option Sa) → ℕ → Option Cell → Type 0
RowKnown g f k None = Unit {0}
RowKnown g f k (Some (opening d)) = Unit {0}
RowKnown g f k (Some (live s a)) = SaKnown a.mine g f k a

abbrev pub IsGiven : Why → Type 0
IsGiven kept = ⊥
IsGiven given_up = Unit {0}
IsGiven (lost j) = Unit {0}

-- what an end's request closes it has given up, and what it opens it has not
abbrev pub AskGiven : (ℕ → Why) → Ask → Type 0
AskGiven g (create o d) = g o ≡ kept
AskGiven g (rekey o d c) = (g o ≡ kept) × IsGiven (g d.po)
AskGiven g (delete x) = IsGiven (g x)
AskGiven g check = Unit {0}

abbrev pub LinkGiven : (ℕ → Why) → Link → Type 0
LinkGiven g quiet = Unit {0}
LinkGiven g (sent a) = AskGiven g a
LinkGiven g (answered a r) = AskGiven g a

abbrev pub GivenBelow : ℕ → ℕ → Why → Type 0
GivenBelow i k kept = Unit {0}
GivenBelow i k given_up = k < i
GivenBelow i k (lost j) = k < i

-- the row that an end made, and the one that it was made for, while neither end has given it up
abbrev pub OwnStands : Option Cell → Type 0
OwnStands None = ⊥
OwnStands (Some (opening d)) = ⊥
OwnStands (Some (live fresh a)) = Unit {0}
OwnStands (Some (live standing a)) = Unit {0}
OwnStands (Some (live superseded a)) = ⊥
OwnStands (Some (live closing a)) = ⊥

abbrev pub PeersStands : Option Cell → Type 0
PeersStands None = ⊥
PeersStands (Some (opening d)) = Unit {0}
PeersStands (Some (live fresh a)) = ⊥
PeersStands (Some (live standing a)) = Unit {0}
PeersStands (Some (live superseded a)) = ⊥
PeersStands (Some (live closing a)) = ⊥

abbrev pub StandIf : Why → Why → Option Cell → Option Cell → Type 0
StandIf kept kept p q = OwnStands p × PeersStands q
StandIf kept given_up p q = Unit {0}
StandIf kept (lost j) p q = Unit {0}
StandIf given_up v p q = Unit {0}
StandIf (lost j) v p q = Unit {0}

abbrev pub KeptAt : (ℕ → Why) → (ℕ → Why) → Book → Book → ℕ → Option Sa → Type 0
KeptAt g f p q k None = Unit {0}
KeptAt g f p q k (Some s) = StandIf (g k) (f s.peer) (p k) (q s.peer)

-- s and t are heirs of one SA, s made for the end w, and s loses against t
pub record Loses (w : Bool) (s t : Sa) : Type 0 where
  pub s_heir : s.heir ≡ true
  pub t_heir : t.heir ≡ true
  pub one : t.pp ≡ s.po
  pub other : t.po ≡ s.pp
  pub less : lose w s.ni s.nr t.ni t.nr ≡ true

abbrev pub LostTo : Bool → Sa → Option Sa → Type 0
LostTo w s None = ⊥
LostTo w s (Some t) = Loses w s t

abbrev pub LostIf : Bool → (ℕ → Option Sa) → Sa → Why → Type 0
LostIf w f s kept = Unit {0}
LostIf w f s given_up = Unit {0}
LostIf w f s (lost j) = LostTo w s (f j)

abbrev pub LostAt : Bool → (ℕ → Option Sa) → (ℕ → Why) → Option Sa → Type 0
LostAt w f v None = Unit {0}
LostAt w f v (Some s) = LostIf w f s (v s.peer)

abbrev pub NotStanding : Option Cell → Type 0
NotStanding None = Unit {0}
NotStanding (Some (opening d)) = Unit {0}
NotStanding (Some (live fresh a)) = ⊥
NotStanding (Some (live standing a)) = ⊥
NotStanding (Some (live superseded a)) = ⊥
NotStanding (Some (live closing a)) = Unit {0}

abbrev pub CollidedAt : Bool → Book → Option Sa → Option Sa → Type 0
CollidedAt w q None t = Unit {0}
CollidedAt w q (Some s) None = Unit {0}
CollidedAt w q (Some s) (Some t) = Loses w s t → NotStanding (q s.peer)

-- the collision that an end's rekey has noted is with an SA that it made
abbrev pub MetBy : Seed → Nonce → Nonce → Option Sa → Type 0
MetBy d e f None = ⊥
MetBy d e f (Some t) = (t.heir ≡ true) × (t.po ≡ d.po) × (t.pp ≡ d.pp) × (t.ni ≡ e) × (t.nr ≡ f)

abbrev pub AskMet : (ℕ → Option Sa) → Ask → Type 0
AskMet g (create o d) = Unit {0}
AskMet g (rekey o d alone) = Unit {0}
AskMet g (rekey o d (met j e f)) = MetBy d e f (g j)
AskMet g (delete x) = Unit {0}
AskMet g check = Unit {0}

abbrev pub LinkMet : (ℕ → Option Sa) → Link → Type 0
LinkMet g quiet = Unit {0}
LinkMet g (sent a) = AskMet g a
LinkMet g (answered a r) = AskMet g a

-- the clauses, each of an end P and what it says of its peer Q
abbrev pub Row : End → ℕ → Type 0
Row P k = RowOwned P.spi P.link k (P.book k)

abbrev pub Own : End → Type 0
Own P = LinkOwned P.spi P.book P.link

abbrev pub Faced : End → End → ℕ → Type 0
Faced P Q k = RowFaced Q k (P.book k)

abbrev pub Request : End → End → Type 0
Request P Q = LinkFaced Q.spi P.book Q.book P.link

abbrev pub Worn : End → End → ℕ → Type 0
Worn P Q k = RowWorn P.first P.link Q.link k (P.book k)

abbrev pub Clash : End → End → Type 0
Clash P Q = LinkClash P.first Q.link P.book Q.book P.link

abbrev pub Made : End → End → ℕ → Type 0
Made P Q k = ChildAt P.book Q.book Q.link P.spi Q.spi k (P.born_here k)

abbrev pub Rekeyed : End → End → ℕ → Type 0
Rekeyed P Q k = HeirAt P.book Q.book P.link Q.link P.spi Q.spi k (P.born_here k)

abbrev pub Known : End → End → ℕ → Type 0
Known P Q k = RowKnown P.born_here Q.born_here k (P.book k)

abbrev pub Given : End → Type 0
Given P = LinkGiven P.given P.link

abbrev pub Used : End → ℕ → Type 0
Used P k = GivenBelow P.spi k (P.given k)

abbrev pub Kept : End → End → ℕ → Type 0
Kept P Q k = KeptAt P.given Q.given P.book Q.book k (P.born_here k)

abbrev pub Lost : End → End → ℕ → Type 0
Lost P Q k = LostAt Q.first Q.born_here Q.given (P.born_here k)

abbrev pub Collided : End → End → ℕ → ℕ → Type 0
Collided P Q k j = CollidedAt Q.first Q.book (P.born_here k) (Q.born_here j)

abbrev pub Met : End → Type 0
Met P = LinkMet P.born_here P.link

pub record Half (P Q : End) : Type 0 where
  pub sides : Q.first ≡ not P.first
  pub rows : (k : ℕ) → Row P k
  pub own : Own P
  pub faced : (k : ℕ) → Faced P Q k
  pub request : Request P Q
  pub worn : (k : ℕ) → Worn P Q k
  pub clash : Clash P Q
  pub known : (k : ℕ) → Known P Q k
  pub children : (k : ℕ) → Made P Q k
  pub heirs : (k : ℕ) → Rekeyed P Q k
  pub given : Given P
  pub used : (k : ℕ) → Used P k
  pub kept : (k : ℕ) → Kept P Q k
  pub lost : (k : ℕ) → Lost P Q k
  pub collided : (k j : ℕ) → Collided P Q k j
  pub met : Met P

pub record Inv (A B : End) : Type 0 where
  pub here : Half A B
  pub there : Half B A

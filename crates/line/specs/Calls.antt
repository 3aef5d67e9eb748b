-- What an end does at each ask and at each response; messages.
use Rattle.std.specs.Prelude.{◌≡◌, ℕ, suc, ◌<◌, Bool, true, false, cond, List, Some, None, Option}
use Rattle.wire.specs.declared.message.Failure.TheVariants.{NoProposalChosen, NoAdditionalSas, TemporaryFailure, ChildSaNotFound}
use Rattle.wire.specs.declared.message.Request.{Request}
use Rattle.wire.specs.declared.message.Request.TheVariants as requests
use Rattle.wire.specs.declared.message.Response.{Response}
use Rattle.wire.specs.declared.message.Response.TheVariants as responses
use Rattle.protocol.specs.Model.{Nonce, fresh, standing, superseded, closing, Sa, Seed, Cell, opening, live, Coll, alone, Ask, create, rekey, delete, check, Reply, made, no_such, refused, done, loses, grown, plain}
use Rattle.protocol.specs.Rows.{Line, lookup, insert, remove, calm_lines, Found, nowhere, at, find}
use Rattle.protocol.specs.Node.{Bar, Out, idle, asked, Node, sending, answer}
use Rattle.nonce.specs.declared.side.Side.{Side}
use Rattle.nonce.specs.Spis.{is_reserved}

-- what a user may ask for
pub data Want : Type 0 where
  to_create : Nonce → Want
  to_rekey : ℕ → Nonce → Want
  to_delete : ℕ → Want
  to_check : Want

-- the SA of an own SPI that the user asks to rekey or to delete
abbrev pub names : Want → ℕ → Type 0
names (to_create n) k = ⊥
names (to_rekey x n) k = x ≡ k
names (to_delete x) k = x ≡ k
names to_check k = ⊥

abbrev pub quieted : Node → List Line → Node
quieted P rs =
    record {
      first = P.first;
      rows = rs;
      spi = P.spi;
      next = P.next;
      exp = P.exp;
      reply = P.reply;
      out = idle;
    }

abbrev pub seed_of : ℕ → ℕ → Nonce → Seed
seed_of x p n = record { heir = true; po = x; pp = p; ni = n }

abbrev pub rekeying : Node → ℕ → Nonce → Sa → Node
rekeying P x n a =
    sending P (rekey P.spi (seed_of x a.peer n) alone) (insert P.spi (opening (seed_of x a.peer n)) P.rows) (suc P.spi)

abbrev pub deleting : Node → ℕ → Sa → Node
deleting P x a = sending P (delete x) (insert x (live closing a) P.rows) P.spi

-- only of a standing row
abbrev pub if_standing : (Sa → Node) → Option Cell → Option Node
if_standing f None = None
if_standing f (Some (opening d)) = None
if_standing f (Some (live fresh a)) = None
if_standing f (Some (live standing a)) = Some (f a)
if_standing f (Some (live superseded a)) = None
if_standing f (Some (live closing a)) = None

abbrev pub ask_quiet : Node → Want → Option Node
ask_quiet P (to_create n) = Some (sending P (create P.spi (plain n)) (insert P.spi (opening (plain n)) P.rows) (suc P.spi))
ask_quiet P (to_rekey x n) = if_standing (rekeying P x n) (lookup P.rows x)
ask_quiet P (to_delete x) = if_standing (deleting P x) (lookup P.rows x)
ask_quiet P to_check = Some (sending P check P.rows P.spi)

abbrev pub if_idle : Out → Option Node → Option Node
if_idle idle r = r
if_idle (asked i a) r = None

-- what P is once its user has asked for w, or none where that is refused
abbrev pub ask : Node → Want → Option Node
ask P w = if_idle P.out (ask_quiet P w)

abbrev pub settle_won : Node → ℕ → Seed → ℕ → Nonce → Option Cell → Node
settle_won P o d k n None = quieted P (insert o (live standing (grown k d n)) P.rows)
settle_won P o d k n (Some (opening e)) = quieted P (insert o (live standing (grown k d n)) P.rows)
settle_won P o d k n (Some (live s a)) =
    sending P (delete d.po) (insert d.po (live closing a) (insert o (live standing (grown k d n)) P.rows)) P.spi

abbrev pub settle_made : Node → ℕ → Seed → Coll → ℕ → Nonce → Bool → Node
settle_made P o d c k n true =
    sending P (delete o) (insert o (live closing (grown k d n)) P.rows) P.spi
settle_made P o d c k n false = settle_won P o d k n (lookup P.rows d.po)

-- what P, whose request a is outstanding, is once it has processed the reply
abbrev pub settle : Node → Ask → Reply → Node
settle P (create o d) (made k n) = quieted P (insert o (live standing (grown k d n)) P.rows)
settle P (create o d) no_such = quieted P (remove o P.rows)
settle P (create o d) refused = quieted P (remove o P.rows)
settle P (create o d) done = quieted P (remove o P.rows)
settle P (rekey o d c) (made k n) = settle_made P o d c k n (loses P.first d n c)
settle P (rekey o d c) no_such = quieted P (remove d.po (remove o P.rows))
settle P (rekey o d c) refused = quieted P (remove o P.rows)
settle P (rekey o d c) done = quieted P (remove o P.rows)
settle P (delete x) r = quieted P (remove x P.rows)
settle P check r = quieted P P.rows

-- a new SA whose SPI is reserved, or already a peer SPI, counts as a refusal
abbrev pub unless_found : ℕ → Nonce → Found → Reply
unless_found k n nowhere = made k n
unless_found k n (at j s a) = refused

abbrev pub taken_as : List Line → Reply → Reply
taken_as rs (made k n) = cond (is_reserved k) refused (unless_found k n (find k rs))
taken_as rs no_such = no_such
taken_as rs refused = refused
taken_as rs done = done

-- what a request says on the wire: no collision, and of the old SA only the sender's key
abbrev pub wire : Ask → Request Nonce
wire (create o d) = requests.Create o d.ni
wire (rekey o d c) = requests.Rekey d.po o d.ni
wire (delete x) = requests.Delete x
wire check = requests.Empty

abbrev pub key_of : Found → ℕ
key_of nowhere = 0
key_of (at k s a) = k

-- the request as the answerer, whose rows are rs, takes it
abbrev pub heard : List Line → Request Nonce → Ask
heard rs (requests.Create o n) = create o (plain n)
heard rs (requests.Rekey x o n) = rekey o (seed_of x (key_of (find x rs)) n) alone
heard rs (requests.Delete x) = delete x
heard rs requests.Empty = check

-- what Q is once it has processed the request q, with the nonce n at hand, and with what keeps it from a new SA
abbrev pub answer_wire : Node → Nonce → Option Bar → Request Nonce → Node
answer_wire Q n bar q = answer Q n bar (heard (calm_lines Q.rows) q)

pub data Msg : Type 0 where
  request : ℕ → Request Nonce → Msg
  response : ℕ → Response Nonce → Msg

-- what can be encoded: numbers below top, nonces that are fine
abbrev pub GoodWire : ℕ → (Nonce → Bool) → Request Nonce → Type 0
GoodWire top fine (requests.Create o n) = (o < top) × (fine n ≡ true)
GoodWire top fine (requests.Rekey x o n) = (o < top) × (x < top) × (fine n ≡ true)
GoodWire top fine (requests.Delete x) = x < top
GoodWire top fine requests.Empty = Unit {0}

abbrev pub GoodReply : ℕ → (Nonce → Bool) → Response Nonce → Type 0
GoodReply top fine (responses.NewSa k n) = (k < top) × (fine n ≡ true)
GoodReply top fine (responses.Failed NoProposalChosen) = Unit {0}
GoodReply top fine (responses.Failed NoAdditionalSas) = Unit {0}
GoodReply top fine (responses.Failed TemporaryFailure) = Unit {0}
GoodReply top fine (responses.Failed (ChildSaNotFound x)) = x < top
GoodReply top fine (responses.Delete k) = k < top
GoodReply top fine responses.Empty = Unit {0}

abbrev pub good : ℕ → (Nonce → Bool) → Msg → Type 0
good top fine (request i q) = (i < top) × GoodWire top fine q
good top fine (response i r) = (i < top) × GoodReply top fine r

-- octets of a message from a side, and back
pub record Coding : Type 0 where
  pub top : ℕ
  pub fine : Nonce → Bool
  pub enc : Side → Msg → List ℕ
  pub dec : Side → List ℕ → Option Msg
  pub back : (s : Side) (m : Msg) → good top fine m → dec s (enc s m) ≡ Some m

abbrev pub Good : Coding → Msg → Type 0
Good K m = good K.top K.fine m

-- IDs and SPIs are left, and the nonce is fine
abbrev pub Allowed : Coding → Node → Want → Type 0
Allowed K P (to_create n) = (K.fine n ≡ true) × (P.next < K.top) × (P.spi < K.top)
Allowed K P (to_rekey x n) = (K.fine n ≡ true) × (suc P.next < K.top) × (P.spi < K.top)
Allowed K P (to_delete x) = P.next < K.top
Allowed K P to_check = P.next < K.top

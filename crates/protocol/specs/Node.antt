-- An end with its rows in a list, message IDs, the outstanding request and the stored reply.
use Rattle.std.specs.Prelude.{◌≡◌, ℕ, suc, Bool, cond, ◌⊎◌, List, Some, None, Option, ◌==◌}
use Rattle.wire.specs.declared.message.Failure.{Failure}
use Rattle.wire.specs.declared.message.Failure.TheVariants.{NoProposalChosen, NoAdditionalSas, TemporaryFailure, ChildSaNotFound}
use Rattle.wire.specs.declared.message.Response.{Response}
use Rattle.wire.specs.declared.message.Response.TheVariants as responses
use Rattle.protocol.specs.Model.{Nonce, fresh, standing, superseded, closing, Sa, Seed, live, born, noted_ask, Ask, create, rekey, delete, check, Reply, made, no_such, refused, done, Link, quiet, sent, answered, End, Why}
use Rattle.protocol.specs.Rows.{Line, lookup, insert, remove, calm_lines, Found, nowhere, at, find}

pub data Out : Type 0 where
  idle : Out
  asked : ℕ → Ask → Out

-- what a response tells the asker
abbrev pub sense : Response Nonce → Reply
sense (responses.NewSa k n) = made k n
sense (responses.Failed NoProposalChosen) = refused
sense (responses.Failed NoAdditionalSas) = refused
sense (responses.Failed TemporaryFailure) = refused
sense (responses.Failed (ChildSaNotFound x)) = no_such
sense (responses.Delete k) = done
sense responses.Empty = done

abbrev pub stored : Option (Response Nonce) → Reply
stored None = done
stored (Some r) = sense r

pub record Node : Type 0 where
  pub first : Bool
  pub rows : List Line
  pub spi : ℕ
  pub next : ℕ
  pub exp : ℕ
  pub reply : Option (Response Nonce)
  pub out : Out

-- what no code holds: the SAs that an end ever made for its peer, and what it has given up
pub record Ghost : Type 0 where
  pub born_here : ℕ → Option Sa
  pub given : ℕ → Why

-- the state of P's request, by what Q expects
abbrev pub link_by : Out → ℕ → Option (Response Nonce) → Link
link_by idle e r = quiet
link_by (asked i a) e r = cond (e == suc i) (answered a (stored r)) (sent a)

abbrev pub link_of : Node → Node → Link
link_of P Q = link_by P.out Q.exp Q.reply

abbrev pub end_of : Ghost → Node → Node → End
end_of g P Q = record { first = P.first; book = lookup P.rows; spi = P.spi; link = link_of P Q; born_here = g.born_here; given = g.given }

-- the IDs are in step
abbrev pub has : Option (Response Nonce) → Type 0
has None = ⊥
has (Some r) = Unit {0}

abbrev pub OutInStep : Out → ℕ → ℕ → Option (Response Nonce) → Type 0
OutInStep idle n e r = e ≡ n
OutInStep (asked i a) n e r = (n ≡ suc i) × ((e ≡ i) ⊎ ((e ≡ suc i) × has r))

abbrev pub InStep : Node → Node → Type 0
InStep P Q = OutInStep P.out P.next Q.exp Q.reply

abbrev pub sending : Node → Ask → List Line → ℕ → Node
sending P a rs s =
    record {
      first = P.first;
      rows = rs;
      spi = s;
      next = suc P.next;
      exp = P.exp;
      reply = P.reply;
      out = asked P.next a;
    }

abbrev pub replying : Node → Response Nonce → List Line → ℕ → Node
replying Q r rs s =
    record {
      first = Q.first;
      rows = rs;
      spi = s;
      next = Q.next;
      exp = suc Q.exp;
      reply = Some r;
      out = Q.out;
    }

-- the end's own rekey of q, if it has one outstanding, notes the peer's
abbrev pub noted_out : ℕ → ℕ → Nonce → Nonce → Out → Out
noted_out q j e f idle = idle
noted_out q j e f (asked i a) = asked i (noted_ask q j e f a)

-- with a new row for a request of the peer
abbrev pub making : Node → List Line → ℕ → Seed → Nonce → Out → Node
making Q rs o d n out =
    record {
      first = Q.first;
      rows = insert Q.spi (live fresh (born o d n)) rs;
      spi = suc Q.spi;
      next = Q.next;
      exp = suc Q.exp;
      reply = Some (responses.NewSa Q.spi n);
      out = out;
    }

-- why an end makes no new SA: it cannot use the SPI offered for it, or has no room for one more
pub data Bar : Type 0 where
  unusable no_more : Bar

abbrev pub failure : Bar → Failure
failure unusable = NoProposalChosen
failure no_more = NoAdditionalSas

abbrev pub answer_rekey : Node → List Line → ℕ → Seed → Nonce → Option Bar → Found → Node
answer_rekey Q rs o d n bar nowhere = replying Q (responses.Failed (ChildSaNotFound d.po)) rs Q.spi
answer_rekey Q rs o d n bar (at k fresh b) = replying Q (responses.Failed TemporaryFailure) rs Q.spi
answer_rekey Q rs o d n (Some w) (at k standing b) = replying Q (responses.Failed (failure w)) rs Q.spi
answer_rekey Q rs o d n None (at k standing b) =
    making Q (insert k (live superseded b) rs) o d n (noted_out k Q.spi d.ni n Q.out)
answer_rekey Q rs o d n bar (at k superseded b) = replying Q (responses.Failed TemporaryFailure) rs Q.spi
answer_rekey Q rs o d n bar (at k closing b) = replying Q (responses.Failed TemporaryFailure) rs Q.spi

abbrev pub answer_create : Node → List Line → ℕ → Seed → Nonce → Option Bar → Node
answer_create Q rs o d n (Some w) = replying Q (responses.Failed (failure w)) rs Q.spi
answer_create Q rs o d n None = making Q rs o d n Q.out

abbrev pub answer_delete : Node → List Line → Found → Node
answer_delete Q rs nowhere = replying Q responses.Empty rs Q.spi
answer_delete Q rs (at k fresh b) = replying Q (responses.Delete k) (remove k rs) Q.spi
answer_delete Q rs (at k standing b) = replying Q (responses.Delete k) (remove k rs) Q.spi
answer_delete Q rs (at k superseded b) = replying Q (responses.Delete k) (remove k rs) Q.spi
answer_delete Q rs (at k closing b) = replying Q responses.Empty rs Q.spi

abbrev pub answer_to : Node → List Line → Nonce → Option Bar → Ask → Node
answer_to Q rs n bar (create o d) = answer_create Q rs o d n bar
answer_to Q rs n bar (rekey o d c) = answer_rekey Q rs o d n bar (find d.po rs)
answer_to Q rs n bar (delete x) = answer_delete Q rs (find x rs)
answer_to Q rs n bar check = replying Q responses.Empty rs Q.spi

-- what Q is once it has processed the request a of its peer, with the nonce n at hand, and with what keeps it from a new SA
abbrev pub answer : Node → Nonce → Option Bar → Ask → Node
answer Q n bar a = answer_to Q (calm_lines Q.rows) n bar a

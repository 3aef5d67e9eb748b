-- Runs that the definitions compute, so that the law speaks of something.
use Rattle.std.proofs.Common.{ℕ, List, [], ◌∷◌, refl, arith}
use Rattle.nonce.specs.declared.side.Side.{Side}
use Rattle.nonce.specs.declared.side.Side.TheVariants.{A, B}
use Rattle.book.specs.Rows.{mirrors}
use Rattle.wire.specs.Payloads.{sa_body, ts_body, delete_body, rekey_body, failure_body, carried, sa_in, rekeyed_in, deleted_in, not_found_in, failure_in}
use Rattle.wire.specs.Decoding.{header_in, opened, offer_in, request_in, response_in, informational_in, decoded}
use Rattle.law.specs.Ends.{made_end}
use Rattle.law.specs.Asks.{create_asked, rekey_asked, delete_asked, check_asked}
use Rattle.law.specs.Requests.{answered}
use Rattle.law.specs.Responses.{settled}
use Rattle.law.specs.Runs.{World, Start}
use Rattle.law.specs.Samples.{Lanes, meaning, behaviour, making, collision, collision_numbers, mishaps, mishap_numbers, Leads}
use Rattle.law.proofs.Playing.{Running, run}

-- both ends as they are made, over a channel in which nothing waits
abbrev v : World Lanes
v = record { a = made_end making A 16; b = made_end making B 16; channel = record { a = []; b = [] } }

empty_lane : (s : Side) (d : List ℕ) → (meaning v.channel).may s d → ⊥
empty_lane A d h = h
empty_lane B d h = h

starts : Start behaviour v
starts = record {
  making = making;
  most_a = 16;
  most_b = 16;
  fit = record {
    initiator = omega arith;
    responder = omega arith;
    id_a = omega arith;
    id_b = omega arith;
    spi_a = omega arith;
    spi_b = omega arith;
    least_a = omega arith;
    least_b = omega arith;
  };
  a = refl;
  b = refl;
  clean = empty_lane;
}

abbrev collided : Running v collision
collided = run v collision

-- both are quiet, the books agree, and the one SA that is left is B's
pub collides : Leads collision collision_numbers (1002 ∷ [])
unfolding create_asked rekey_asked delete_asked check_asked answered settled sa_body ts_body delete_body rekey_body failure_body carried sa_in rekeyed_in deleted_in not_found_in failure_in header_in opened offer_in request_in response_in informational_in decoded mirrors
collides = record {
  first = v;
  answers = collided.answers;
  last = collided.world;
  start = starts;
  run = collided.run;
  told = refl;
  quiet = record { a = refl; b = refl };
  agree = refl;
  left = refl;
}

abbrev mishap : Running v mishaps
mishap = run v mishaps

pub mishaps_pass : Leads mishaps mishap_numbers []
unfolding create_asked rekey_asked delete_asked check_asked answered settled sa_body ts_body delete_body rekey_body failure_body carried sa_in rekeyed_in deleted_in not_found_in failure_in header_in opened offer_in request_in response_in informational_in decoded mirrors
mishaps_pass = record {
  first = v;
  answers = mishap.answers;
  last = mishap.world;
  start = starts;
  run = mishap.run;
  told = refl;
  quiet = record { a = refl; b = refl };
  agree = refl;
  left = refl;
}

-- Reading the octets of a message gives the message back.
use Rattle.std.proofs.Common.{◌≡◌, ℕ, ◌+◌, ◌-◌, ◌^◌, ◌<◌, ◌≤◌, true, List, [], ◌∷◌, ◌++◌, length, Some, None, Ok, sym, refl, arith, length-append}
use Rattle.std.proofs.lemmas.Slice.Eq.{bytes_eq-Decides}
use Rattle.std.proofs.lemmas.List.{take_at, drop_at, take_rest}
use Rattle.std.proofs.lemmas.Bool.{le-leb, eq-eqb, and_from}
use Rattle.std.specs.Str.{bytes_eq}
use Rattle.octets.specs.Numbers.{be16, half, word}
use Rattle.octets.proofs.Words.{half_be16, word_be32, long_be64}
use Rattle.nonce.specs.Nonces.{nonce_long}
use Rattle.wire.specs.Payloads.{sa_body, ts_body, rekey_body, failure_body, delete_body, carried, sa_in, rekeyed_in, deleted_in, not_found_in, failure_in}
use Rattle.wire.specs.Messages.{Part, part, offer_parts, parts_of, first_type, chain, exchange_of, sender_flag, response_flag, octets_of}
use Rattle.wire.specs.Decoding.{sized, exchange_in, flags, flags_in, header_in, opened, bodies, offer_in, request_in, response_in, informational_in, body_in, decoded}
use Rattle.wire.specs.Exact.{Valid, ValidOffer, ValidRequest, ValidFailure, ValidResponse, ValidBody}
use Rattle.wire.proofs.Openings.{opened_cut}
use Rattle.wire.specs.declared.message.Message.{Message}
use Rattle.wire.specs.declared.message.Body.{Body}
use Rattle.wire.specs.declared.message.Body.TheVariants as body
use Rattle.wire.specs.declared.message.Request.{Request}
use Rattle.wire.specs.declared.message.Request.TheVariants as request
use Rattle.wire.specs.declared.message.Response.{Response}
use Rattle.wire.specs.declared.message.Response.TheVariants as response
use Rattle.wire.specs.declared.header.Header.{Header}
use Rattle.wire.specs.declared.header.Exchange.{Exchange}
use Rattle.wire.specs.declared.header.Exchange.TheVariants.{CreateChildSa, Informational}
use Rattle.wire.specs.declared.header.Direction.{Direction}
use Rattle.wire.specs.declared.header.Direction.TheVariants.{Asking, Answering}
use Rattle.nonce.specs.declared.side.Side.{Side}
use Rattle.nonce.specs.declared.side.Side.TheVariants.{A, B}
use Rattle.wire.specs.declared.message.Failure.{Failure}
use Rattle.wire.specs.declared.message.Failure.TheVariants.{NoProposalChosen, NoAdditionalSas, TemporaryFailure, ChildSaNotFound}

-- a payload at the front of a chain opens as it was put there
pub opened_back :
    (k : ℕ) (b rest : List ℕ) → length b < 65532 →
    opened (k ∷ 0 ∷ (be16 (4 + length b) ++ (b ++ rest))) ≡ Some (record { body = b; next = k; rest = rest })
opened_back k b rest fits =
    let s : List ℕ = k ∷ 0 ∷ (be16 (4 + length b) ++ (b ++ rest)) in
    let n : half s 2 ≡ 4 + length b = half_be16 (4 + length b) (omega arith) in
    let l : length s ≡ 4 + (length b + length rest) = omega (arith, length-append b rest) in
    let w : length b ≡ 4 + length b - 4 = omega arith in
    sym
    (opened_cut s (4 + length b) (b ++ rest) b rest (sym n) (omega (arith, l)) refl (omega (arith, n))
    (omega (arith, n, l)) (sym (take_rest s 4)) (sym (take_at b rest (4 + length b - 4) w))
    (sym (drop_at b rest (4 + length b - 4) w)))

-- the types and the bodies of payloads
abbrev pub types : List Part → List ℕ
types [] = []
types (p ∷ ps) = p.type ∷ types ps

abbrev pub contents : List Part → List (List ℕ)
contents [] = []
contents (p ∷ ps) = p.body ∷ contents ps

abbrev pub Short : List Part → Type 0
Short [] = Unit {0}
Short (p ∷ ps) = (length p.body < 65532) × Short ps

-- a chain splits into the bodies it was made of
pub bodies_back : (ps : List Part) → Short ps → bodies (types ps) (first_type ps) (chain ps) ≡ Some (contents ps)
bodies_back [] h = refl
bodies_back (p ∷ ps) h =
    let e = eq-eqb p.type p.type refl in
    let o = opened_back (first_type ps) p.body (chain ps) h.0 in
    rw (e, o, bodies_back ps h.1)

-- a body is read as what it was written for
same_self : (s : List ℕ) → bytes_eq s s ≡ true
same_self s = (bytes_eq-Decides s s).1 refl

carried_back :
    (table : ℕ → List ℕ) (i x : ℕ) → word (table x) i ≡ x → carried table i (table x) ≡ Some x
unfolding carried
carried_back table i x e = rw (e, same_self (table x))

pub sa_back : (x : ℕ) → x < 2 ^ 32 → sa_in (sa_body x) ≡ Some x
unfolding sa_in sa_body
sa_back x h = carried_back sa_body 8 x (word_be32 x h)

pub rekeyed_back : (x : ℕ) → x < 2 ^ 32 → rekeyed_in (rekey_body x) ≡ Some x
unfolding rekeyed_in rekey_body
rekeyed_back x h = carried_back rekey_body 4 x (word_be32 x h)

pub deleted_back : (x : ℕ) → x < 2 ^ 32 → deleted_in (delete_body x) ≡ Some x
unfolding deleted_in delete_body
deleted_back x h = carried_back delete_body 4 x (word_be32 x h)

pub failure_back : (e : Failure) → ValidFailure e → failure_in (failure_body e) ≡ Some e
unfolding failure_in failure_body not_found_in
failure_back NoProposalChosen h = refl
failure_back NoAdditionalSas h = refl
failure_back TemporaryFailure h = refl
failure_back (ChildSaNotFound x) h =
    rw (carried_back (λ y. failure_body (ChildSaNotFound y)) 4 x (word_be32 x h))

-- an offer
pub offer_back :
    (x : ℕ) (n : List ℕ) → ValidOffer x n →
    offer_in (sa_body x ∷ n ∷ ts_body ∷ ts_body ∷ []) ≡ Ok (x, n)
unfolding offer_in
offer_back x n (fits, least, most) =
    let l : nonce_long n ≡ true = and_from _ _ (le-leb 16 (length n) least) (le-leb (length n) 32 most) in
    rw (sa_back x fits, l, same_self ts_body)

-- the exchange and the direction of a message
abbrev pub exchange_kind : Body (List ℕ) → Exchange
exchange_kind (body.Request (request.Create x n)) = CreateChildSa
exchange_kind (body.Request (request.Rekey o x n)) = CreateChildSa
exchange_kind (body.Request (request.Delete x)) = Informational
exchange_kind (body.Request request.Empty) = Informational
exchange_kind (body.Response (response.NewSa x n)) = CreateChildSa
exchange_kind (body.Response (response.Failed e)) = CreateChildSa
exchange_kind (body.Response (response.Delete x)) = Informational
exchange_kind (body.Response response.Empty) = Informational

abbrev pub direction_of : Body (List ℕ) → Direction
direction_of (body.Request r) = Asking
direction_of (body.Response r) = Answering

-- what a chain says of the payloads that it was made of
short_offer : (x : ℕ) (n : List ℕ) → ValidOffer x n → Short (offer_parts x n)
unfolding sa_body ts_body
short_offer x n (fits, least, most) = (omega arith, (omega arith, (omega arith, (omega arith, tt))))

short_rekey : (o x : ℕ) (n : List ℕ) → ValidOffer x n → Short (part 41 (rekey_body o) ∷ offer_parts x n)
unfolding rekey_body
short_rekey o x n v = (omega arith, short_offer x n v)

short_delete : (x : ℕ) → Short (part 42 (delete_body x) ∷ [])
unfolding delete_body
short_delete x = (omega arith, tt)

short_failure : (e : Failure) → Short (part 41 (failure_body e) ∷ [])
unfolding failure_body
short_failure NoProposalChosen = (omega arith, tt)
short_failure NoAdditionalSas = (omega arith, tt)
short_failure TemporaryFailure = (omega arith, tt)
short_failure (ChildSaNotFound x) = (omega arith, tt)

informational_back :
    (x : ℕ) → x < 2 ^ 32 → informational_in 42 (chain (part 42 (delete_body x) ∷ [])) ≡ Ok (Some x)
unfolding informational_in
informational_back x h = rw (bodies_back (part 42 (delete_body x) ∷ []) (short_delete x), deleted_back x h)

informational_empty : informational_in 0 [] ≡ Ok None
unfolding informational_in
informational_empty = refl

-- the body that the octets of a message say
abbrev pub BodyBack : Body (List ℕ) → Type 0
BodyBack b = body_in (exchange_kind b) (direction_of b) (first_type (parts_of b)) (chain (parts_of b)) ≡ Ok b

request_back : (r : Request (List ℕ)) → ValidRequest r → BodyBack (body.Request r)
unfolding request_in
request_back (request.Create x n) v = rw (bodies_back (offer_parts x n) (short_offer x n v), offer_back x n v)
request_back (request.Rekey o x n) (w, v) =
    rw (bodies_back (part 41 (rekey_body o) ∷ offer_parts x n) (short_rekey o x n v), rekeyed_back o w, offer_back x n v)
request_back (request.Delete x) v = rw (informational_back x v)
request_back request.Empty v = rw informational_empty

response_back : (r : Response (List ℕ)) → ValidResponse r → BodyBack (body.Response r)
unfolding response_in
response_back (response.NewSa x n) v = rw (bodies_back (offer_parts x n) (short_offer x n v), offer_back x n v)
response_back (response.Failed e) v = rw (bodies_back (part 41 (failure_body e) ∷ []) (short_failure e), failure_back e v)
response_back (response.Delete x) v = rw (informational_back x v)
response_back response.Empty v = rw informational_empty

body_back : (b : Body (List ℕ)) → ValidBody b → BodyBack b
body_back (body.Request r) v = request_back r v
body_back (body.Response r) v = response_back r v

-- the header that the octets of a message say
exchange_back : (b : Body (List ℕ)) → exchange_in (exchange_of b) ≡ Some (exchange_kind b)
exchange_back (body.Request (request.Create x n)) = refl
exchange_back (body.Request (request.Rekey o x n)) = refl
exchange_back (body.Request (request.Delete x)) = refl
exchange_back (body.Request request.Empty) = refl
exchange_back (body.Response (response.NewSa x n)) = refl
exchange_back (body.Response (response.Failed e)) = refl
exchange_back (body.Response (response.Delete x)) = refl
exchange_back (body.Response response.Empty) = refl

flags_back : (s : Side) (b : Body (List ℕ)) → flags_in (sender_flag s + response_flag b) ≡ Some (flags s (direction_of b))
flags_back A (body.Request r) = refl
flags_back B (body.Request r) = refl
flags_back A (body.Response r) = refl
flags_back B (body.Response r) = refl

abbrev pub header_for : Message (List ℕ) → Header
header_for m = record {
  initiator = m.initiator;
  responder = m.responder;
  next = first_type (parts_of m.body);
  exchange = exchange_kind m.body;
  flags = flags m.sender (direction_of m.body);
  id = m.id;
}

header_back : (m : Message (List ℕ)) → Valid m → header_in (octets_of m) ≡ Some (header_for m)
unfolding header_in
header_back m v =
    rw (
      exchange_back m.body,
      flags_back m.sender m.body,
      long_be64 m.initiator v.initiator,
      long_be64 m.responder v.responder,
      word_be32 m.id v.id,
    )

-- how long the payloads of a message are
offer_size : (x : ℕ) (n : List ℕ) → ValidOffer x n → length (chain (offer_parts x n)) ≤ 120
unfolding sa_body ts_body
offer_size x n (fits, least, most) = simp length-append (omega arith)

chain_size : (b : Body (List ℕ)) → ValidBody b → length (chain (parts_of b)) ≤ 132
unfolding rekey_body delete_body failure_body
chain_size (body.Request (request.Create x n)) v = omega (arith, offer_size x n v)
chain_size (body.Request (request.Rekey o x n)) (w, v) = omega (arith, offer_size x n v)
chain_size (body.Request (request.Delete x)) v = omega arith
chain_size (body.Request request.Empty) v = omega arith
chain_size (body.Response (response.NewSa x n)) v = omega (arith, offer_size x n v)
chain_size (body.Response (response.Failed NoProposalChosen)) v = omega arith
chain_size (body.Response (response.Failed NoAdditionalSas)) v = omega arith
chain_size (body.Response (response.Failed TemporaryFailure)) v = omega arith
chain_size (body.Response (response.Failed (ChildSaNotFound x))) v = omega arith
chain_size (body.Response (response.Delete x)) v = omega arith
chain_size (body.Response response.Empty) v = omega arith

pub message_size :
    (m : Message (List ℕ)) → Valid m → (28 ≤ length (octets_of m)) × (length (octets_of m) ≤ 160)
message_size m v = let c = chain_size m.body v.body in (omega arith, omega arith)

sized_back : (m : Message (List ℕ)) → Valid m → sized (octets_of m) ≡ true
sized_back m v =
    let c = chain_size m.body v.body in
    let z = message_size m v in
    let s = octets_of m in
    let w = word_be32 (28 + length (chain (parts_of m.body))) (omega arith) in
    and_from _ _ (le-leb 28 (length s) z.0)
    (and_from _ _ (le-leb (length s) 160 z.1) (eq-eqb (word s 24) (length s) (omega (arith, w))))

pub message_back : (m : Message (List ℕ)) → Valid m → decoded (octets_of m) ≡ Ok m
unfolding decoded
message_back m v = rw (sized_back m v, header_back m v, body_back m.body v.body)

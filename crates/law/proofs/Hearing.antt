-- A delivery to an end is one to its node.
use Rattle.std.proofs.Common.{◌≡◌, ℕ, suc, ◌^◌, ◌<◌, Bool, true, false, cond, eqb, List, Some, None, Ok, Err, Option, Result, sym, refl, ap, ◌∙◌, subst, arith}
use Rattle.std.proofs.lemmas.Bool.{eqb-true, eq-eqb, true≢false}
use Rattle.nonce.specs.Nonces.{nonce_long}
use Rattle.nonce.specs.declared.side.Side.{Side}
use Rattle.nonce.specs.Sides.{other}
use Rattle.channel.specs.Behaviour.{Behaviour}
use Rattle.channel.specs.Behaviour as channel
use Rattle.channel.specs.declared.sent.Sent.{Sent as Taking}
use Rattle.calls.specs.declared.answers.Answer.TheVariants as answer
use Rattle.calls.specs.declared.answers.Delivered.{Delivered}
use Rattle.calls.specs.declared.answers.Delivered.TheVariants.{Done, Again}
use Rattle.calls.specs.declared.refusals.DeliverRefusal.{DeliverRefusal}
use Rattle.calls.specs.declared.refusals.DeliverRefusal.TheVariants as refusal
use Rattle.wire.specs.Decoding.{decoded}
use Rattle.wire.specs.declared.message.Body.{Body}
use Rattle.wire.specs.declared.message.Body.TheVariants as body
use Rattle.wire.specs.declared.message.DecodeRefusal.{DecodeRefusal}
use Rattle.wire.specs.declared.message.Message.{Message}
use Rattle.wire.specs.declared.message.Request.{Request}
use Rattle.wire.specs.declared.message.Request.TheVariants as requests
use Rattle.wire.specs.declared.message.Response.{Response}
use Rattle.wire.specs.declared.message.Response.TheVariants as responses
use Rattle.protocol.specs.Node.{Out, idle, asked}
use Rattle.line.specs.Calls.{wire, Coding, Msg, request, response, Good, GoodWire, GoodReply}
use Rattle.line.specs.Codes.{code, msg_of, is_from, said_by, decode}
use Rattle.line.specs.Meaning.{is_taken, Got}
use Rattle.line.specs.Tidy.{Tidy}
use Rattle.line.specs.World as line
use Rattle.line.specs.World.{Did, gets_none, ignores, repeats, answers, settles, follows, deliver, unused, OtherId, Uncounted}
use Rattle.line.proofs.Codes.{coding}
use Rattle.law.specs.Ends.{End, Outstanding, response_octets}
use Rattle.law.specs.Effects as effects
use Rattle.law.specs.Requests.{answered}
use Rattle.law.specs.Responses.{Settled, settled}
use Rattle.law.specs.Deliveries as deliveries
use Rattle.law.proofs.Answering as answering
use Rattle.law.proofs.Answering.{Answers, NonceFine}
use Rattle.law.proofs.Calling.{answer_of, refusal_of, renamed, Does}
use Rattle.law.proofs.Sending.{Named, request_code, response_code, from_peer, sent}
use Rattle.law.proofs.Settling as settling
use Rattle.law.proofs.Settling.{ResponseFine, Said, Settling}
use Rattle.law.proofs.Tied.{node, OutTied, ReplyTied, Tied}

-- what can be encoded has nonces of 16 to 32 octets
nonce_good : (q : Request (List ℕ)) → GoodWire (2 ^ 32) nonce_long q → NonceFine q
nonce_good (requests.Create o n) (b, f) = f
nonce_good (requests.Rekey x o n) (b, c, f) = f
nonce_good (requests.Delete x) b = tt
nonce_good requests.Empty b = tt

reply_good : (r : Response (List ℕ)) → GoodReply (2 ^ 32) nonce_long r → ResponseFine r
reply_good (responses.NewSa k n) (b, f) = f
reply_good (responses.Failed f) b = tt
reply_good (responses.Delete k) b = tt
reply_good responses.Empty b = tt

-- where no reply is stored, the node has none
none_said : (e : End) (said : Option (Response (List ℕ))) → ReplyTied e None said → said ≡ None
none_said e None h = refl
none_said e (Some r) h = absurd h

-- a stored reply, and that of the node
pub record Stored (e : End) (o : List ℕ) (said : Option (Response (List ℕ))) : Type 0 where
  pub reply : Response (List ℕ)
  pub id : ℕ
  pub is : said ≡ Some reply
  pub before : suc id ≡ e.expected
  pub octets : o ≡ response_octets e id reply

stored : (e : End) (o : List ℕ) (said : Option (Response (List ℕ))) → ReplyTied e (Some o) said → Stored e o said
stored e o None h = absurd h
stored e o (Some r) (i, p, q) = record { reply = r; id = i; is = refl; before = p; octets = q }

eqb_not : (a b : ℕ) → eqb a b ≡ false → a ≡ b → ⊥
eqb_not a b f e = true≢false (sym (eq-eqb a b e) ∙ f)

module _ {C : Type 0} (behaviour : Behaviour C) (i r : ℕ) (fits_i : i < 2 ^ 64) (fits_r : r < 2 ^ 64) (s : Side) (e : End) (said : Option (Response (List ℕ))) (n : Named i r s e) (c u c' : C) (e' : End)
    (x : List ℕ) (long : nonce_long x ≡ true) (d : List ℕ) (came : Got (behaviour.meaning c) (behaviour.meaning u) s (Some d)) (a : Result Delivered DeliverRefusal) where
  abbrev K : Coding
  K = coding i r fits_i fits_r

  -- the delivery, with this request outstanding
  abbrev Delivery : Out → Type 0
  Delivery busy = Does K behaviour i r s (node e said busy) c (deliver x) (answer_of (answer.Heard a)) e' c'

  abbrev DeliveryAs : Out → Result Delivered DeliverRefusal → Type 0
  DeliveryAs busy b = Does K behaviour i r s (node e said busy) c (deliver x) (answer_of (answer.Heard b)) e' c'

  -- octets that the end does not count
  ignored :
      (busy : Out) → Tied e said busy → (f : DeliverRefusal) → refusal_of f ≡ unused →
      Uncounted (node e said busy) (decode i r (other s) d) → (a ≡ Err f) × (e' ≡ e) × (c' ≡ u) → Delivery busy
  ignored busy t f un un_c (p, q, k) =
      subst (DeliveryAs busy) (sym p)
      (subst (λ y. Does K behaviour i r s (node e said busy) c (deliver x) y e' c') (sym un)
      (subst (λ y. Does K behaviour i r s (node e said busy) c (deliver x) unused y c') (sym q)
      (record {
        said = said;
        busy = busy;
        tied = t;
        named = n;
        does = ignores d (subst (λ y. Got (behaviour.meaning c) (behaviour.meaning y) s (Some d)) (sym k) came) un_c;
      })))

  uncounted_by : (busy : Out) (m : Option Msg) → decode i r (other s) d ≡ m → Uncounted (node e said busy) m → Uncounted (node e said busy) (decode i r (other s) d)
  uncounted_by busy m h = subst (Uncounted (node e said busy)) (sym h)

  -- octets for the peer
  sends : (o words : List ℕ) (b : Taking) → o ≡ words → channel.Sends behaviour u c' (other e.side) o b → Rattle.line.specs.Meaning.Sent (behaviour.meaning u) (behaviour.meaning c') (other s) words (is_taken b)
  sends o words b h z = sent behaviour u c' (other s) o words b h (subst (λ y. channel.Sends behaviour u c' (other y) o b) n.side z)

  module _ (busy : Out) (t : Tied e said busy) where
    -- a request with the expected ID is answered
    answers_it :
        (id : ℕ) (q : Request (List ℕ)) (b : Taking) → decode i r (other s) d ≡ Some (request id q) → id ≡ e.expected → NonceFine q →
        (a ≡ Ok (Done b)) × (e' ≡ (answered e x q).end) × channel.Sends behaviour u c' (other e.side) (answered e x q).says b → Delivery busy
    answers_it id q b dec same fine (p, l, z) =
        let h = answering.answers e said busy x t q long fine in
        let w : (answered e x q).says ≡ code i r s (response id h.reply) =
        h.says ∙ ap (λ y. response_octets e y h.reply) (sym same) ∙ response_code i r s e n id h.reply
        in
        subst (DeliveryAs busy) (sym p)
        (subst (λ y. Does K behaviour i r s (node e said busy) c (deliver x) (line.did (is_taken b)) y c') (sym l)
        (record {
          said = Some h.reply;
          busy = h.after;
          tied = h.tied;
          named = renamed i r s e (answered e x q).end n h.same;
          does = answers u d id q h.bar h.reply came dec same long h.spare h.does refl (sends _ _ b w z);
        }))

    -- the request before it gets the stored reply once more
    repeats_it :
        (id : ℕ) (q : Request (List ℕ)) (o : List ℕ) (b : Taking) → decode i r (other s) d ≡ Some (request id q) → suc id ≡ e.expected →
        Stored e o said → (a ≡ Ok (Again b)) × (e' ≡ e) × channel.Sends behaviour u c' (other e.side) o b → Delivery busy
    repeats_it id q o b dec same h (p, l, z) =
        let k : h.id ≡ id = omega (arith, h.before, same) in
        let w : o ≡ code i r s (response id h.reply) =
        h.octets ∙ ap (λ y. response_octets e y h.reply) k ∙ response_code i r s e n id h.reply
        in
        subst (DeliveryAs busy) (sym p)
        (subst (λ y. Does K behaviour i r s (node e said busy) c (deliver x) (line.again (is_taken b)) y c') (sym l)
        (record {
          said = said;
          busy = busy;
          tied = t;
          named = n;
          does = repeats u d id q h.reply came dec same h.is (sends o _ b w z);
        }))

    -- a request that is not the expected one
    older :
        (id : ℕ) (q : Request (List ℕ)) (b : Bool) (o : Option (List ℕ)) → decode i r (other s) d ≡ Some (request id q) →
        eqb id e.expected ≡ false → eqb (suc id) e.expected ≡ b → ReplyTied e o said →
        effects.Acts behaviour e u (deliveries.repeated b o) a e' c' → Delivery busy
    older id q false o dec ne k tied h =
        ignored busy t refusal.WrongId refl
        (uncounted_by busy _ dec (eqb_not id e.expected ne, λ y. absurd (eqb_not (suc id) e.expected k y))) h
    older id q true None dec ne k tied h =
        ignored busy t refusal.WrongId refl
        (uncounted_by busy _ dec (eqb_not id e.expected ne, λ y. none_said e said tied)) h
    older id q true (Some o) dec ne k tied (b, p, l, z) =
        repeats_it id q o b dec (eqb-true (suc id) e.expected k) (stored e o said tied) (p, l, z)

    request_does :
        (id : ℕ) (q : Request (List ℕ)) (b : Bool) → decode i r (other s) d ≡ Some (request id q) → NonceFine q → eqb id e.expected ≡ b →
        effects.Acts behaviour e u (cond b (deliveries.doing_heard (answered e x q)) (deliveries.repeated (eqb (suc id) e.expected) e.reply)) a e' c' →
        Delivery busy
    request_does id q true dec fine k (b, p, l, z) = answers_it id q b dec (eqb-true id e.expected k) fine (p, l, z)
    request_does id q false dec fine k h = older id q (eqb (suc id) e.expected) e.reply dec k refl t.reply h

  -- the response to the outstanding request, by what is to be sent then
  settled_by :
      (j : ℕ) (p : Rattle.protocol.specs.Model.Ask) (id : ℕ) (q : Response (List ℕ)) (g : Settled) (b : Taking) (o : Option (List ℕ)) (after : Out) →
      decode i r (other s) d ≡ Some (response id q) → j ≡ id → (h : Settling e said j p q g) → h.after ≡ after → Said e after o →
      (a ≡ Ok (Done b)) × (e' ≡ g.end) × effects.Replies behaviour e.side u o b c' → Delivery (asked j p)
  settled_by j p id q g b None idle dec same h f w (y, l, (k, z)) =
      subst (DeliveryAs (asked j p)) (sym (y ∙ ap (λ m. Ok (Done m)) k))
      (subst (λ m. Does K behaviour i r s (node e said (asked j p)) c (deliver x) (line.did true) m c') (sym l)
      (record {
        said = said;
        busy = h.after;
        tied = h.tied;
        named = renamed i r s e g.end n h.same;
        does =
            settles d id p q (subst (λ m. Got (behaviour.meaning c) (behaviour.meaning m) s (Some d)) (sym z) came) dec (ap (λ m. asked m p) same) h.does f;
      }))
  settled_by j p id q g b (Some o) idle dec same h f w z = absurd w
  settled_by j p id q g b None (asked j' p') dec same h f w z = absurd w
  settled_by j p id q g b (Some o) (asked j' p') dec same h f w (y, l, z) =
      subst (DeliveryAs (asked j p)) (sym y)
      (subst (λ m. Does K behaviour i r s (node e said (asked j p)) c (deliver x) (line.did (is_taken b)) m c') (sym l)
      (record {
        said = said;
        busy = h.after;
        tied = h.tied;
        named = renamed i r s e g.end n h.same;
        does =
            follows u d id p q j' p' came dec (ap (λ m. asked m p) same) h.does f
            (sends o _ b (w ∙ request_code i r s e n j' (wire p')) z);
      }))

  settles_it :
      (j : ℕ) (p : Rattle.protocol.specs.Model.Ask) (id : ℕ) (q : Response (List ℕ)) (g : Settled) (b : Taking) →
      decode i r (other s) d ≡ Some (response id q) → j ≡ id → Settling e said j p q g →
      (a ≡ Ok (Done b)) × (e' ≡ g.end) × effects.Replies behaviour e.side u g.says b c' → Delivery (asked j p)
  settles_it j p id q g b dec same h z = settled_by j p id q g b g.says h.after dec same h refl h.says z

  response_by :
      (j : ℕ) (p : Rattle.protocol.specs.Model.Ask) (id : ℕ) (q : Response (List ℕ)) (o : Outstanding) (b : Bool) →
      e.outstanding ≡ Some o → Tied e said (asked j p) → Tidy K (node e said (asked j p)) →
      decode i r (other s) d ≡ Some (response id q) → ResponseFine q → o.id ≡ j → eqb id o.id ≡ b →
      effects.Acts behaviour e u (cond b (deliveries.settled_heard (settled e o q)) (deliveries.refused refusal.WrongId)) a e' c' → Delivery (asked j p)
  response_by j p id q o true out t y dec fine k m (b, f, l, z) =
      settles_it j p id q (settled e o q) b dec (sym k ∙ sym (eqb-true id o.id m)) (settling.settles K e said j p o q out t y fine) (f, l, z)
  response_by j p id q o false out t y dec fine k m h =
      ignored (asked j p) t refusal.WrongId refl
      (uncounted_by (asked j p) _ dec (λ z. eqb_not id o.id m (sym z ∙ sym k))) h

  response_does :
      (busy : Out) (id : ℕ) (q : Response (List ℕ)) (o : Option Outstanding) → e.outstanding ≡ o → OutTied e o busy → Tied e said busy →
      Tidy K (node e said busy) → decode i r (other s) d ≡ Some (response id q) → ResponseFine q →
      effects.Acts behaviour e u (deliveries.response_heard e o id q) a e' c' → Delivery busy
  response_does idle id q None out b t y dec fine h = ignored idle t refusal.WrongId refl (uncounted_by idle _ dec tt) h
  response_does (asked j p) id q None out b t y dec fine h = absurd b
  response_does idle id q (Some o) out b t y dec fine h = absurd b
  response_does (asked j p) id q (Some o) out b t y dec fine h =
      response_by j p id q o (eqb id o.id) out t y dec fine b.0 refl h

  module _ (busy : Out) (t : Tied e said busy) (y : Tidy K (node e said busy)) (fine : (m : Msg) → decode i r (other s) d ≡ Some m → Good K m) where
    body_does :
        (id : ℕ) (b : Body (List ℕ)) → decode i r (other s) d ≡ Some (msg_of id b) →
        effects.Acts behaviour e u (deliveries.body_heard e x id b) a e' c' → Delivery busy
    body_does id (body.Request q) dec h =
        request_does busy t id q (eqb id e.expected) dec (nonce_good q (fine (request id q) dec).1) refl h
    body_does id (body.Response q) dec h =
        response_does busy id q e.outstanding refl t.out t y dec (reply_good q (fine (response id q) dec).1) h

    peer_does :
        (m : Message (List ℕ)) (b : Bool) → decoded d ≡ Ok m → is_from i r (other s) m ≡ b →
        effects.Acts behaviour e u (cond b (deliveries.body_heard e x m.id m.body) (deliveries.refused refusal.NotThePeer)) a e' c' → Delivery busy
    peer_does m true k f h =
        body_does m.id m.body
        (ap (said_by i r (other s)) k ∙ ap (λ (z : Bool). cond z (Some (msg_of m.id m.body)) None) f) h
    peer_does m false k f h =
        ignored busy t refusal.NotThePeer refl
        (uncounted_by busy None (ap (said_by i r (other s)) k ∙ ap (λ (z : Bool). cond z (Some (msg_of m.id m.body)) None) f) tt) h

    message_does :
        (m : Result (Message (List ℕ)) DecodeRefusal) → decoded d ≡ m → effects.Acts behaviour e u (deliveries.message_heard e x m) a e' c' → Delivery busy
    message_does (Err f) k h = ignored busy t (refusal.NoMessage f) refl (uncounted_by busy None (ap (said_by i r (other s)) k) tt) h
    message_does (Ok m) k h =
        peer_does m (is_from i r (other s) m) k refl
        (subst (λ z. effects.Acts behaviour e u (cond z (deliveries.body_heard e x m.id m.body) (deliveries.refused refusal.NotThePeer)) a e' c')
        (from_peer i r s e n m) h)

    pub datagram_does : effects.Acts behaviour e u (deliveries.heard e x (Some d)) a e' c' → Delivery busy
    datagram_does h = message_does (decoded d) refl h

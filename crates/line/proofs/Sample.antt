-- A queue, and every call has a step over it: the laws speak of something.
use Rattle.std.proofs.Common.{◌≡◌, ℕ, zero, suc, ◌<◌, ◌≤◌, Bool, true, false, ◌⊎◌, List, [], ◌∷◌, ◌++◌, length, replicate, Some, None, Option, sym, refl, ap, ◌∙◌, inl, inr, ⊎_elim, arith, lit<, lit≤}
use native.Mathlib.Decide.{dec_lt, ℕ_discrete}
use Rattle.std.proofs.lemmas.List.{append-nil}
use Rattle.wire.specs.declared.message.Request.{Request}
use Rattle.wire.specs.declared.message.Response.{Response}
use Rattle.nonce.specs.Nonces.{nonce_long}
use Rattle.wire.specs.Payloads.{sa_body, ts_body, rekey_body, failure_body, delete_body, carried, sa_in, rekeyed_in, deleted_in, not_found_in, failure_in}
use Rattle.wire.specs.Decoding.{header_in, opened, offer_in, request_in, response_in, informational_in, decoded}
use Rattle.protocol.specs.Model.{Nonce, Sa, mirror, lose, Ask, live, standing}
use Rattle.protocol.specs.Node.{Bar, no_more, sense, Out, idle, asked, Node}
use Rattle.nonce.specs.declared.side.Side.{Side}
use Rattle.nonce.specs.declared.side.Side.TheVariants.{A, B}
use Rattle.nonce.specs.Sides.{other}
use Rattle.channel.specs.Meaning.{Meaning, In, Sound, Without}
use Rattle.line.specs.Meaning.{Same, Sent, Got}
use Rattle.line.specs.Calls.{Want, to_create, to_rekey, to_delete, to_check, ask, settle, taken_as, wire, answer_wire, Msg, request, response, Coding, Allowed}
use Rattle.line.specs.World.{Call, asking, resend, deliver, Answer, did, again, stopped, nothing, unused, Did, refuses, asks, resends, gets_none, ignores, repeats, answers, settles, follows, World, Move, Run, made_end, Start}
use Rattle.line.specs.Rest.{not_resent, none_resent, rounds_since_ask}
use Rattle.line.specs.Whole.{Quiet, Law}
use Rattle.line.proofs.Codes.{coding, short}
use Rattle.line.proofs.Whole.{law_of}

-- messages as octets, with the IKE SPIs 1 and 2
abbrev K : Coding
K = coding 1 2 (lit< tt) (lit< tt)

some_none : ◌≡◌ {A = Option Bar} (Some no_more) None → ⊥
some_none f = let z : ◌≡◌ {A = ℕ} 0 1 = cc in omega arith

-- a queue
record Lanes : Type 0 where
  to_a : List (List ℕ)
  to_b : List (List ℕ)

abbrev lane : Lanes → Side → List (List ℕ)
lane c A = c.to_a
lane c B = c.to_b

abbrev meaning : Lanes → Meaning
meaning c = record { longest = 256; depth = 4294967296; waiting = lane c; may = λ e d. In d (lane c e) }

abbrev push : Lanes → Side → List ℕ → Lanes
push c A d = record { to_a = c.to_a ++ (d ∷ []); to_b = c.to_b }
push c B d = record { to_a = c.to_a; to_b = c.to_b ++ (d ∷ []) }

in_push : (x d : List ℕ) (ws : List (List ℕ)) → In x (ws ++ (d ∷ [])) → In x ws ⊎ ((true ≡ true) × (d ≡ x))
in_push x d [] h = ⊎_elim (λ e. inr (refl, e)) (λ e. inl e) h
in_push x d (w ∷ ws) h = ⊎_elim (λ e. inl (inl e)) (λ e. ⊎_elim (λ y. inl (inr y)) inr (in_push x d ws e)) h

pushed : (c : Lanes) (s : Side) (d : List ℕ) → Sent (meaning c) (meaning (push c s d)) s d true
pushed c A d =
    record {
      longest = refl;
      here = λ x. in_push x d c.to_a;
      there = λ x h. h;
      adds = λ f l. (refl, refl, record { front = c.to_a; back = []; was = refl; left = sym (append-nil c.to_a) }, refl);
    }
pushed c B d =
    record {
      longest = refl;
      here = λ x. in_push x d c.to_b;
      there = λ x h. h;
      adds = λ f l. (refl, refl, record { front = c.to_b; back = []; was = refl; left = sym (append-nil c.to_b) }, refl);
    }

stays : (c : Lanes) → Same (meaning c) (meaning c)
stays c = record { longest = refl; less = λ e d h. h; depth = refl; waiting = λ e. refl }

abbrev popped : Lanes → Side → List (List ℕ) → Lanes
popped c A ws = record { to_a = ws; to_b = c.to_b }
popped c B ws = record { to_a = c.to_a; to_b = ws }

pops : (c : Lanes) (s : Side) (d : List ℕ) (ws : List (List ℕ)) → lane c s ≡ d ∷ ws → Got (meaning c) (meaning (popped c s ws)) s (Some d)
pops c s d ws e =
    record {
      longest = refl;
      only = only s e;
      gives = rw e (inl refl);
      none = λ l n. absurd (let z : ◌≡◌ {A = ℕ} 0 1 = cc in omega arith);
      one = one s e;
    }
  where
    only : (s : Side) → lane c s ≡ d ∷ ws → (e : Side) (x : List ℕ) → In x (lane (popped c s ws) e) → In x (lane c e)
    only A e A x h = rw e (inr h)
    only A e B x h = h
    only B e A x h = h
    only B e B x h = rw e (inr h)

    one : (s : Side) → lane c s ≡ d ∷ ws → 0 < length (lane c s) → length (lane c s) ≤ 4294967296
        → Without (lane c s) d (lane (popped c s ws) s) × (◌≡◌ {A = ℕ} 4294967296 4294967296) × (lane (popped c s ws) (other s) ≡ lane c (other s))
    one A e l m = (record { front = []; back = ws; was = e; left = refl }, refl, refl)
    one B e l m = (record { front = []; back = ws; was = e; left = refl }, refl, refl)

empties : (c : Lanes) (s : Side) → lane c s ≡ [] → Got (meaning c) (meaning c) s None
empties c s e =
    record {
      longest = refl;
      only = λ e x h. h;
      gives = tt;
      none = λ l n. (refl, stays c);
      one = λ l m. absurd (let n = ap length e in omega arith);
    }

-- what comes of a call
record Outcome (s : Side) (P : Node) (c : Lanes) (x : Call) : Type 0 where
  answer : Answer
  node : Node
  lanes : Lanes
  does : Did K meaning s P c x answer node lanes

abbrev is_true : (b : Bool) → Option (b ≡ true)
is_true true = Some refl
is_true false = None

abbrev both_of : {X Y : Type 0} → Option X → Option Y → Option (X × Y)
both_of None y = None
both_of (Some x) None = None
both_of (Some x) (Some y) = Some (x, y)

abbrev both : {X Y Z : Type 0} → Option X → Option (Y × Z) → Option (X × Y × Z)
both None y = None
both (Some x) None = None
both (Some x) (Some y) = Some (x, y.0, y.1)

abbrev stop : (s : Side) (P : Node) (c : Lanes) (x : Call) → Outcome s P c x
stop s P c x = record { answer = stopped; node = P; lanes = c; does = refuses (stays c) }

module _ (s : Side) (P : Node) (c : Lanes) where
  abbrev below : (x : ℕ) → Option (x < 4294967296)
  below x = elim (dec_lt x 4294967296) [ yes a ↦ Some a | no a ↦ None ]

  abbrev allow : (w : Want) → Option (Allowed K P w)
  allow (to_create n) = both (is_true (nonce_long n)) (both_of (below P.next) (below P.spi))
  allow (to_rekey x n) = both (is_true (nonce_long n)) (both_of (below (suc P.next)) (below P.spi))
  allow (to_delete x) = below P.next
  allow to_check = below P.next

  abbrev sends : (w : Want) (l : Allowed K P w) (P' : Node) → ask P w ≡ Some P' → (o : Out) → P'.out ≡ o → Outcome s P c (asking w)
  sends w l P' e idle o = stop s P c (asking w)
  sends w l P' e (asked i a) o =
      record { answer = did true; node = P'; lanes = push c (other s) (K.enc s (request i (wire a))); does = asks i a l e o (pushed c (other s) (K.enc s (request i (wire a)))) }

  abbrev if_asked : (w : Want) → Allowed K P w → (r : Option Node) → ask P w ≡ r → Outcome s P c (asking w)
  if_asked w l None e = stop s P c (asking w)
  if_asked w l (Some P') e = sends w l P' e P'.out refl

  abbrev if_allowed : (w : Want) → Option (Allowed K P w) → Outcome s P c (asking w)
  if_allowed w None = stop s P c (asking w)
  if_allowed w (Some l) = if_asked w l (ask P w) refl

  abbrev resent : (o : Out) → P.out ≡ o → Outcome s P c resend
  resent idle e = stop s P c resend
  resent (asked i a) e =
      record { answer = did true; node = P; lanes = push c (other s) (K.enc s (request i (wire a))); does = resends i a e (pushed c (other s) (K.enc s (request i (wire a)))) }

  module _ (n : Nonce) (f : nonce_long n ≡ true) (d : List ℕ) (ws : List (List ℕ)) (e : lane c s ≡ d ∷ ws) where
    abbrev u : Lanes
    u = popped c s ws

    abbrev got : Got (meaning c) (meaning u) s (Some d)
    got = pops c s d ws e

    abbrev replied : (i : ℕ) (q : Request Nonce) (bar : Option Bar) → K.dec (other s) d ≡ Some (request i q) → i ≡ P.exp → (bar ≡ None → P.spi < 4294967296) → (x : Option (Response Nonce)) → (answer_wire P n bar q).reply ≡ x → Outcome s P c (deliver n)
    replied i q bar m x l None e = stop s P c (deliver n)
    replied i q bar m x l (Some r) e =
        record { answer = did true; node = answer_wire P n bar q; lanes = push u (other s) (K.enc s (response i r)); does = answers u d i q bar r got m x f l refl e (pushed u (other s) (K.enc s (response i r))) }

    abbrev answered : (i : ℕ) (q : Request Nonce) → K.dec (other s) d ≡ Some (request i q) → i ≡ P.exp → Dec (P.spi < 4294967296) → Outcome s P c (deliver n)
    answered i q m x (yes l) = replied i q None m x (λ f. l) (answer_wire P n None q).reply refl
    answered i q m x (no l) = replied i q (Some no_more) m x (λ f. absurd (some_none f)) (answer_wire P n (Some no_more) q).reply refl

    abbrev repeated : (i : ℕ) (q : Request Nonce) → K.dec (other s) d ≡ Some (request i q) → (i ≡ P.exp → ⊥) → suc i ≡ P.exp → (x : Option (Response Nonce)) → P.reply ≡ x → Outcome s P c (deliver n)
    repeated i q m x y None e = record { answer = unused; node = P; lanes = u; does = ignores d got (rw m (x, λ z. e)) }
    repeated i q m x y (Some r) e =
        record { answer = again true; node = P; lanes = push u (other s) (K.enc s (response i r)); does = repeats u d i q r got m y e (pushed u (other s) (K.enc s (response i r))) }

    abbrev requested : (i : ℕ) (q : Request Nonce) → K.dec (other s) d ≡ Some (request i q) → Dec (i ≡ P.exp) → Dec (suc i ≡ P.exp) → Outcome s P c (deliver n)
    requested i q m (yes x) y = answered i q m x (dec_lt P.spi 4294967296)
    requested i q m (no x) (yes y) = repeated i q m x y P.reply refl
    requested i q m (no x) (no y) = record { answer = unused; node = P; lanes = u; does = ignores d got (rw m (x, λ z. absurd (y z))) }

    abbrev settled : (i : ℕ) (r : Response Nonce) (a : Ask) → K.dec (other s) d ≡ Some (response i r) → P.out ≡ asked i a → (P' : Node) → P' ≡ settle P a (taken_as P.rows (sense r)) → (o : Out) → P'.out ≡ o → Outcome s P c (deliver n)
    settled i r a m x P' y idle o = record { answer = did true; node = P'; lanes = u; does = settles d i a r got m x y o }
    settled i r a m x P' y (asked j b) o =
        record { answer = did true; node = P'; lanes = push u (other s) (K.enc s (request j (wire b))); does = follows u d i a r j b got m x y o (pushed u (other s) (K.enc s (request j (wire b)))) }

    abbrev if_mine : (i : ℕ) (r : Response Nonce) → K.dec (other s) d ≡ Some (response i r) → (j : ℕ) (a : Ask) → P.out ≡ asked j a → Dec (j ≡ i) → Outcome s P c (deliver n)
    if_mine i r m j a x (yes y) = settled i r a m (x ∙ ap (λ k. asked k a) y) (settle P a (taken_as P.rows (sense r))) refl (settle P a (taken_as P.rows (sense r))).out refl
    if_mine i r m j a x (no y) = record { answer = unused; node = P; lanes = u; does = ignores d got (rw (m, x) y) }

    abbrev responded : (i : ℕ) (r : Response Nonce) → K.dec (other s) d ≡ Some (response i r) → (o : Out) → P.out ≡ o → Outcome s P c (deliver n)
    responded i r m idle x = record { answer = unused; node = P; lanes = u; does = ignores d got (rw (m, x) tt) }
    responded i r m (asked j a) x = if_mine i r m j a x (ℕ_discrete j i)

    abbrev read : (m : Option Msg) → K.dec (other s) d ≡ m → Outcome s P c (deliver n)
    read None m = record { answer = unused; node = P; lanes = u; does = ignores d got (rw m tt) }
    read (Some (request i q)) m = requested i q m (ℕ_discrete i P.exp) (ℕ_discrete (suc i) P.exp)
    read (Some (response i r)) m = responded i r m P.out refl

  abbrev taken : (n : Nonce) → nonce_long n ≡ true → (ws : List (List ℕ)) → lane c s ≡ ws → Outcome s P c (deliver n)
  taken n f [] e = record { answer = nothing; node = P; lanes = c; does = gets_none (empties c s e) }
  taken n f (d ∷ ws) e = read n f d ws e (K.dec (other s) d) refl

  abbrev if_fine : (n : Nonce) → Option (nonce_long n ≡ true) → Outcome s P c (deliver n)
  if_fine n None = stop s P c (deliver n)
  if_fine n (Some f) = taken n f (lane c s) refl

  abbrev call : (x : Call) → Outcome s P c x
  call (asking w) = if_allowed w (allow w)
  call resend = resent P.out refl
  call (deliver n) = if_fine n (is_true (nonce_long n))

-- every call has an answer
record Next (v : World Lanes) (m : Side) (x : Call) : Type 0 where
  answer : Answer
  world : World Lanes
  step : Rattle.line.specs.World.StepOn K meaning m v x answer world

abbrev next : (v : World Lanes) (m : Side) (x : Call) → Next v m x
next v A x = let o = call A v.a v.ch x in record { answer = o.answer; world = record { a = o.node; b = v.b; ch = o.lanes }; step = record { this = o.does; that = refl } }
next v B x = let o = call B v.b v.ch x in record { answer = o.answer; world = record { a = v.a; b = o.node; ch = o.lanes }; step = record { this = o.does; that = refl } }

record All (v : World Lanes) (xs : List Move) : Type 0 where
  answers : List Answer
  world : World Lanes
  run : Run K meaning v xs answers world

abbrev runs : (v : World Lanes) (xs : List Move) → All v xs
runs v [] = record { answers = []; world = v; run = refl }
runs v (x ∷ xs) = let n = next v x.side x.call in let r = runs n.world xs in record { answers = n.answer ∷ r.answers; world = r.world; run = (n.world, n.step, r.run) }

abbrev start : World Lanes
start = record { a = made_end true 1000 1 1; b = made_end false 2000 1 1; ch = record { to_a = []; to_b = [] } }

-- nothing may come at the start
clean : (e : Side) (d : List ℕ) → In d (lane start.ch e) → ⊥
clean A d h = h
clean B d h = h

begins : Start K meaning start
begins =
    record {
      id_a = 1;
      id_b = 1;
      within_a = lit≤ tt;
      within_b = lit≤ tt;
      spi_a = 1000;
      spi_b = 2000;
      room_a = lit≤ tt;
      room_b = lit≤ tt;
      least_a = lit≤ tt;
      least_b = lit≤ tt;
      a_made = refl;
      b_made = refl;
      clean = clean;
    }

abbrev a_does : Call → Move
a_does x = record { side = A; call = x }

abbrev b_does : Call → Move
b_does x = record { side = B; call = x }

-- sixteen times an octet
abbrev nonce : ℕ → Nonce
nonce x = replicate 16 x

-- a delivery to A, and then one to B
abbrev rounds : ℕ → List Move
rounds zero = []
rounds (suc n) = a_does (deliver (nonce 1)) ∷ (b_does (deliver (nonce 1)) ∷ rounds n)

-- an SA is made, and both ends rekey it at once; eight rounds follow
abbrev both_rekey : List Move
both_rekey =
    a_does (asking (to_create (nonce 11))) ∷ b_does (deliver (nonce 22)) ∷ a_does (deliver (nonce 1)) ∷ a_does (asking to_check)
    ∷ b_does (deliver (nonce 1)) ∷ a_does (deliver (nonce 1)) ∷ a_does (asking (to_rekey 1000 (nonce 33)))
    ∷ b_does (asking (to_rekey 2000 (nonce 44))) ∷ b_does (deliver (nonce 55)) ∷ a_does (deliver (nonce 66)) ∷ rounds 8

abbrev end_world : World Lanes
end_world = (runs start both_rekey).world

ends_quiet : (end_world.a.out ≡ idle) × (end_world.b.out ≡ idle)
unfolding dec_lt ℕ_discrete lose sa_body ts_body rekey_body failure_body delete_body carried sa_in rekeyed_in deleted_in not_found_in failure_in header_in opened offer_in request_in response_in informational_in decoded
ends_quiet = (refl, refl)

-- the old SA is gone, and so is the loser, which A began; the other is in both books
winner : Sa
winner = record { peer = 2001; mine = false; heir = true; po = 1000; pp = 2000; ni = nonce 44; nr = nonce 66 }

succeeded : (end_world.a.rows ≡ (record { key = 1002; cell = live standing winner } ∷ [])) × (end_world.b.rows ≡ (record { key = 2001; cell = live standing (mirror 1002 winner) } ∷ []))
unfolding dec_lt ℕ_discrete lose winner sa_body ts_body rekey_body failure_body delete_body carried sa_in rekeyed_in deleted_in not_found_in failure_in header_in opened offer_in request_in response_in informational_in decoded
succeeded = (refl, refl)

-- the law applies to this run, with rest
sound : Sound (meaning start.ch)
sound =
    record { most = lit≤ tt; sized = λ e d h. absurd (clean e d h); listed = λ e d l h. h; comes = λ e d l h. h }

eight : 8 ≤ rounds_since_ask both_rekey (runs start both_rekey).answers
unfolding dec_lt ℕ_discrete lose sa_body ts_body rekey_body failure_body delete_body carried sa_in rekeyed_in deleted_in not_found_in failure_in header_in opened offer_in request_in response_in informational_in decoded
eight = lit≤ tt

law : Law K 160 meaning start both_rekey (runs start both_rekey).answers end_world (runs start both_rekey).run
law = law_of K 160 (short 1 2 (lit< tt) (lit< tt)) meaning start both_rekey (runs start both_rekey).answers end_world (runs start both_rekey).run begins

-- no call is a resend
abbrev other_call : Call → Type 0
other_call (asking w) = Unit {0}
other_call resend = ⊥
other_call (deliver n) = Unit {0}

abbrev other_calls : List Move → Type 0
other_calls [] = Unit {0}
other_calls (x ∷ xs) = other_call x.call × other_calls xs

never_at : (x : Call) (r : Answer) → other_call x → not_resent x r
never_at (asking w) r h = tt
never_at resend r h = elim h [ ]
never_at (deliver n) r h = tt

never_by : (xs : List Move) (rs : List Answer) → other_calls xs → none_resent xs rs
never_by [] rs h = tt
never_by (x ∷ xs) [] h = tt
never_by (x ∷ xs) (r ∷ rs) h = (never_at x.call r h.0, never_by xs rs h.1)

never_in : (n : ℕ) → other_calls (rounds n)
never_in zero = tt
never_in (suc n) = (tt, (tt, never_in n))

never : none_resent both_rekey (runs start both_rekey).answers
never = never_by both_rekey (runs start both_rekey).answers (tt, (tt, (tt, (tt, (tt, (tt, (tt, (tt, (tt, (tt, never_in 8))))))))))

rests : Quiet end_world
rests = law.rest sound (record { deep = lit≤ tt; long = lit≤ tt }) never eight

-- Whatever is read as a message has exactly the octets of that message.
use Rattle.std.proofs.Common.{◌≡◌, ℕ, suc, ◌+◌, ◌-◌, ◌^◌, ◌<◌, ◌≤◌, Bool, true, false, cond, ◌&&◌, eqb, List, [], ◌∷◌, ◌++◌, length, get_or, take, drop, Some, None, Ok, Err, Option, Result, sym, refl, ap, ◌∙◌, subst, ◌⊎◌, inl, inr, ⊎_elim, arith, length-drop, length-take}
use Rattle.std.proofs.lemmas.List.{take-append-drop, drop-drop, drop_more, get_or-drop, get_or-take, get_or_past, length-take-le, nil_from_length}
use Rattle.std.proofs.lemmas.Bool.{leb-true, eqb-true, and_parts, cases_lt}
use Rattle.std.proofs.lemmas.Bool.Decides.{nat_tests}
use Rattle.std.specs.Option.{option_map}
use Rattle.std.specs.Str.{bytes_eq}
use Rattle.octets.specs.Numbers.{be16, be32, be64, half, word, long}
use Rattle.octets.proofs.Words.{be16_half, be32_word, be64_long}
use Rattle.nonce.specs.Nonces.{nonce_long}
use Rattle.wire.specs.Payloads.{sa_body, ts_body, rekey_body, failure_body, delete_body, carried, sa_in, rekeyed_in, deleted_in, not_found_in, failure_in}
use Rattle.wire.specs.Messages.{Part, part, offer_parts, request_parts, response_parts, parts_of, first_type, chain, request_exchange, response_exchange, exchange_of, exchange_number, sender_flag, direction_flag, flags_octet, response_flag, octets_of}
use Rattle.wire.specs.Decoding.{sized, exchange_in, flags, flags_in, header_from, header_in, opens, opened, Opened, taken, before, followed, bodies, offer_order, rekey_order, nonce_then, sa_then, offer_in, as_create, as_rekey, as_new, as_failed, rekey_from, create_or, failed_from, new_or, as_deleted, deleted_from, empty_or, informs_request, informs_response, asks, answers, request_in, response_in, informational_in, body_in, with_body, with_header, decoded}
use Rattle.wire.specs.Exact.{Octets, Valid, ValidOffer, ValidRequest, ValidFailure, ValidResponse, ValidBody}
use Rattle.wire.proofs.Carried.{same_equal}
use Rattle.wire.specs.declared.message.Message.{Message}
use Rattle.wire.specs.declared.message.Body.{Body}
use Rattle.wire.specs.declared.message.Body.TheVariants as body
use Rattle.wire.specs.declared.message.Request.{Request}
use Rattle.wire.specs.declared.message.Request.TheVariants as request
use Rattle.wire.specs.declared.message.Response.{Response}
use Rattle.wire.specs.declared.message.Response.TheVariants as response
use Rattle.wire.specs.declared.message.Failure.{Failure}
use Rattle.wire.specs.declared.message.Failure.TheVariants.{NoProposalChosen, NoAdditionalSas, TemporaryFailure, ChildSaNotFound}
use Rattle.wire.specs.declared.message.DecodeRefusal.{DecodeRefusal}
use Rattle.wire.specs.declared.message.DecodeRefusal.TheVariants as refusal
use Rattle.wire.specs.declared.header.Header.{Header}
use Rattle.wire.specs.declared.header.Exchange.{Exchange}
use Rattle.wire.specs.declared.header.Exchange.TheVariants.{CreateChildSa, Informational}
use Rattle.wire.specs.declared.header.Flags.{Flags}
use Rattle.wire.specs.declared.header.Direction.{Direction}
use Rattle.wire.specs.declared.header.Direction.TheVariants.{Asking, Answering}
use Rattle.nonce.specs.declared.side.Side.{Side}
use Rattle.nonce.specs.declared.side.Side.TheVariants.{A, B}

-- what a test let through, with nothing or a refusal in the place of the rest
cond_given : {A : Type 0} (b : Bool) (o : Option A) (x : A) → cond b o None ≡ Some x → (b ≡ true) × (o ≡ Some x)
cond_given true o x e = (refl, e)
cond_given false o x e = cc

cond_passed :
    {A E : Type 0} (b : Bool) (r : Result A E) (refusal : E) (x : A) → cond b r (Err refusal) ≡ Ok x →
    (b ≡ true) × (r ≡ Ok x)
cond_passed true r f x e = (refl, e)
cond_passed false r f x e = cc

cond_either :
    {A : Type 0} (b : Bool) (x : A) (o : Option A) (y : A) → cond b (Some x) o ≡ Some y →
    ((b ≡ true) × (x ≡ y)) ⊎ (o ≡ Some y)
cond_either true x o y e = inl (refl, cc)
cond_either false x o y e = inr e

-- parts of octets are octets
octets_drop : (n : ℕ) (s : List ℕ) → Octets s → Octets (drop n s)
octets_drop n s o i = rw (get_or-drop n s i 0) (o (n + i))

octets_take : (n : ℕ) (s : List ℕ) → Octets s → Octets (take n s)
octets_take n s o i =
    ⊎_elim (λ l. rw (get_or-take n s i 0 l) (o i))
    (λ l. rw (get_or_past (take n s) i 0 (omega (arith, length-take n s))) (omega arith)) (cases_lt i n)

-- the numbers in octets fit their width
word_fits : (s : List ℕ) (i : ℕ) → Octets s → word s i < 2 ^ 32
word_fits s i o = omega (arith, o i, o (i + 1), o (i + 2), o (i + 3))

long_fits : (s : List ℕ) (i : ℕ) → Octets s → long s i < 2 ^ 64
long_fits s i o = omega (arith, o i, o (i + 1), o (i + 2), o (i + 3), o (i + 4), o (i + 5), o (i + 6), o (i + 7))

-- a number that a body carries
carried_only :
    (table : ℕ → List ℕ) (i : ℕ) (s : List ℕ) (x : ℕ) → Octets s → carried table i s ≡ Some x →
    (s ≡ table x) × (x < 2 ^ 32)
unfolding carried
carried_only table i s x o e =
    let r = cond_given (bytes_eq s (table (word s i))) (Some (word s i)) x e in
    let w : x ≡ word s i = cc in
    (rw w (same_equal s (table (word s i)) r.0), omega (arith, w, word_fits s i o))

sa_only : (s : List ℕ) (x : ℕ) → Octets s → sa_in s ≡ Some x → (s ≡ sa_body x) × (x < 2 ^ 32)
unfolding sa_in
sa_only s x o e = carried_only sa_body 8 s x o e

rekeyed_only : (s : List ℕ) (x : ℕ) → Octets s → rekeyed_in s ≡ Some x → (s ≡ rekey_body x) × (x < 2 ^ 32)
unfolding rekeyed_in
rekeyed_only s x o e = carried_only rekey_body 4 s x o e

deleted_only : (s : List ℕ) (x : ℕ) → Octets s → deleted_in s ≡ Some x → (s ≡ delete_body x) × (x < 2 ^ 32)
unfolding deleted_in
deleted_only s x o e = carried_only delete_body 4 s x o e

not_found_only :
    (s : List ℕ) (x : ℕ) → Octets s → not_found_in s ≡ Some x → (s ≡ failure_body (ChildSaNotFound x)) × (x < 2 ^ 32)
unfolding not_found_in
not_found_only s x o e = carried_only (λ y. failure_body (ChildSaNotFound y)) 4 s x o e

-- a failure that a body is read as
abbrev Failing : List ℕ → Failure → Type 0
Failing s e = (s ≡ failure_body e) × ValidFailure e

not_found_failing :
    (s : List ℕ) (e : Failure) (o : Option ℕ) → Octets s → not_found_in s ≡ o → option_map (λ x. ChildSaNotFound x) o ≡ Some e →
    Failing s e
not_found_failing s e (Some x) o h q =
    let z : ChildSaNotFound x ≡ e = cc in
    subst (λ f. Failing s f) z (not_found_only s x o h)
not_found_failing s e None o h q = cc

bare_failing :
    (s : List ℕ) (e bare : Failure) → ValidFailure bare → (bytes_eq s (failure_body bare) ≡ true) × (bare ≡ e) → Failing s e
bare_failing s e bare v (t, z) = subst (λ f. Failing s f) z (same_equal s _ t, v)

failure_only : (s : List ℕ) (e : Failure) → Octets s → failure_in s ≡ Some e → Failing s e
unfolding failure_in
failure_only s e o h =
    ⊎_elim (bare_failing s e NoProposalChosen tt)
    (λ i.
    ⊎_elim (bare_failing s e NoAdditionalSas tt)
    (λ j.
    ⊎_elim (bare_failing s e TemporaryFailure tt) (λ k. not_found_failing s e (not_found_in s) o refl k)
    (cond_either (bytes_eq s (failure_body TemporaryFailure)) TemporaryFailure _ e j))
    (cond_either (bytes_eq s (failure_body NoAdditionalSas)) NoAdditionalSas _ e i))
    (cond_either (bytes_eq s (failure_body NoProposalChosen)) NoProposalChosen _ e h)

-- the first payload of a chain
abbrev First : List ℕ → Opened → Type 0
First s p =
    (s ≡ p.next ∷ 0 ∷ (be16 (4 + length p.body) ++ (p.body ++ p.rest))) × Octets p.body × Octets p.rest

four_front : (s : List ℕ) → 4 ≤ length s → s ≡ get_or s 0 0 ∷ get_or s 1 0 ∷ get_or s 2 0 ∷ get_or s 3 0 ∷ drop 4 s
four_front s l =
    let e0 = drop_more s 0 0 (omega arith) in
    let e1 = drop_more s 1 0 (omega arith) in
    let e2 = drop_more s 2 0 (omega arith) in
    let e3 = drop_more s 3 0 (omega arith) in
    cc

front_joined :
    (s : List ℕ) (a b c d : ℕ) (t u w : List ℕ) → s ≡ a ∷ b ∷ c ∷ d ∷ t → b ≡ 0 → w ≡ c ∷ d ∷ [] → u ≡ t →
    s ≡ a ∷ 0 ∷ (w ++ u)
front_joined s a b c d t u w e z h j = rw (h, j) (cc)

opened_first :
    (s : List ℕ) → Octets s → opens s ≡ true →
    First s (record { body = take (half s 2 - 4) (drop 4 s); next = get_or s 0 0; rest = drop (half s 2) s })
opened_first s o t =
    let a = and_parts _ _ t in
    let b = and_parts _ _ a.1 in
    let c = and_parts _ _ b.1 in
    let l : 4 ≤ length s = leb-true 4 (length s) a.0 in
    let z : get_or s 1 0 ≡ 0 = eqb-true (get_or s 1 0) 0 b.0 in
    let m : 4 ≤ half s 2 = leb-true 4 (half s 2) c.0 in
    let n : half s 2 ≤ length s = leb-true (half s 2) (length s) c.1 in
    let q = half s 2 - 4 in
    let k : 4 + length (take q (drop 4 s)) ≡ half s 2 =
    omega (arith, length-take-le q (drop 4 s) (omega (arith, length-drop 4 s)))
    in
    let w : be16 (half s 2) ≡ get_or s 2 0 ∷ get_or s 3 0 ∷ [] = be16_half (get_or s 2 0) (get_or s 3 0) (o 2) (o 3) in
    let d : drop (half s 2) s ≡ drop q (drop 4 s) = ap (λ x. drop x s) (omega arith) ∙ sym (drop-drop q 4 s) in
    let j : take q (drop 4 s) ++ drop (half s 2) s ≡ drop 4 s = rw d (take-append-drop q (drop 4 s)) in
    let whole =
    front_joined s (get_or s 0 0) (get_or s 1 0) (get_or s 2 0) (get_or s 3 0) (drop 4 s) (take q (drop 4 s) ++ drop (half s 2) s)
    (be16 (4 + length (take q (drop 4 s)))) (four_front s l) z (ap (λ x. be16 x) k ∙ w) j
    in
    (whole, octets_take q (drop 4 s) (octets_drop 4 s o), octets_drop (half s 2) s o)

opened_only : (s : List ℕ) (p : Opened) → Octets s → opened s ≡ Some p → First s p
unfolding opened
opened_only s p o e =
    let given : Opened = record { body = take (half s 2 - 4) (drop 4 s); next = get_or s 0 0; rest = drop (half s 2) s } in
    let r = cond_given (opens s) (Some given) p e in
    let z : given ≡ p = cc in
    subst (λ x. First s x) z (opened_first s o r.0)

taken_only : (t k : ℕ) (s : List ℕ) (p : Opened) → Octets s → taken t k s ≡ Some p → (k ≡ t) × First s p
taken_only t k s p o e =
    let r = cond_given (eqb k t) (opened s) p e in
    (eqb-true k t r.0, opened_only s p o r.1)

-- payloads of these types and bodies
abbrev pub zipped : List ℕ → List (List ℕ) → List Part
zipped [] bs = []
zipped (t ∷ ts) [] = []
zipped (t ∷ ts) (b ∷ bs) = part t b ∷ zipped ts bs

abbrev Each : List (List ℕ) → Type 0
Each [] = Unit {0}
Each (b ∷ bs) = Octets b × Each bs

-- the bodies that a chain splits into are those of a chain with the same octets
abbrev Split : List ℕ → ℕ → List ℕ → List (List ℕ) → Type 0
Split ts k s bs =
    (s ≡ chain (zipped ts bs)) × (k ≡ first_type (zipped ts bs)) × (length bs ≡ length ts) × Each bs

end_only : (k : ℕ) (s : List ℕ) (bs : List (List ℕ)) → bodies [] k s ≡ Some bs → Split [] k s bs
end_only k s [] e =
    let r = cond_given (eqb k 0 && eqb (length s) 0) (Some []) [] e in
    let a = and_parts _ _ r.0 in
    (nil_from_length s (eqb-true (length s) 0 a.1), eqb-true k 0 a.0, refl, tt)
end_only k s (x ∷ bs) e = let r = cond_given (eqb k 0 && eqb (length s) 0) (Some []) (x ∷ bs) e in cc

step_only :
    (t k : ℕ) (ts s : List ℕ) (p : Opened) (b : List ℕ) (bs : List (List ℕ)) → (k ≡ t) × First s p → p.body ≡ b →
    Split ts p.next p.rest bs → Split (t ∷ ts) k s (b ∷ bs)
step_only t k ts s p b bs (h, (e, x, y)) j (f, g, l, each) =
    (rw (← f, ← g, ← j) e, h, ap (λ n. suc n) l, (subst Octets j x, each))

module _ (t k : ℕ) (ts s : List ℕ) (o : Octets s) where
  module _ (again : (k : ℕ) (s : List ℕ) (bs : List (List ℕ)) → Octets s → bodies ts k s ≡ Some bs → Split ts k s bs) where
    before_only :
        (p : Opened) (bs : List (List ℕ)) (r : Option (List (List ℕ))) → (k ≡ t) × First s p →
        bodies ts p.next p.rest ≡ r → before p.body r ≡ Some bs → Split (t ∷ ts) k s bs
    before_only p (b ∷ bs) (Some cs) f h e =
        let j : p.body ≡ b = cc in
        let m : cs ≡ bs = cc in
        step_only t k ts s p b bs f j (again p.next p.rest bs f.1.2 (h ∙ ap (λ x. Some x) m))
    before_only p [] (Some cs) f h e = cc
    before_only p bs None f h e = cc

    followed_only :
        (bs : List (List ℕ)) (q : Option Opened) → taken t k s ≡ q →
        followed q (λ p. bodies ts p.next p.rest) ≡ Some bs → Split (t ∷ ts) k s bs
    followed_only bs (Some p) h e =
        before_only p bs (bodies ts p.next p.rest) (taken_only t k s p o h) refl e
    followed_only bs None h e = cc

bodies_only :
    (ts : List ℕ) (k : ℕ) (s : List ℕ) (bs : List (List ℕ)) → Octets s → bodies ts k s ≡ Some bs → Split ts k s bs
bodies_only [] k s bs o e = end_only k s bs e
bodies_only (t ∷ ts) k s bs o e = followed_only t k ts s o (bodies_only ts) bs (taken t k s) refl e

-- an offer
nonce_only :
    (x y : ℕ) (a b c d n : List ℕ) → a ≡ sa_body x → x < 2 ^ 32 → nonce_then x (a ∷ b ∷ c ∷ d ∷ []) ≡ Ok (y, n) →
    (zipped offer_order (a ∷ b ∷ c ∷ d ∷ []) ≡ offer_parts y n) × ValidOffer y n
nonce_only x y a b c d n e f g =
    let p = cond_passed (nonce_long b) _ refusal.NonceLength (y, n) g in
    let q = cond_passed (bytes_eq c ts_body && bytes_eq d ts_body) (Ok (x, b)) refusal.Payload (y, n) p.1 in
    let w : ◌≡◌ {A = ℕ × List ℕ} (x, b) (y, n) = cc in
    let u : x ≡ y = ap (λ p. p.0) w in
    let v : b ≡ n = ap (λ p. p.1) w in
    let l = and_parts _ _ p.0 in
    let m = and_parts _ _ q.0 in
    let j = same_equal c ts_body m.0 in
    let k = same_equal d ts_body m.1 in
    (rw (← u, ← v, e, j, k), (rw (← u) f, rw (← v) (leb-true 16 (length b) l.0), rw (← v) (leb-true (length b) 32 l.1)))

sa_then_only :
    (a b c d : List ℕ) (y : ℕ) (n : List ℕ) (q : Option ℕ) → Octets a → sa_in a ≡ q →
    sa_then q (a ∷ b ∷ c ∷ d ∷ []) ≡ Ok (y, n) →
    (zipped offer_order (a ∷ b ∷ c ∷ d ∷ []) ≡ offer_parts y n) × ValidOffer y n
sa_then_only a b c d y n (Some x) o h e =
    let r = sa_only a x o h in
    nonce_only x y a b c d n r.0 r.1 e
sa_then_only a b c d y n None o h e = cc

offer_only :
    (bs : List (List ℕ)) (y : ℕ) (n : List ℕ) → length bs ≡ 4 → Each bs → offer_in bs ≡ Ok (y, n) →
    (zipped offer_order bs ≡ offer_parts y n) × ValidOffer y n
unfolding offer_in
offer_only [] y n l o e = absurd (omega arith)
offer_only (a ∷ []) y n l o e = absurd (omega arith)
offer_only (a ∷ b ∷ []) y n l o e = absurd (omega arith)
offer_only (a ∷ b ∷ c ∷ []) y n l o e = absurd (omega arith)
offer_only (a ∷ b ∷ c ∷ d ∷ []) y n l o e = sa_then_only a b c d y n (sa_in a) o.0 refl e
offer_only (a ∷ b ∷ c ∷ d ∷ f ∷ bs) y n l o e = absurd (omega arith)

-- the payloads that a chain is read as have its octets, and the first has the type that was announced
abbrev Reads : ℕ → List ℕ → List Part → Type 0
Reads k s ps = (s ≡ chain ps) × (k ≡ first_type ps)

split_reads :
    (ts : List ℕ) (k : ℕ) (s : List ℕ) (bs : List (List ℕ)) (ps : List Part) → Split ts k s bs → zipped ts bs ≡ ps → Reads k s ps
split_reads ts k s bs ps (e, f, l, each) h = subst (λ x. Reads k s x) h (e, f)

abbrev Requested : ℕ → List ℕ → Request (List ℕ) → Type 0
Requested k s r = Reads k s (request_parts r) × ValidRequest r × (request_exchange r ≡ 36)

abbrev Responded : ℕ → List ℕ → Response (List ℕ) → Type 0
Responded k s r = Reads k s (response_parts r) × ValidResponse r × (response_exchange r ≡ 36)

create_only :
    (k : ℕ) (s : List ℕ) (bs : List (List ℕ)) (r : Request (List ℕ)) (q : Result (ℕ × List ℕ) DecodeRefusal) →
    Split offer_order k s bs → offer_in bs ≡ q → as_create q ≡ Ok r → Requested k s r
create_only k s bs r (Ok (x, n)) p h e =
    let f = offer_only bs x n p.2 p.3 h in
    let z : request.Create x n ≡ r = cc in
    subst (λ x. Requested k s x) z
    (split_reads offer_order k s bs (offer_parts x n) p f.0, f.1, refl)
create_only k s bs r (Err d) p h e = cc

rekey_only :
    (k : ℕ) (s : List ℕ) (a : List ℕ) (bs : List (List ℕ)) (r : Request (List ℕ)) (u : Option ℕ)
    (q : Result (ℕ × List ℕ) DecodeRefusal) →
    Split rekey_order k s (a ∷ bs) → rekeyed_in a ≡ u → offer_in bs ≡ q → as_rekey u q ≡ Ok r →
    Requested k s r
rekey_only k s a bs r (Some o) (Ok (x, n)) p g h e =
    let l : length bs ≡ 4 = omega (arith, p.2) in
    let f = offer_only bs x n l p.3.1 h in
    let v = rekeyed_only a o p.3.0 g in
    let z : request.Rekey o x n ≡ r = cc in
    let j : zipped rekey_order (a ∷ bs) ≡ part 41 (rekey_body o) ∷ offer_parts x n = rw (f.0, v.0) in
    subst (λ x. Requested k s x) z
    (split_reads rekey_order k s (a ∷ bs) (part 41 (rekey_body o) ∷ offer_parts x n) p j, (v.1, f.1), refl)
rekey_only k s a bs r (Some o) (Err d) p g h e = cc
rekey_only k s a bs r None q p g h e = cc

rekey_from_only :
    (k : ℕ) (s : List ℕ) (r : Request (List ℕ)) (q : Option (List (List ℕ))) → Octets s → bodies rekey_order k s ≡ q →
    rekey_from q ≡ Ok r → Requested k s r
rekey_from_only k s r (Some (a ∷ bs)) o h e =
    rekey_only k s a bs r (rekeyed_in a) (offer_in bs) (bodies_only rekey_order k s (a ∷ bs) o h) refl refl e
rekey_from_only k s r (Some []) o h e =
    let p = bodies_only rekey_order k s [] o h in absurd (omega (arith, p.2))
rekey_from_only k s r None o h e = cc

create_or_only :
    (k : ℕ) (s : List ℕ) (r : Request (List ℕ)) (q : Option (List (List ℕ))) → Octets s → bodies offer_order k s ≡ q →
    create_or q (rekey_from (bodies rekey_order k s)) ≡ Ok r → Requested k s r
create_or_only k s r (Some bs) o h e =
    create_only k s bs r (offer_in bs) (bodies_only offer_order k s bs o h) refl e
create_or_only k s r None o h e = rekey_from_only k s r (bodies rekey_order k s) o refl e

request_only :
    (k : ℕ) (s : List ℕ) (r : Request (List ℕ)) → Octets s → request_in k s ≡ Ok r →
    Requested k s r
unfolding request_in
request_only k s r o e = create_or_only k s r (bodies offer_order k s) o refl e

-- a response of the exchange CREATE_CHILD_SA
new_only :
    (k : ℕ) (s : List ℕ) (bs : List (List ℕ)) (r : Response (List ℕ)) (q : Result (ℕ × List ℕ) DecodeRefusal) →
    Split offer_order k s bs → offer_in bs ≡ q → as_new q ≡ Ok r → Responded k s r
new_only k s bs r (Ok (x, n)) p h e =
    let f = offer_only bs x n p.2 p.3 h in
    let z : response.NewSa x n ≡ r = cc in
    subst (λ x. Responded k s x) z
    (split_reads offer_order k s bs (offer_parts x n) p f.0, f.1, refl)
new_only k s bs r (Err d) p h e = cc

failed_only :
    (k : ℕ) (s : List ℕ) (a : List ℕ) (bs : List (List ℕ)) (r : Response (List ℕ)) (u : Option Failure) →
    Split (41 ∷ []) k s (a ∷ bs) → failure_in a ≡ u → as_failed u ≡ Ok r → Responded k s r
failed_only k s a bs r (Some f) p g e =
    let v = failure_only a f p.3.0 g in
    let z : response.Failed f ≡ r = cc in
    let j : zipped (41 ∷ []) (a ∷ bs) ≡ part 41 (failure_body f) ∷ [] = rw v.0 in
    subst (λ x. Responded k s x) z
    (split_reads (41 ∷ []) k s (a ∷ bs) (part 41 (failure_body f) ∷ []) p j, v.1, refl)
failed_only k s a bs r None p g e = cc

failed_from_only :
    (k : ℕ) (s : List ℕ) (r : Response (List ℕ)) (q : Option (List (List ℕ))) → Octets s → bodies (41 ∷ []) k s ≡ q →
    failed_from q ≡ Ok r → Responded k s r
failed_from_only k s r (Some (a ∷ bs)) o h e =
    failed_only k s a bs r (failure_in a) (bodies_only (41 ∷ []) k s (a ∷ bs) o h) refl e
failed_from_only k s r (Some []) o h e =
    let p = bodies_only (41 ∷ []) k s [] o h in absurd (omega (arith, p.2))
failed_from_only k s r None o h e = cc

new_or_only :
    (k : ℕ) (s : List ℕ) (r : Response (List ℕ)) (q : Option (List (List ℕ))) → Octets s → bodies offer_order k s ≡ q →
    new_or q (failed_from (bodies (41 ∷ []) k s)) ≡ Ok r → Responded k s r
new_or_only k s r (Some bs) o h e = new_only k s bs r (offer_in bs) (bodies_only offer_order k s bs o h) refl e
new_or_only k s r None o h e = failed_from_only k s r (bodies (41 ∷ []) k s) o refl e

response_only :
    (k : ℕ) (s : List ℕ) (r : Response (List ℕ)) → Octets s → response_in k s ≡ Ok r →
    Responded k s r
unfolding response_in
response_only k s r o e = new_or_only k s r (bodies offer_order k s) o refl e

-- a message of the exchange INFORMATIONAL
abbrev informational_parts : Option ℕ → List Part
informational_parts None = []
informational_parts (Some x) = part 42 (delete_body x) ∷ []

abbrev ValidInformational : Option ℕ → Type 0
ValidInformational None = Unit {0}
ValidInformational (Some x) = x < 2 ^ 32

deleting_only :
    (k : ℕ) (s : List ℕ) (a : List ℕ) (bs : List (List ℕ)) (r u : Option ℕ) →
    Split (42 ∷ []) k s (a ∷ bs) → deleted_in a ≡ u → as_deleted u ≡ Ok r →
    Reads k s (informational_parts r) × ValidInformational r
deleting_only k s a bs r (Some x) p g e =
    let v = deleted_only a x p.3.0 g in
    let z : Some x ≡ r = cc in
    let j : zipped (42 ∷ []) (a ∷ bs) ≡ part 42 (delete_body x) ∷ [] = rw v.0 in
    subst (λ y. Reads k s (informational_parts y) × ValidInformational y) z
    (split_reads (42 ∷ []) k s (a ∷ bs) (part 42 (delete_body x) ∷ []) p j, v.1)
deleting_only k s a bs r None p g e = cc

deleted_from_only :
    (k : ℕ) (s : List ℕ) (r : Option ℕ) (q : Option (List (List ℕ))) → Octets s → bodies (42 ∷ []) k s ≡ q →
    deleted_from q ≡ Ok r → Reads k s (informational_parts r) × ValidInformational r
deleted_from_only k s r (Some (a ∷ bs)) o h e =
    deleting_only k s a bs r (deleted_in a) (bodies_only (42 ∷ []) k s (a ∷ bs) o h) refl e
deleted_from_only k s r (Some []) o h e =
    let p = bodies_only (42 ∷ []) k s [] o h in absurd (omega (arith, p.2))
deleted_from_only k s r None o h e = cc

empty_or_only :
    (k : ℕ) (s : List ℕ) (r : Option ℕ) (q : Option (List (List ℕ))) → Octets s → bodies [] k s ≡ q →
    empty_or q (deleted_from (bodies (42 ∷ []) k s)) ≡ Ok r → Reads k s (informational_parts r) × ValidInformational r
empty_or_only k s r (Some bs) o h e =
    let p = bodies_only [] k s bs o h in
    let z : None ≡ r = cc in
    subst (λ y. Reads k s (informational_parts y) × ValidInformational y) z ((p.0, p.1), tt)
empty_or_only k s r None o h e = deleted_from_only k s r (bodies (42 ∷ []) k s) o refl e

informational_only :
    (k : ℕ) (s : List ℕ) (r : Option ℕ) → Octets s → informational_in k s ≡ Ok r →
    Reads k s (informational_parts r) × ValidInformational r
unfolding informational_in
informational_only k s r o e = empty_or_only k s r (bodies [] k s) o refl e

-- the body of a message
abbrev Read : Exchange → Direction → ℕ → List ℕ → Body (List ℕ) → Type 0
Read x d k s b =
    Reads k s (parts_of b) × ValidBody b × (exchange_of b ≡ exchange_number x) × (response_flag b ≡ direction_flag d)

asks_only :
    (k : ℕ) (s : List ℕ) (b : Body (List ℕ)) (q : Result (Request (List ℕ)) DecodeRefusal) → Octets s →
    request_in k s ≡ q → asks q ≡ Ok b → Read CreateChildSa Asking k s b
asks_only k s b (Ok r) o h e =
    let f = request_only k s r o h in
    let z : body.Request r ≡ b = cc in
    subst (λ x. Read CreateChildSa Asking k s x) z (f.0, f.1, f.2, refl)
asks_only k s b (Err d) o h e = cc

answers_only :
    (k : ℕ) (s : List ℕ) (b : Body (List ℕ)) (q : Result (Response (List ℕ)) DecodeRefusal) → Octets s →
    response_in k s ≡ q → answers q ≡ Ok b → Read CreateChildSa Answering k s b
answers_only k s b (Ok r) o h e =
    let f = response_only k s r o h in
    let z : body.Response r ≡ b = cc in
    subst (λ x. Read CreateChildSa Answering k s x) z (f.0, f.1, f.2, refl)
answers_only k s b (Err d) o h e = cc

informs_request_only :
    (k : ℕ) (s : List ℕ) (b : Body (List ℕ)) (q : Result (Option ℕ) DecodeRefusal) → Octets s →
    informational_in k s ≡ q → informs_request q ≡ Ok b → Read Informational Asking k s b
informs_request_only k s b (Ok None) o h e =
    let f = informational_only k s None o h in
    let z : body.Request request.Empty ≡ b = cc in
    subst (λ x. Read Informational Asking k s x) z (f.0, f.1, refl, refl)
informs_request_only k s b (Ok (Some y)) o h e =
    let f = informational_only k s (Some y) o h in
    let z : body.Request (request.Delete y) ≡ b = cc in
    subst (λ x. Read Informational Asking k s x) z (f.0, f.1, refl, refl)
informs_request_only k s b (Err d) o h e = cc

informs_response_only :
    (k : ℕ) (s : List ℕ) (b : Body (List ℕ)) (q : Result (Option ℕ) DecodeRefusal) → Octets s →
    informational_in k s ≡ q → informs_response q ≡ Ok b → Read Informational Answering k s b
informs_response_only k s b (Ok None) o h e =
    let f = informational_only k s None o h in
    let z : body.Response response.Empty ≡ b = cc in
    subst (λ x. Read Informational Answering k s x) z (f.0, f.1, refl, refl)
informs_response_only k s b (Ok (Some y)) o h e =
    let f = informational_only k s (Some y) o h in
    let z : body.Response (response.Delete y) ≡ b = cc in
    subst (λ x. Read Informational Answering k s x) z (f.0, f.1, refl, refl)
informs_response_only k s b (Err d) o h e = cc

body_only :
    (x : Exchange) (d : Direction) (k : ℕ) (s : List ℕ) (b : Body (List ℕ)) → Octets s → body_in x d k s ≡ Ok b →
    Read x d k s b
body_only CreateChildSa Asking k s b o e = asks_only k s b (request_in k s) o refl e
body_only CreateChildSa Answering k s b o e = answers_only k s b (response_in k s) o refl e
body_only Informational Asking k s b o e = informs_request_only k s b (informational_in k s) o refl e
body_only Informational Answering k s b o e = informs_response_only k s b (informational_in k s) o refl e

-- the header
exchange_only : (n : ℕ) (x : Exchange) → exchange_in n ≡ Some x → n ≡ exchange_number x
exchange_only n CreateChildSa e = grind (arith, nat_tests)
exchange_only n Informational e = grind (arith, nat_tests)

flags_only : (n : ℕ) (s : Side) (d : Direction) → flags_in n ≡ Some (flags s d) → n ≡ sender_flag s + direction_flag d
flags_only n A Asking e = grind (arith, nat_tests)
flags_only n B Asking e = grind (arith, nat_tests)
flags_only n A Answering e = grind (arith, nat_tests)
flags_only n B Answering e = grind (arith, nat_tests)

abbrev Headed : List ℕ → Header → Type 0
Headed s h =
    (get_or s 17 0 ≡ 0x20) × (get_or s 18 0 ≡ exchange_number h.exchange)
    × (get_or s 19 0 ≡ flags_octet h.flags) × (h.initiator ≡ long s 0)
    × (h.responder ≡ long s 8) × (h.next ≡ get_or s 16 0) × (h.id ≡ word s 20)

header_from_only :
    (s : List ℕ) (h : Header) (x : Option Exchange) (f : Option Flags) → get_or s 17 0 ≡ 0x20 →
    exchange_in (get_or s 18 0) ≡ x → flags_in (get_or s 19 0) ≡ f → header_from s x f ≡ Some h → Headed s h
header_from_only s h (Some x) (Some f) v g j e =
    let given : Header = record {
      initiator = long s 0;
      responder = long s 8;
      next = get_or s 16 0;
      exchange = x;
      flags = f;
      id = word s 20;
    } in
    let z : given ≡ h = cc in
    subst (λ y. Headed s y) z
    (v, exchange_only (get_or s 18 0) x g, flags_only (get_or s 19 0) f.sender f.direction j, refl, refl, refl, refl)
header_from_only s h (Some x) None v g j e = cc
header_from_only s h None f v g j e = cc

header_only : (s : List ℕ) (h : Header) → header_in s ≡ Some h → Headed s h
unfolding header_in
header_only s h e =
    let x = exchange_in (get_or s 18 0) in
    let f = flags_in (get_or s 19 0) in
    let r = cond_given (eqb (get_or s 17 0) 0x20) (header_from s x f) h e in
    header_from_only s h x f (eqb-true (get_or s 17 0) 0x20 r.0) refl refl r.1

-- octets as the numbers that they are
module _ (s : List ℕ) (o : Octets s) (room : 28 ≤ length s) where
  four_at :
      (i j k l n : ℕ) → drop i s ≡ get_or s i 0 ∷ drop j s → drop j s ≡ get_or s j 0 ∷ drop k s →
      drop k s ≡ get_or s k 0 ∷ drop l s → drop l s ≡ get_or s l 0 ∷ drop n s →
      drop i s ≡ get_or s i 0 ∷ get_or s j 0 ∷ get_or s k 0 ∷ get_or s l 0 ∷ drop n s
  four_at i j k l n a b c d = cc

  quad : (i : ℕ) → i + 4 ≤ 28 → drop i s ≡ get_or s i 0 ∷ get_or s (i + 1) 0 ∷ get_or s (i + 2) 0 ∷ get_or s (i + 3) 0 ∷ drop (i + 4) s
  quad i l =
      let b : drop (i + 1) s ≡ get_or s (i + 1) 0 ∷ drop (i + 2) s =
      drop_more s (i + 1) 0 (omega arith) ∙ ap (λ x. get_or s (i + 1) 0 ∷ drop x s) (omega arith)
      in
      let c : drop (i + 2) s ≡ get_or s (i + 2) 0 ∷ drop (i + 3) s =
      drop_more s (i + 2) 0 (omega arith) ∙ ap (λ x. get_or s (i + 2) 0 ∷ drop x s) (omega arith)
      in
      let d : drop (i + 3) s ≡ get_or s (i + 3) 0 ∷ drop (i + 4) s =
      drop_more s (i + 3) 0 (omega arith) ∙ ap (λ x. get_or s (i + 3) 0 ∷ drop x s) (omega arith)
      in
      four_at i (i + 1) (i + 2) (i + 3) (i + 4) (drop_more s i 0 (omega arith)) b c d

  word_at : (i : ℕ) → i + 4 ≤ 28 → drop i s ≡ be32 (word s i) ++ drop (i + 4) s
  word_at i l =
      let w = be32_word (get_or s i 0) (get_or s (i + 1) 0) (get_or s (i + 2) 0) (get_or s (i + 3) 0) (o i) (o (i + 1)) (o (i + 2)) (o (i + 3)) in
      quad i l ∙ ap (λ x. x ++ drop (i + 4) s) (sym w)

  long_at :
      (i : ℕ) → i + 8 ≤ 28 →
      drop (i + 4) s ≡ get_or s (i + 4) 0 ∷ get_or s (i + 5) 0 ∷ get_or s (i + 6) 0 ∷ get_or s (i + 7) 0 ∷ drop (i + 8) s →
      drop i s ≡ be64 (long s i) ++ drop (i + 8) s
  long_at i l q =
      let w =
      be64_long (get_or s i 0) (get_or s (i + 1) 0) (get_or s (i + 2) 0) (get_or s (i + 3) 0) (get_or s (i + 4) 0) (get_or s (i + 5) 0)
      (get_or s (i + 6) 0) (get_or s (i + 7) 0) (o i) (o (i + 1)) (o (i + 2)) (o (i + 3)) (o (i + 4)) (o (i + 5)) (o (i + 6))
      (o (i + 7))
      in
      (quad i (omega arith) ∙ rw q) ∙ ap (λ x. x ++ drop (i + 8) s) (sym w)

  -- the header and what follows it
  front :
      s
      ≡ be64 (long s 0)
      ++ (be64 (long s 8)
      ++ (get_or s 16 0 ∷ get_or s 17 0 ∷ get_or s 18 0 ∷ get_or s 19 0
      ∷ (be32 (word s 20) ++ (be32 (word s 24) ++ drop 28 s))))
  front =
      let a = long_at 0 (omega arith) (quad 4 (omega arith)) in
      let b = long_at 8 (omega arith) (quad 12 (omega arith)) in
      let c = quad 16 (omega arith) in
      let d = word_at 20 (omega arith) in
      let e = word_at 24 (omega arith) in
      a ∙ ap (λ x. be64 (long s 0) ++ x)
      (b ∙ ap (λ x. be64 (long s 8) ++ x)
      (c ∙ ap (λ x. get_or s 16 0 ∷ get_or s 17 0 ∷ get_or s 18 0 ∷ get_or s 19 0 ∷ x) (d ∙ ap (λ x. be32 (word s 20) ++ x) e)))

-- the octets of a message, part by part
parts_joined :
    (m : Message (List ℕ)) (s rest : List ℕ) (i r n v x f w l : ℕ) →
    s ≡ be64 i ++ (be64 r ++ (n ∷ v ∷ x ∷ f ∷ (be32 w ++ (be32 l ++ rest)))) → m.initiator ≡ i → m.responder ≡ r →
    first_type (parts_of m.body) ≡ n → 0x20 ≡ v → exchange_of m.body ≡ x →
    sender_flag m.sender + response_flag m.body ≡ f → m.id ≡ w → 28 + length (chain (parts_of m.body)) ≡ l →
    chain (parts_of m.body) ≡ rest → octets_of m ≡ s
parts_joined m s rest i r n v x f w l e a b c d g h j k p = rw (a, b, c, g, h, j, k, p) (rw d (sym e))

with_body_only :
    (s : List ℕ) (h : Header) (m : Message (List ℕ)) (q : Result (Body (List ℕ)) DecodeRefusal) → Octets s →
    28 ≤ length s → word s 24 ≡ length s → Headed s h → body_in h.exchange h.flags.direction h.next (drop 28 s) ≡ q →
    with_body h q ≡ Ok m → (octets_of m ≡ s) × Valid m
with_body_only s h m (Ok b) o l w (v, x, f, i, r, n, d) g e =
    let p = body_only h.exchange h.flags.direction h.next (drop 28 s) b (octets_drop 28 s o) g in
    let given : Message (List ℕ) = record {
      initiator = h.initiator;
      responder = h.responder;
      sender = h.flags.sender;
      id = h.id;
      body = b;
    } in
    let z : given ≡ m = cc in
    let c = p.0.0 in
    let k : 28 + length (chain (parts_of b)) ≡ word s 24 = omega (arith, ap length c, length-drop 28 s) in
    let fl : sender_flag h.flags.sender + response_flag b ≡ get_or s 19 0 = rw p.3 (sym f) in
    let joined =
    parts_joined given s (drop 28 s) (long s 0) (long s 8) (get_or s 16 0) (get_or s 17 0) (get_or s 18 0) (get_or s 19 0) (word s 20)
    (word s 24) (front s o l) i r (sym p.0.1 ∙ n) (sym v) (p.2 ∙ sym x) fl d k (sym c)
    in
    subst (λ y. (octets_of y ≡ s) × Valid y) z (
      joined,
      record {
        initiator = omega (arith, i, long_fits s 0 o);
        responder = omega (arith, r, long_fits s 8 o);
        id = omega (arith, d, word_fits s 20 o);
        body = p.1;
      },
    )
with_body_only s h m (Err d) o l w k g e = cc

with_header_only :
    (s : List ℕ) (m : Message (List ℕ)) (q : Option Header) → Octets s → sized s ≡ true → header_in s ≡ q →
    with_header q s ≡ Ok m → (octets_of m ≡ s) × Valid m
with_header_only s m (Some h) o t g e =
    let a = and_parts _ _ t in
    let b = and_parts _ _ a.1 in
    with_body_only s h m (body_in h.exchange h.flags.direction h.next (drop 28 s)) o (leb-true 28 (length s) a.0)
    (eqb-true (word s 24) (length s) b.1) (header_only s h g) refl e
with_header_only s m None o t g e = cc

pub message_only : (s : List ℕ) (m : Message (List ℕ)) → Octets s → decoded s ≡ Ok m → (octets_of m ≡ s) × Valid m
unfolding decoded
message_only s m o e =
    let r = cond_passed (sized s) (with_header (header_in s) s) refusal.Length m e in
    with_header_only s m (header_in s) o r.0 refl r.1

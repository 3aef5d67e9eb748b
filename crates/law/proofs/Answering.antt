-- What an end answers to a request, its node answers too.
use Rattle.std.proofs.Common.{◌≡◌, ℕ, suc, ◌^◌, ◌<◌, Bool, true, false, cond, ◌||◌, eqb, leb, List, length, is_some, Some, None, Option, sym, refl, ap, ◌∙◌, subst, arith}
use Rattle.std.proofs.lemmas.Bool.{cond-false, ne_eqb, leb-false, or_parts}
use Rattle.std.proofs.lemmas.Bool.Decides.{nat_tests}
use Rattle.nonce.specs.Nonces.{nonce_long}
use Rattle.nonce.specs.Spis.{last_reserved}
use Rattle.book.specs.Rows.{kept, kept_octets}
use Rattle.book.specs.Shelves as shelf
use Rattle.book.specs.Shelves.{Shelf, Rising, has}
use Rattle.book.proofs.Lookups.{length_replace, rising_insert}
use Rattle.book.proofs.Changes.{put_done}
use Rattle.book.proofs.Firsts.{above_start}
use Rattle.book.specs.declared.row.Row.{Row}
use Rattle.book.specs.declared.row.RowState.{RowState}
use Rattle.book.specs.declared.row.RowState.TheVariants as state
use Rattle.wire.specs.declared.message.Failure.TheVariants.{NoProposalChosen, NoAdditionalSas, TemporaryFailure, ChildSaNotFound}
use Rattle.wire.specs.declared.message.Request.{Request}
use Rattle.wire.specs.declared.message.Request.TheVariants as request
use Rattle.wire.specs.declared.message.Response.{Response}
use Rattle.wire.specs.declared.message.Response.TheVariants as response
use Rattle.protocol.specs.Model.{Seed, Cell, live, fresh, standing, superseded, born, plain, Coll, met, Ask, create, rekey, delete, check}
use Rattle.protocol.specs.Node as nodes
use Rattle.protocol.specs.Node.{Bar, unusable, no_more, Out, idle, asked, Node}
use Rattle.protocol.specs.Rows.{Line, insert, remove, calm_lines, Found, nowhere, at, find}
use Rattle.line.specs.Calls as calls
use Rattle.law.specs.Ends.{End, Outstanding, Collision, is_spent, response_octets}
use Rattle.law.specs.Asks.{Doing}
use Rattle.law.specs.Rows.{none, fresh_row, in_state, calm_shelf, with_row, rewritten, without}
use Rattle.law.specs.Requests as requests
use Rattle.law.specs.Requests.{found, answered}
use Rattle.law.proofs.Cells.{sa_of, cell_of, lines, lines_calm, lines_insert, lines_find, found_by, found_as}
use Rattle.law.proofs.Dropping.{lines_without, rising_without, below_without, begun_without}
use Rattle.law.proofs.Finding.{Shows, found_shows, Ready, shows_ready}
use Rattle.law.proofs.Asking.{kept_back, write_new, lines_rewritten, rising_rewritten, below_rewritten, begun_rewritten}
use Rattle.law.proofs.Tied.{is_a, node, OutTied, Tied, SameName, Below, RowBegun, Begun, below_absent, below_more, below_insert, below_calm, begun_insert, begun_calm, rising_calm}

pair_back :
    (a b : List ℕ) → nonce_long a ≡ true → nonce_long b ≡ true →
    ◌≡◌ {A = List ℕ × List ℕ} (kept_octets (kept a), kept_octets (kept b)) (a, b)
pair_back a b i k = rw (kept_back a i, kept_back b k)

unspent_by : (n : ℕ) → is_spent n ≡ false → n < 2 ^ 32
unspent_by n h = grind (arith, nat_tests)

-- what an answer is of the node
pub record Answers (e : End) (said : Option (Response (List ℕ))) (busy : Out) (n : List ℕ) (q : Request (List ℕ)) (d : Doing) : Type 0 where
  pub bar : Option Bar
  pub reply : Response (List ℕ)
  pub after : Out
  pub spare : bar ≡ None → e.spi < 2 ^ 32
  pub does : node d.end (Some reply) after ≡ calls.answer_wire (node e said busy) n bar q
  pub says : d.says ≡ response_octets e e.expected reply
  pub tied : Tied d.end (Some reply) after
  pub same : SameName e d.end

-- the peer's rekey of a row is recorded in an own rekey of it, and noted there
noted_rekey :
    (e : End) (o : Outstanding) (id k : ℕ) (d : Seed) (c : Coll) (b : Bool) (j : ℕ) (i r : List ℕ) → OutTied e (Some o) (asked id (rekey k d c)) →
    OutTied e (Some (cond b (requests.recorded_in o (record { initiator = i; responder = r })) o)) (asked id (rekey k d (cond b (met j i r) c)))
noted_rekey e o id k d c true j i r t = (t.0, (t.1.0, t.1.1, t.1.2, (refl, refl)), t.2)
noted_rekey e o id k d c false j i r t = t

-- a request that is no rekey records nothing
unrecorded :
    (e : End) (o : Outstanding) (busy : Out) (q : ℕ) (c : Collision) → requests.rekeys o.kind o.old q ≡ false → OutTied e (Some o) busy →
    OutTied e (requests.recorded (Some o) q c) busy
unrecorded e o busy q c h t = subst (λ y. OutTied e (Some y) busy) (sym (cond-false _ (requests.recorded_in o c) o h)) t

noted_ask :
    (e : End) (o : Outstanding) (id : ℕ) (a : Ask) (q j : ℕ) (i r : List ℕ) → OutTied e (Some o) (asked id a) →
    OutTied e (requests.recorded (Some o) q (record { initiator = i; responder = r })) (nodes.noted_out q j i r (asked id a))
noted_ask e o id (create k d) q j i r t = unrecorded e o (asked id (create k d)) q _ (ap (λ y. requests.rekeys y o.old q) t.1.0) t
noted_ask e o id (rekey k d c) q j i r t =
    let h : requests.rekeys o.kind o.old q ≡ eqb d.po q =
    ap (λ y. requests.rekeys y o.old q) t.1.0 ∙ ap (λ y. eqb y q) t.1.2
    in
    rw h (noted_rekey e o id k d c (eqb d.po q) j i r t)
noted_ask e o id (delete x) q j i r t = unrecorded e o (asked id (delete x)) q _ (ap (λ y. requests.rekeys y o.old q) t.1.0) t
noted_ask e o id check q j i r t = unrecorded e o (asked id check) q _ (ap (λ y. requests.rekeys y o.old q) t.1) t

noted_tied :
    (e : End) (o : Option Outstanding) (busy : Out) (q j : ℕ) (i r : List ℕ) → OutTied e o busy →
    OutTied e (requests.recorded o q (record { initiator = i; responder = r })) (nodes.noted_out q j i r busy)
noted_tied e None idle q j i r t = t
noted_tied e None (asked id a) q j i r t = t
noted_tied e (Some o) idle q j i r t = t
noted_tied e (Some o) (asked id a) q j i r t = noted_ask e o id a q j i r t

-- the lines of rows with one more
put_lines :
    (rs : List Row) (x : Row) (k : ℕ) (c : Cell) (ls : List Line) → has rs x.own ≡ false → x.own ≡ k → cell_of x ≡ c → lines rs ≡ ls →
    lines (shelf.insert rs x) ≡ insert k c ls
put_lines rs x k c ls absent own cell l =
    lines_insert rs x absent ∙ ap (λ j. insert j (cell_of x) (lines rs)) own ∙ ap (λ y. insert k y (lines rs)) cell ∙ ap (insert k c) l

-- an answer that leaves these rows and the request as it is
module _ (e : End) (said : Option (Response (List ℕ))) (busy : Out) (n : List ℕ) (t : Tied e said busy) where
  says_answers :
      (q : Request (List ℕ)) (s : Shelf) (r : Response (List ℕ)) (bar : Option Bar) (ls : List Line) →
      (bar ≡ None → e.spi < 2 ^ 32) → lines s.rows ≡ ls → Rising last_reserved s.rows → Below e.spi s.rows →
      Begun s.rows → nodes.replying (node e said busy) r ls e.spi ≡ calls.answer_wire (node e said busy) n bar q →
      Answers e said busy n q (requests.says_only e s r)
  says_answers q s r bar ls spare l rising below begun h = record {
    bar = bar;
    reply = r;
    after = busy;
    spare = spare;
    does = ap (λ y. nodes.replying (node e said busy) r y e.spi) l ∙ h;
    says = refl;
    tied = record { reply = (e.expected, refl, refl); out = t.out; rising = rising; below = below; begun = begun; least = t.least };
    same = record { side = refl; initiator = refl; responder = refl };
  }

  -- an empty request
  empty_answers : Answers e said busy n request.Empty (answered e n request.Empty)
  unfolding answered
  empty_answers =
      says_answers request.Empty (calm_shelf e.shelf) response.Empty (Some no_more) (calm_lines (lines e.shelf.rows))
      (λ y. let z : ◌≡◌ {A = ℕ} 0 1 = cc in absurd (omega arith)) (lines_calm e.shelf.rows) (rising_calm last_reserved e.shelf.rows t.rising)
      (below_calm e.spi e.shelf.rows t.below) (begun_calm e.shelf.rows t.begun) refl

  -- the book once Fresh rows are Standing
  abbrev calmer : Shelf
  calmer = calm_shelf e.shelf

  calm_rising : Rising last_reserved calmer.rows
  calm_rising = rising_calm last_reserved e.shelf.rows t.rising

  calm_below : Below e.spi calmer.rows
  calm_below = below_calm e.spi e.shelf.rows t.below

  calm_begun : Begun calmer.rows
  calm_begun = begun_calm e.shelf.rows t.begun

  -- a new SA, for which there is room: these rows, and the request as it is then
  making_answers :
      (q : Request (List ℕ)) (s : Shelf) (x : Row) (o : Option Outstanding) (after : Out) (d : Seed) (peer : ℕ) (ls : List Line) →
      x.own ≡ e.spi → cell_of x ≡ live fresh (born peer d n) → RowBegun x → Rising last_reserved s.rows → Below e.spi s.rows →
      Begun s.rows → requests.no_more e s ≡ false → lines s.rows ≡ ls → OutTied e o after →
      nodes.making (node e said busy) ls peer d n after ≡ calls.answer_wire (node e said busy) n None q →
      Answers e said busy n q (requests.says e (with_row s x) (suc e.spi) o (response.NewSa e.spi n))
  making_answers q s x o after d peer ls own cell new rising below begun room l out h =
      let r = or_parts _ _ room in
      let spare : e.spi < 2 ^ 32 = unspent_by e.spi r.1 in
      let few : length s.rows < s.most = leb-false _ _ r.0 in
      let absent : has s.rows x.own ≡ false = rw own (below_absent e.spi s.rows below) in
      let put : (with_row s x).rows ≡ shelf.insert s.rows x = ap (λ p. p.1.rows) (put_done s x (omega (arith, own, t.least)) absent few) in
      let m : lines (with_row s x).rows ≡ insert e.spi (live fresh (born peer d n)) ls =
      ap lines put ∙ put_lines s.rows x e.spi (live fresh (born peer d n)) ls absent own cell l
      in
      record {
        bar = None;
        reply = response.NewSa e.spi n;
        after = after;
        spare = λ y. spare;
        does = ap (λ y. record {
          first = is_a e.side;
          rows = y;
          spi = suc e.spi;
          next = e.next;
          exp = suc e.expected;
          reply = Some (response.NewSa e.spi n);
          out = after;
        }) m ∙ h;
        says = refl;
        tied = record {
          reply = (e.expected, refl, refl);
          out = out;
          rising = rw put (rising_insert last_reserved s.rows x (omega (arith, own, t.least)) absent rising);
          below =
              rw put
              (below_insert (suc e.spi) s.rows x (omega (arith, own)) (below_more e.spi (suc e.spi) s.rows (omega arith) below));
          begun = rw put (begun_insert s.rows x new begun);
          least = omega (arith, t.least);
        };
        same = record { side = refl; initiator = refl; responder = refl };
      }

  absurd_bar : (b : Bar) → Some b ≡ None → e.spi < 2 ^ 32
  absurd_bar b y = let z : ◌≡◌ {A = ℕ} 0 1 = cc in absurd (omega arith)

  calm_lined : lines calmer.rows ≡ calm_lines (lines e.shelf.rows)
  calm_lined = lines_calm e.shelf.rows

  -- a create
  create_by :
      (peer : ℕ) (ni : List ℕ) (a b : Bool) → nonce_long ni ≡ true → nonce_long n ≡ true →
      requests.no_more e calmer ≡ b →
      Answers e said busy n (request.Create peer ni)
      (cond a (requests.says_only e calmer (response.Failed NoProposalChosen))
      (cond b (requests.says_only e calmer (response.Failed NoAdditionalSas))
      (requests.making e calmer peer ni n none e.outstanding)))
  create_by peer ni true b i k m =
      says_answers (request.Create peer ni) calmer (response.Failed NoProposalChosen) (Some unusable) _ (absurd_bar unusable) calm_lined
      calm_rising calm_below calm_begun refl
  create_by peer ni false true i k m =
      says_answers (request.Create peer ni) calmer (response.Failed NoAdditionalSas) (Some no_more) _ (absurd_bar no_more) calm_lined
      calm_rising calm_below calm_begun refl
  create_by peer ni false false i k m =
      making_answers (request.Create peer ni) calmer (fresh_row e.spi peer none ni n) e.outstanding busy (plain ni) peer _ refl
      (ap (λ p. live fresh (born peer (plain p.0) p.1)) (pair_back ni n i k)) tt calm_rising calm_below calm_begun m calm_lined t.out refl

  create_answers :
      (peer : ℕ) (ni : List ℕ) → nonce_long ni ≡ true → nonce_long n ≡ true →
      Answers e said busy n (request.Create peer ni) (answered e n (request.Create peer ni))
  unfolding answered
  create_answers peer ni i k =
      create_by peer ni (requests.unusable calmer.rows peer) (requests.no_more e calmer) i k refl

  -- what the node finds by a peer SPI
  node_finds : (p : ℕ) (f : Option Row) → found calmer.rows p ≡ f → find p (calm_lines (lines e.shelf.rows)) ≡ found_as f
  node_finds p f h = ap (find p) (sym calm_lined) ∙ lines_find last_reserved calmer.rows p calm_rising ∙ ap found_as h

  -- a delete, by the state of the row
  abbrev deleted : Found → Node
  deleted f = nodes.answer_delete (node e said busy) (calm_lines (lines e.shelf.rows)) f

  -- the row goes
  delete_drops :
      (p : ℕ) (r : Row) (f : Found) → find p (calm_lines (lines e.shelf.rows)) ≡ f →
      nodes.replying (node e said busy) (response.Delete r.own) (remove r.own (calm_lines (lines e.shelf.rows))) e.spi ≡ deleted f →
      Answers e said busy n (request.Delete p) (requests.says_only e (without calmer r.own) (response.Delete r.own))
  delete_drops p r f z h =
      says_answers (request.Delete p) (without calmer r.own) (response.Delete r.own) (Some no_more) _ (absurd_bar no_more)
      (lines_without calmer r.own ∙ ap (remove r.own) calm_lined) (rising_without calmer r.own calm_rising)
      (below_without calmer r.own e.spi calm_below) (begun_without calmer r.own calm_begun) (h ∙ ap deleted (sym z))

  -- nothing goes
  delete_stays :
      (p : ℕ) (f : Found) → find p (calm_lines (lines e.shelf.rows)) ≡ f →
      nodes.replying (node e said busy) response.Empty (calm_lines (lines e.shelf.rows)) e.spi ≡ deleted f →
      Answers e said busy n (request.Delete p) (requests.says_only e calmer response.Empty)
  delete_stays p f z h =
      says_answers (request.Delete p) calmer response.Empty (Some no_more) _ (absurd_bar no_more) calm_lined calm_rising calm_below
      calm_begun (h ∙ ap deleted (sym z))

  delete_row :
      (p : ℕ) (r : Row) (s : RowState) → Ready s → find p (calm_lines (lines e.shelf.rows)) ≡ found_by s r →
      Answers e said busy n (request.Delete p)
      (requests.delete_by_state s (requests.says_only e calmer response.Empty)
      (requests.says_only e (without calmer r.own) (response.Delete r.own)))
  delete_row p r state.Opening y z = absurd y
  delete_row p r state.Fresh y z = absurd y
  delete_row p r state.Standing y z = delete_drops p r _ z refl
  delete_row p r state.Superseded y z = delete_drops p r _ z refl
  delete_row p r state.Closing y z = delete_stays p _ z refl

  delete_by : (p : ℕ) (f : Option Row) → found calmer.rows p ≡ f → Answers e said busy n (request.Delete p) (requests.delete_found e calmer f)
  delete_by p None h = delete_stays p nowhere (node_finds p None h) refl
  delete_by p (Some r) h =
      delete_row p r r.state (shows_ready e.shelf.rows p r (found_shows calmer.rows p r calm_rising h)) (node_finds p (Some r) h)

  delete_answers : (p : ℕ) → Answers e said busy n (request.Delete p) (answered e n (request.Delete p))
  unfolding answered
  delete_answers p = delete_by p (found calmer.rows p) refl

  -- a rekey, by what is found
  abbrev rekeyed : ℕ → ℕ → List ℕ → Option Bar → Found → Node
  rekeyed old peer ni bar f =
      nodes.answer_rekey (node e said busy) (calm_lines (lines e.shelf.rows)) peer (calls.seed_of old (calls.key_of f) ni) n bar f

  -- it is refused, and nothing changes
  rekey_stays :
      (old peer : ℕ) (ni : List ℕ) (r : Response (List ℕ)) (w : Bar) (f : Found) → find old (calm_lines (lines e.shelf.rows)) ≡ f →
      nodes.replying (node e said busy) r (calm_lines (lines e.shelf.rows)) e.spi ≡ rekeyed old peer ni (Some w) f →
      Answers e said busy n (request.Rekey old peer ni) (requests.says_only e calmer r)
  rekey_stays old peer ni r w f z h =
      says_answers (request.Rekey old peer ni) calmer r (Some w) _ (absurd_bar w) calm_lined calm_rising calm_below calm_begun
      (h ∙ ap (rekeyed old peer ni (Some w)) (sym z))

  -- the row r, which is Standing, is superseded
  rekey_makes :
      (old peer : ℕ) (ni : List ℕ) (r : Row) → nonce_long ni ≡ true → nonce_long n ≡ true → Shows calmer.rows old r →
      find old (calm_lines (lines e.shelf.rows)) ≡ at r.own standing (sa_of r) → requests.no_more e calmer ≡ false →
      Answers e said busy n (request.Rekey old peer ni) (requests.superseding e calmer peer ni n r)
  rekey_makes old peer ni r i k y z m =
      let x = in_state state.Superseded r in
      let here : has calmer.rows x.own ≡ true = ap is_some y.here in
      let above : last_reserved < r.own = above_start last_reserved calmer.rows r.own r calm_rising y.here in
      let heir : eqb r.own 0 ≡ false = ne_eqb r.own 0 (λ w. omega arith) in
      let room : requests.no_more e (rewritten calmer x) ≡ false =
      ap (requests.no_more e) (write_new calmer x calm_rising here)
      ∙ ap (λ l. leb calmer.most l || is_spent e.spi) (length_replace calmer.rows x) ∙ m
      in
      making_answers (request.Rekey old peer ni) (rewritten calmer x)
      (fresh_row e.spi peer (record { own = r.own; peer = r.peer }) ni n)
      (requests.recorded e.outstanding r.own (record { initiator = ni; responder = n }))
      (nodes.noted_out r.own e.spi ni n busy) (calls.seed_of old r.own ni) peer
      (insert r.own (live superseded (sa_of r)) (calm_lines (lines e.shelf.rows))) refl
      (rw (heir, y.peer, kept_back ni i, kept_back n k)) tt (rising_rewritten calmer x calm_rising here)
      (below_rewritten calmer x calm_rising here e.spi calm_below) (begun_rewritten calmer x calm_rising here tt calm_begun) room
      (lines_rewritten calmer x calm_rising here ∙ ap (insert r.own (live superseded (sa_of r))) calm_lined)
      (noted_tied e e.outstanding busy r.own e.spi ni n t.out) (ap (rekeyed old peer ni None) (sym z))

  rekey_standing :
      (old peer : ℕ) (ni : List ℕ) (r : Row) (a b : Bool) → nonce_long ni ≡ true → nonce_long n ≡ true → Shows calmer.rows old r →
      find old (calm_lines (lines e.shelf.rows)) ≡ at r.own standing (sa_of r) → requests.no_more e calmer ≡ b →
      Answers e said busy n (request.Rekey old peer ni)
      (cond a (requests.says_only e calmer (response.Failed NoProposalChosen))
      (cond b (requests.says_only e calmer (response.Failed NoAdditionalSas)) (requests.superseding e calmer peer ni n r)))
  rekey_standing old peer ni r true b i k y z m = rekey_stays old peer ni (response.Failed NoProposalChosen) unusable _ z refl
  rekey_standing old peer ni r false true i k y z m = rekey_stays old peer ni (response.Failed NoAdditionalSas) no_more _ z refl
  rekey_standing old peer ni r false false i k y z m = rekey_makes old peer ni r i k y z m

  rekey_row :
      (old peer : ℕ) (ni : List ℕ) (r : Row) (s : RowState) → nonce_long ni ≡ true → nonce_long n ≡ true → Shows calmer.rows old r →
      Ready s → find old (calm_lines (lines e.shelf.rows)) ≡ found_by s r →
      Answers e said busy n (request.Rekey old peer ni)
      (requests.rekey_by_state s (requests.says_only e calmer (response.Failed TemporaryFailure)) (requests.rekey_of e calmer peer ni n r))
  rekey_row old peer ni r state.Opening i k y c z = absurd c
  rekey_row old peer ni r state.Fresh i k y c z = absurd c
  rekey_row old peer ni r state.Standing i k y c z =
      rekey_standing old peer ni r (requests.unusable calmer.rows peer) (requests.no_more e calmer) i k y z refl
  rekey_row old peer ni r state.Superseded i k y c z = rekey_stays old peer ni (response.Failed TemporaryFailure) no_more _ z refl
  rekey_row old peer ni r state.Closing i k y c z = rekey_stays old peer ni (response.Failed TemporaryFailure) no_more _ z refl

  rekey_by :
      (old peer : ℕ) (ni : List ℕ) (f : Option Row) → nonce_long ni ≡ true → nonce_long n ≡ true → found calmer.rows old ≡ f →
      Answers e said busy n (request.Rekey old peer ni) (requests.rekey_found e calmer old peer ni n f)
  rekey_by old peer ni None i k h =
      rekey_stays old peer ni (response.Failed (ChildSaNotFound old)) no_more nowhere (node_finds old None h) refl
  rekey_by old peer ni (Some r) i k h =
      let y = found_shows calmer.rows old r calm_rising h in
      rekey_row old peer ni r r.state i k y (shows_ready e.shelf.rows old r y) (node_finds old (Some r) h)

  rekey_answers :
      (old peer : ℕ) (ni : List ℕ) → nonce_long ni ≡ true → nonce_long n ≡ true →
      Answers e said busy n (request.Rekey old peer ni) (answered e n (request.Rekey old peer ni))
  unfolding answered
  rekey_answers old peer ni i k = rekey_by old peer ni (found calmer.rows old) i k refl

-- the nonce of a request has the length of one
abbrev pub NonceFine : Request (List ℕ) → Type 0
NonceFine (request.Create peer ni) = nonce_long ni ≡ true
NonceFine (request.Rekey old peer ni) = nonce_long ni ≡ true
NonceFine (request.Delete peer) = Unit {0}
NonceFine request.Empty = Unit {0}

pub answers :
    (e : End) (said : Option (Response (List ℕ))) (busy : Out) (n : List ℕ) → Tied e said busy → (q : Request (List ℕ)) →
    nonce_long n ≡ true → NonceFine q → Answers e said busy n q (answered e n q)
answers e said busy n t (request.Create peer ni) k i = create_answers e said busy n t peer ni i k
answers e said busy n t (request.Rekey old peer ni) k i = rekey_answers e said busy n t old peer ni i k
answers e said busy n t (request.Delete peer) k i = delete_answers e said busy n t peer
answers e said busy n t request.Empty k i = empty_answers e said busy n t

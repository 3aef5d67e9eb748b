-- Every run of two ends is a run of their nodes.
use Rattle.std.proofs.Common.{◌≡◌, ℕ, ◌^◌, ◌<◌, false, List, [], ◌∷◌, Some, None, Option, sym, refl, ap, ◌∙◌, subst, inl, inr, ⊎_elim, arith}
use Rattle.nonce.specs.declared.side.Side.{Side}
use Rattle.nonce.specs.declared.side.Side.TheVariants.{A, B}
use Rattle.nonce.specs.Sides.{other}
use Rattle.book.specs.Rows.{is_opening}
use Rattle.book.specs.Shelves as shelf
use Rattle.book.specs.declared.row.Beginner.{Beginner}
use Rattle.book.specs.declared.row.Beginner.TheVariants.{ThisEnd, Peer}
use Rattle.book.specs.declared.row.Row.{Row}
use Rattle.book.specs.declared.row.RowState.{RowState}
use Rattle.book.specs.declared.row.RowState.TheVariants as state
use Rattle.channel.specs.Behaviour.{Behaviour}
use Rattle.calls.specs.declared.answers.Answer.{Answer}
use Rattle.calls.specs.declared.moves.Move.{Move}
use Rattle.wire.specs.declared.message.Response.{Response}
use Rattle.protocol.specs.Model.{St, fresh, standing, superseded, closing, Sa, live}
use Rattle.protocol.specs.Node.{Out, Node}
use Rattle.protocol.specs.Rows.{lookup}
use Rattle.line.specs.Calls.{Coding, Msg, Good}
use Rattle.line.specs.Codes.{code}
use Rattle.line.specs.Ghosts.{Has}
use Rattle.line.specs.History as line_history
use Rattle.line.specs.Line.{Line}
use Rattle.line.specs.World as line
use Rattle.line.proofs.Codes.{coding}
use Rattle.line.proofs.Runs.{Alive, step_alive}
use Rattle.line.proofs.Tidy.{tidy_alive}
use Rattle.law.specs.Ends.{End}
use Rattle.law.specs.Runs.{World, at, Called, Step, Run, ever}
use Rattle.law.specs.Laws.{MadeAt}
use Rattle.law.proofs.Calling.{call_of, answer_of}
use Rattle.law.proofs.Cells.{is_mine, sa_of, cell_by, cell_of, cell_in, lines, lines_lookup}
use Rattle.law.proofs.Sending.{Named}
use Rattle.law.proofs.Simulated.{called_does}
use Rattle.law.proofs.Tied.{node, Tied, RowBegun, all_lookup, theirs_made}

abbrev pub move_of : Move (List ℕ) → line.Move
move_of m = record { side = m.side; call = call_of m.call }

abbrev pub moves_of : List (Move (List ℕ)) → List line.Move
moves_of [] = []
moves_of (m ∷ ms) = move_of m ∷ moves_of ms

abbrev pub answers_of : List Answer → List line.Answer
answers_of [] = []
answers_of (r ∷ rs) = answer_of r ∷ answers_of rs

-- a row that is not Opening, and its cell
live_by : (s : RowState) (y : Row) → is_opening s ≡ false → (t : St) × (cell_by s y ≡ live t (sa_of y))
live_by state.Opening y h = let z : ◌≡◌ {A = ℕ} 0 1 = cc in absurd (omega arith)
live_by state.Fresh y h = (fresh, refl)
live_by state.Standing y h = (standing, refl)
live_by state.Superseded y h = (superseded, refl)
live_by state.Closing y h = (closing, refl)

pub live_cell : (y : Row) → is_opening y.state ≡ false → (t : St) × (cell_of y ≡ live t (sa_of y))
live_cell y h = live_by y.state y h

row_by : (s : RowState) (y : Row) (t : St) (z : Sa) → cell_by s y ≡ live t z → (is_opening s ≡ false) × (sa_of y ≡ z)
row_by state.Opening y t z h = let k : ◌≡◌ {A = ℕ} 0 1 = cc in absurd (omega arith)
row_by state.Fresh y t z h = (refl, cc)
row_by state.Standing y t z h = (refl, cc)
row_by state.Superseded y t z h = (refl, cc)
row_by state.Closing y t z h = (refl, cc)

-- the row of a cell of an SA
pub record RowOf (q : Option Row) (z : Sa) : Type 0 where
  pub row : Row
  pub is : q ≡ Some row
  pub made : is_opening row.state ≡ false
  pub sa : sa_of row ≡ z

row_in : (q : Option Row) (t : St) (z : Sa) → cell_in q ≡ Some (live t z) → RowOf q z
row_in None t z h = let k : ◌≡◌ {A = ℕ} 0 1 = cc in absurd (omega arith)
row_in (Some y) t z h = let p = row_by y.state y t z cc in record { row = y; is = refl; made = p.0; sa = p.1 }

pub row_live : (rs : List Row) (k : ℕ) (t : St) (z : Sa) → lookup (lines rs) k ≡ Some (live t z) → RowOf (shelf.lookup rs k) z
row_live rs k t z h = row_in (shelf.lookup rs k) t z (sym (lines_lookup rs k) ∙ h)

pub line_live : (rs : List Row) (k : ℕ) (y : Row) → shelf.lookup rs k ≡ Some y → is_opening y.state ≡ false → (t : St) × (lookup (lines rs) k ≡ Some (live t (sa_of y)))
line_live rs k y h m =
    let p = live_cell y m in (p.0, lines_lookup rs k ∙ ap cell_in h ∙ ap (λ c. Some c) p.1)

theirs : (b : Beginner) → is_mine b ≡ false → b ≡ Peer
theirs ThisEnd h = let k : ◌≡◌ {A = ℕ} 0 1 = cc in absurd (omega arith)
theirs Peer h = refl

-- the nodes of two ends, by their replies and requests
pub record Ties {C : Type 0} (i r : ℕ) (v : World C) : Type 0 where
  pub said_a : Option (Response (List ℕ))
  pub busy_a : Out
  pub said_b : Option (Response (List ℕ))
  pub busy_b : Out
  pub tied_a : Tied v.a said_a busy_a
  pub tied_b : Tied v.b said_b busy_b
  pub named_a : Named i r A v.a
  pub named_b : Named i r B v.b

abbrev pub image : {C : Type 0} {i r : ℕ} (v : World C) → Ties i r v → line.World C
image v x = record { a = node v.a x.said_a x.busy_a; b = node v.b x.said_b x.busy_b; ch = v.channel }

abbrev pub node_at : {C : Type 0} → Side → line.World C → Node
node_at A w = w.a
node_at B w = w.b

-- what an end made for its peer, its node has
to_has : (e : End) (said : Option (Response (List ℕ))) (busy : Out) → Tied e said busy → (k : ℕ) (y : Row) → shelf.lookup e.shelf.rows k ≡ Some y → y.began ≡ Peer → Has (node e said busy) k (sa_of y)
to_has e said busy t k y h b =
    let m = theirs_made y.state y.began (all_lookup RowBegun e.shelf.rows k y t.begun h) b in
    let p = line_live e.shelf.rows k y h m in record { st = p.0; row = p.1; theirs = ap is_mine b }

module _ {C : Type 0} (i r : ℕ) (v : World C) (x : Ties i r v) where
  pub made_has : (s : Side) (k : ℕ) (y : Row) → MadeAt s k y v → Has (node_at s (image v x)) k (sa_of y)
  made_has A k y h = to_has v.a x.said_a x.busy_a x.tied_a k y h.row h.began
  made_has B k y h = to_has v.b x.said_b x.busy_b x.tied_b k y h.row h.began

  from_has :
      (s : Side) (k : ℕ) (z : Sa) (t : St) → lookup (lines (at s v).shelf.rows) k ≡ Some (live t z) → z.mine ≡ false →
      (y : Row) × MadeAt s k y v × (sa_of y ≡ z)
  from_has s k z t h m =
      let p = row_live (at s v).shelf.rows k t z h in (
        p.row,
        record { row = p.is; began = theirs p.row.began (ap (λ (w : Sa). w.mine) p.sa ∙ m) },
        p.sa,
      )

  pub has_made : (s : Side) (k : ℕ) (z : Sa) → Has (node_at s (image v x)) k z → (y : Row) × MadeAt s k y v × (sa_of y ≡ z)
  has_made A k z h = from_has A k z h.st h.row h.theirs
  has_made B k z h = from_has B k z h.st h.row h.theirs

module _ {C : Type 0} (behaviour : Behaviour C) (i r : ℕ) (fits_i : i < 2 ^ 64) (fits_r : r < 2 ^ 64) where
  abbrev K : Coding
  K = coding i r fits_i fits_r

  abbrev Anyhow : Side → ℕ → Type 0
  Anyhow s k = Unit {0}

  encoded : (s : Side) (P Q : Node) (may : List ℕ → Type 0) → Line K s P Q may → (d : List ℕ) → may d → (m : Msg) × (d ≡ code i r s m) × Good K m
  encoded s P Q may l d h = let z = l d h in (z.0, z.1, z.3)

  -- one call more
  pub step_follows :
      (us : List (line.World C)) (v : World C) (x : Ties i r v) (m : Move (List ℕ)) (a : Answer) (w : World C) → Alive K behaviour.meaning Anyhow us (image v x) →
      (s : Side) → m.side ≡ s → Step behaviour v m a w → (y : Ties i r w) × line.StepOn K behaviour.meaning s (image v x) (call_of m.call) (answer_of a) (image w y)
  step_follows us v x m a w l A e h =
      let g = subst (λ s. Called behaviour (at s v) v.channel m.call a (at s w) w.channel) e h.this in
      let d =
      called_does behaviour i r fits_i fits_r A v.a x.said_a x.busy_a x.named_a x.tied_a (tidy_alive K behaviour.meaning Anyhow us (image v x) l).0
      v.channel w.channel w.a (encoded B (image v x).b (image v x).a ((behaviour.meaning v.channel).may A) l.between.from_q) m.call a g
      in
      let b : w.b ≡ v.b = subst (λ s. at (other s) w ≡ at (other s) v) e h.that in (
        record {
          said_a = d.said;
          busy_a = d.busy;
          said_b = x.said_b;
          busy_b = x.busy_b;
          tied_a = d.tied;
          tied_b = subst (λ f. Tied f x.said_b x.busy_b) (sym b) x.tied_b;
          named_a = d.named;
          named_b = subst (Named i r B) (sym b) x.named_b;
        },
        record { this = d.does; that = ap (λ f. node f x.said_b x.busy_b) b },
      )
  step_follows us v x m a w l B e h =
      let g = subst (λ s. Called behaviour (at s v) v.channel m.call a (at s w) w.channel) e h.this in
      let d =
      called_does behaviour i r fits_i fits_r B v.b x.said_b x.busy_b x.named_b x.tied_b (tidy_alive K behaviour.meaning Anyhow us (image v x) l).1
      v.channel w.channel w.b (encoded A (image v x).a (image v x).b ((behaviour.meaning v.channel).may B) l.between.from_p) m.call a g
      in
      let b : w.a ≡ v.a = subst (λ s. at (other s) w ≡ at (other s) v) e h.that in (
        record {
          said_a = x.said_a;
          busy_a = x.busy_a;
          said_b = d.said;
          busy_b = d.busy;
          tied_a = subst (λ f. Tied f x.said_a x.busy_a) (sym b) x.tied_a;
          tied_b = d.tied;
          named_a = subst (Named i r A) (sym b) x.named_a;
          named_b = d.named;
        },
        record { this = d.does; that = ap (λ f. node f x.said_a x.busy_a) b },
      )

  -- a run, the run of the nodes, and what was ever made in each
  pub record Followed (v : World C) (ms : List (Move (List ℕ))) (rs : List Answer) (w : World C) (h : Run behaviour v ms rs w) (x : Ties i r v) : Type 0 where
    pub ties : Ties i r w
    pub run : line.Run K behaviour.meaning (image v x) (moves_of ms) (answers_of rs) (image w ties)
    pub to :
        (s : Side) (k : ℕ) (y : Row) → ever behaviour (MadeAt s k y) v ms rs w h →
        line_history.ever K behaviour.meaning (λ (u : line.World C). Has (node_at s u) k (sa_of y)) (image v x) (moves_of ms) (answers_of rs) (image w ties) run
    pub back :
        (s : Side) (k : ℕ) (z : Sa) →
        line_history.ever K behaviour.meaning (λ (u : line.World C). Has (node_at s u) k z) (image v x) (moves_of ms) (answers_of rs) (image w ties) run →
        (y : Row) × ever behaviour (MadeAt s k y) v ms rs w h × (sa_of y ≡ z)

  pub follow :
      (us : List (line.World C)) (v : World C) (ms : List (Move (List ℕ))) (rs : List Answer) (w : World C) (h : Run behaviour v ms rs w) (x : Ties i r v) →
      Alive K behaviour.meaning Anyhow us (image v x) → Followed v ms rs w h x
  follow us v [] [] w h x l =
      let p = subst (λ w. (y : Ties i r w) × (image v x ≡ image w y)) h (x, refl) in
      record { ties = p.0; run = p.1; to = λ s k y m. made_has i r v x s k y m; back = λ s k z m. has_made i r v x s k z m }
  follow us v [] (r' ∷ rs) w h x l = absurd h
  follow us v (m ∷ ms) [] w h x l = absurd h
  follow us v (m ∷ ms) (a ∷ rs) w h x l =
      let p = step_follows us v x m a h.0 l m.side refl h.1 in
      let f =
      follow (image h.0 p.0 ∷ us) h.0 ms rs w h.2 p.0
      (step_alive K behaviour.meaning Anyhow us (image v x) m.side (call_of m.call) (answer_of a) (image h.0 p.0) p.1 (λ k z. tt) l)
      in
      record {
        ties = f.ties;
        run = (image h.0 p.0, p.1, f.run);
        to = λ s k y. ⊎_elim (λ g. inl (made_has i r v x s k y g)) (λ g. inr (f.to s k y g));
        back = λ s k z. ⊎_elim
            (λ g. let q = has_made i r v x s k z g in (q.0, inl q.1, q.2))
            (λ g. let q = f.back s k z g in (q.0, inr q.1, q.2));
      }

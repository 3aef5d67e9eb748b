-- The steps of nodes are steps of ends.
use Rattle.std.proofs.Common.{◌≡◌, ℕ, suc, false, ◌⊎◌, List, Some, None, Option, sym, refl, ◌∙◌, subst, subst₂, inl, inr, arith}
use mathlib.Core.Path.{fun_ext, subst₃}
use Rattle.wire.specs.declared.message.Failure.TheVariants.{TemporaryFailure, ChildSaNotFound}
use Rattle.wire.specs.declared.message.Response.{Response}
use Rattle.wire.specs.declared.message.Response.TheVariants as responses
use Rattle.protocol.specs.Model.{Nonce, St, fresh, standing, superseded, closing, Sa, Seed, Cell, live, Book, put, calm, born, noted, NoRowFor, Coll, Ask, create, rekey, delete, check, made, refused, Link, sent, answered, End, with_link, with_book, with_child, Acts, act_check, refuse_create, act_create, refuse_rekey, rekey_none, act_rekey, delete_none, delete_closing, delete_row}
use Rattle.protocol.specs.Rows.{Line, lookup, insert, remove, ordered, calm_lines, Found, nowhere, at, find}
use Rattle.protocol.specs.Node.{Bar, unusable, no_more, failure, sense, Out, idle, asked, Node, link_by, link_of, Ghost, end_of, InStep, sending, replying, making, noted_out, answer_delete, answer_create, answer_rekey, answer}
use Rattle.protocol.proofs.Rows.{lookup_insert, lookup_remove, lookup_calm, ordered_calm, find_at, find_nowhere}

module _ (P Q : Node) (steps : InStep P Q) where
  -- a request sent
  sent_link : (a : Ask) (rs : List Line) (s : ℕ) → P.out ≡ idle → link_of (sending P a rs s) Q ≡ sent a
  sent_link a rs s e = grind arith

  sent_steps : (a : Ask) (rs : List Line) (s : ℕ) → P.out ≡ idle → InStep (sending P a rs s) Q
  sent_steps a rs s e = grind arith

  -- a request processed
  asked_link : (i : ℕ) (a : Ask) → P.out ≡ asked i a → Q.exp ≡ i → link_of P Q ≡ sent a
  asked_link i a o e = grind arith

  answered_link :
      (i : ℕ) (a : Ask) (r : Response Nonce) (rs : List Line) (s : ℕ)
      → P.out ≡ asked i a
      → Q.exp ≡ i
      → link_of P (replying Q r rs s) ≡ answered a (sense r)
  answered_link i a r rs s o e = grind arith

  answered_steps :
      (i : ℕ) (a : Ask) (r : Response Nonce) (rs : List Line) (s : ℕ)
      → P.out ≡ asked i a
      → Q.exp ≡ i
      → InStep P (replying Q r rs s)
  answered_steps i a r rs s o e = grind arith

  -- a reply processed, and a delete sent at once
  next_link :
      (i : ℕ) (a b : Ask) (rs : List Line) (s : ℕ)
      → P.out ≡ asked i a
      → Q.exp ≡ suc i
      → link_of (sending P b rs s) Q ≡ sent b
  next_link i a b rs s o e = grind arith

  next_steps :
      (i : ℕ) (a b : Ask) (rs : List Line) (s : ℕ)
      → P.out ≡ asked i a
      → Q.exp ≡ suc i
      → InStep (sending P b rs s) Q
  next_steps i a b rs s o e = grind arith

-- an SA more is known to have been made
abbrev pub bearing : Ghost → ℕ → Sa → Ghost
bearing g k s = record { born_here = put g.born_here k (Some s); given = g.given }

-- what the relation says, said of the nodes
module _ (gp gq : Ghost) (P Q : Node) (i : ℕ) (a : Ask) (steps : InStep P Q) (out : P.out ≡ asked i a) (now : Q.exp ≡ i) where
  abbrev E : End
  E = end_of gp P Q

  abbrev F : End
  F = with_book (end_of gq Q P) (calm (lookup Q.rows))

  was : E.link ≡ sent a
  was = asked_link P Q steps i a out now

  replied :
      (r : Response Nonce) (rs : List Line) (b : Book)
      → ((j : ℕ) → lookup rs j ≡ b j)
      → Acts E F (with_link E (answered a (sense r))) (with_book F b)
      → Acts E F (end_of gp P (replying Q r rs Q.spi)) (end_of gq (replying Q r rs Q.spi) P)
  replied r rs b p =
      subst₂ (λ (l : Link) (c : Book). Acts E F (with_link E l) (with_book F c))
      (sym (answered_link P Q steps i a r rs Q.spi out now))
      (fun_ext (λ j. sym (p j)))

  made_link : (o : ℕ) (d : Seed) (n : Nonce) (rs : List Line) (u : Out) → link_of P (making Q rs o d n u) ≡ answered a (made Q.spi n)
  made_link o d n rs u = grind arith

  made_one :
      (o : ℕ) (d : Seed) (n : Nonce) (rs : List Line) (u : Out) (b : Book) (l : Link)
      → ((j : ℕ) → lookup rs j ≡ b j)
      → link_by u P.exp P.reply ≡ l
      → Acts E F (with_link E (answered a (made Q.spi n))) (with_child F b (born o d n) l)
      → Acts E F (end_of gp P (making Q rs o d n u)) (end_of (bearing gq Q.spi (born o d n)) (making Q rs o d n u) P)
  made_one o d n rs u b l p e =
      subst₃ (λ (x : Link) (c : Book) (y : Link). Acts E F (with_link E x) (record { first = F.first; book = c; spi = suc F.spi; link = y; born_here = put F.born_here F.spi (Some (born o d n)); given = F.given }))
      (sym (made_link o d n rs u))
      (fun_ext (λ j. let at_j = p j in let ins = lookup_insert Q.spi (live fresh (born o d n)) rs j in sym_to j ins at_j))
      (sym e)
    where
      sym_to : (j : ℕ) → lookup (insert Q.spi (live fresh (born o d n)) rs) j ≡ put (lookup rs) Q.spi (Some (live fresh (born o d n))) j → lookup rs j ≡ b j → put b Q.spi (Some (live fresh (born o d n))) j ≡ lookup (insert Q.spi (live fresh (born o d n)) rs) j
      sym_to j x y = grind arith

noted_link : (q j : ℕ) (e f : Nonce) (u : Out) (x : ℕ) (r : Option (Response Nonce)) → link_by (noted_out q j e f u) x r ≡ noted q j e f (link_by u x r)
noted_link q j e f u x r = grind arith

-- the code's answer is one of the model's
module _ (gp gq : Ghost) (P Q : Node) (i : ℕ) (steps : InStep P Q) (now : Q.exp ≡ i) (asc : ordered Q.rows) (n : Nonce) (bar : Option Bar) where
  abbrev rs : List Line
  rs = calm_lines Q.rows

  same : (j : ℕ) → lookup rs j ≡ calm (lookup Q.rows) j
  same j = lookup_calm Q.rows j

  abbrev acts : Ghost → Node → Type 0
  acts g R = Acts (end_of gp P Q) (with_book (end_of gq Q P) (calm (lookup Q.rows))) (end_of gp P R) (end_of g R P)

  -- with what is known then, and which SA more was made, if any
  abbrev goal : Node → Type 0
  goal R = acts gq R ⊎ ((s : Sa) × (s.mine ≡ false) × (lookup R.rows Q.spi ≡ Some (live fresh s)) × acts (bearing gq Q.spi s) R)

  new_row : (c : Cell) (xs : List Line) → lookup (insert Q.spi c xs) Q.spi ≡ Some c
  new_row c xs = let l = lookup_insert Q.spi c xs Q.spi in grind arith

  none : (p : ℕ) → find p rs ≡ nowhere → (j : ℕ) → NoRowFor p (calm (lookup Q.rows) j)
  none p e j = subst (NoRowFor p) (same j) (find_nowhere p rs e j)

  found : (p k : ℕ) (t : St) (b : Sa) → find p rs ≡ at k t b → (calm (lookup Q.rows) k ≡ Some (live t b)) × (b.peer ≡ p)
  found p k t b e =
      let f = find_at p rs k t b (ordered_calm Q.rows asc) e in (sym (same k) ∙ f.0, f.1)

  removed : (k j : ℕ) → lookup (remove k rs) j ≡ put (calm (lookup Q.rows)) k None j
  removed k j = let l = lookup_remove k rs j (ordered_calm Q.rows asc) in let s = same j in grind arith

  changed : (k : ℕ) (c : Cell) (j : ℕ) → lookup (insert k c rs) j ≡ put (calm (lookup Q.rows)) k (Some c) j
  changed k c j = let l = lookup_insert k c rs j in let s = same j in grind arith

  deletes : (x : ℕ) → P.out ≡ asked i (delete x) → (f : Found) → find x rs ≡ f → goal (answer_delete Q rs f)
  deletes x o nowhere e = inl (replied gp gq P Q i _ steps o now responses.Empty rs _ same (delete_none x (was gp gq P Q i _ steps o now) (none x e)))
  deletes x o (at k fresh b) e =
      inl (replied gp gq P Q i _ steps o now (responses.Delete k) (remove k rs) _ (removed k)
      (delete_row x k fresh b (was gp gq P Q i _ steps o now) (found x k fresh b e).0 (λ w. grind arith) (found x k fresh b e).1))
  deletes x o (at k standing b) e =
      inl (replied gp gq P Q i _ steps o now (responses.Delete k) (remove k rs) _ (removed k)
      (delete_row x k standing b (was gp gq P Q i _ steps o now) (found x k standing b e).0 (λ w. grind arith) (found x k standing b e).1))
  deletes x o (at k superseded b) e =
      inl (replied gp gq P Q i _ steps o now (responses.Delete k) (remove k rs) _ (removed k)
      (delete_row x k superseded b (was gp gq P Q i _ steps o now) (found x k superseded b e).0 (λ w. grind arith) (found x k superseded b e).1))
  deletes x o (at k closing b) e =
      inl (replied gp gq P Q i _ steps o now responses.Empty rs _ same
      (delete_closing x k b (was gp gq P Q i _ steps o now) (found x k closing b e).0 (found x k closing b e).1))

  barred : (w : Bar) → sense (responses.Failed (failure w)) ≡ refused
  barred unusable = refl
  barred no_more = refl

  refuses :
      (a : Ask) (w : Bar)
      → P.out ≡ asked i a
      → Acts (end_of gp P Q) (with_book (end_of gq Q P) (calm (lookup Q.rows))) (with_link (end_of gp P Q) (answered a refused)) (with_book (end_of gq Q P) (calm (lookup Q.rows)))
      → goal (replying Q (responses.Failed (failure w)) rs Q.spi)
  refuses a w u x =
      inl (replied gp gq P Q i a steps u now (responses.Failed (failure w)) rs _ same (rw (barred w) x))

  creates : (o : ℕ) (d : Seed) → P.out ≡ asked i (create o d) → (w : Option Bar) → goal (answer_create Q rs o d n w)
  creates o d u (Some w) = refuses (create o d) w u (refuse_create o d (was gp gq P Q i _ steps u now))
  creates o d u None =
      inr (born o d n, refl, new_row (live fresh (born o d n)) rs, made_one gp gq P Q i _ steps u now o d n rs Q.out _ _ same refl (act_create o d n (was gp gq P Q i _ steps u now)))

  rekeys : (o : ℕ) (d : Seed) (c : Coll) → P.out ≡ asked i (rekey o d c) → (w : Option Bar) (f : Found) → find d.po rs ≡ f → goal (answer_rekey Q rs o d n w f)
  rekeys o d c u w nowhere e =
      inl (replied gp gq P Q i _ steps u now (responses.Failed (ChildSaNotFound d.po)) rs _ same (rekey_none o d c (was gp gq P Q i _ steps u now) (none d.po e)))
  rekeys o d c u w (at k fresh b) e =
      inl (replied gp gq P Q i _ steps u now (responses.Failed TemporaryFailure) rs _ same (refuse_rekey o d c (was gp gq P Q i _ steps u now)))
  rekeys o d c u (Some w) (at k standing b) e = refuses (rekey o d c) w u (refuse_rekey o d c (was gp gq P Q i _ steps u now))
  rekeys o d c u None (at k standing b) e =
      inr (
        born o d n,
        refl,
        new_row (live fresh (born o d n)) (insert k (live superseded b) rs),
        made_one gp gq P Q i _ steps u now o d n (insert k (live superseded b) rs) _ _ _ (changed k (live superseded b))
            (noted_link k Q.spi d.ni n Q.out P.exp P.reply)
            (act_rekey o d c k b n (was gp gq P Q i _ steps u now) (found d.po k standing b e).0 (found d.po k standing b e).1),
      )
  rekeys o d c u w (at k superseded b) e =
      inl (replied gp gq P Q i _ steps u now (responses.Failed TemporaryFailure) rs _ same (refuse_rekey o d c (was gp gq P Q i _ steps u now)))
  rekeys o d c u w (at k closing b) e =
      inl (replied gp gq P Q i _ steps u now (responses.Failed TemporaryFailure) rs _ same (refuse_rekey o d c (was gp gq P Q i _ steps u now)))

  pub answers_as : (a : Ask) → P.out ≡ asked i a → goal (answer Q n bar a)
  answers_as (create o d) u = creates o d u bar
  answers_as (rekey o d c) u = rekeys o d c u bar (find d.po rs) refl
  answers_as (delete x) u = deletes x u (find x rs) refl
  answers_as check u = inl (replied gp gq P Q i _ steps u now responses.Empty rs _ same (act_check (was gp gq P Q i _ steps u now)))

-- Octets put into a buffer one behind the other.
use Rattle.std.proofs.Common.{◌≡◌, ℕ, ◌+◌, ◌≤◌, List, [], ◌++◌, length, take, drop, take-append-drop, sym, ap, ◌∙◌, append_assoc, arith, length-append, length-take-le}
use Rattle.std.proofs.lemmas.List.{take_at, drop_at, drop-drop}
use Rattle.wire.specs.Encoding.{placed}

-- what is put behind other octets is put with them
pub placed_behind :
    (at n : ℕ) (p q s : List ℕ) → n ≡ at + length p → at ≤ length s → placed n q (placed at p s) ≡ placed at (p ++ q) s
unfolding placed
placed_behind at n p q s e h =
    let front : List ℕ = take at s ++ p in
    let k : length front ≡ n = omega (arith, length-append (take at s) p, length-take-le at s h) in
    let whole : take at s ++ (p ++ drop (at + length p) s) ≡ front ++ drop n s = sym (append_assoc (take at s) p (drop (at + length p) s)) ∙ ap (λ x. front ++ drop x s) (sym e) in
    let a : take n (take at s ++ (p ++ drop (at + length p) s)) ≡ front = ap (take n) whole ∙ take_at front (drop n s) n k in
    let b : drop (n + length q) (take at s ++ (p ++ drop (at + length p) s)) ≡ drop (n + length q) s =
    sym (drop-drop (length q) n (take at s ++ (p ++ drop (at + length p) s))) ∙ ap (λ x. drop (length q) (drop n x)) whole ∙ ap (drop (length q)) (drop_at front (drop n s) n k) ∙ drop-drop (length q) n s in
    let c : at + length (p ++ q) ≡ n + length q = omega (arith, length-append p q) in
    rw (a, b, c, append_assoc (take at s) p (q ++ drop (n + length q) s), append_assoc p q (drop (n + length q) s))

pub placed_front : (p s : List ℕ) → placed 0 p s ≡ p ++ drop (length p) s
unfolding placed
placed_front p s = let z : 0 + length p ≡ length p = omega arith in rw z

pub placed_nothing : (at : ℕ) (s : List ℕ) → placed at [] s ≡ s
unfolding placed
placed_nothing at s = let z : at + 0 ≡ at = omega arith in rw z (take-append-drop at s)

-- two that are put, one behind the other
pub placed_both :
    (at n : ℕ) (p q s t u : List ℕ) → t ≡ placed at p s → u ≡ placed n q t → n ≡ at + length p → at ≤ length s →
    u ≡ placed at (p ++ q) s
placed_both at n p q s t u e f g h = f ∙ ap (placed n q) e ∙ placed_behind at n p q s g h

-- The front of a buffer that a message was written into.
use Rattle.std.proofs.Common.{◌≡◌, ℕ, ◌-◌, ◌≤◌, Bool, true, false, cond, ltb, List, ◌++◌, length, take, drop, Result, Ok, Err, refl, ap, ◌∙◌, arith}
use Rattle.std.specs.Prelude.{MatchResult, is_ok}
use lib.Seq.{take-append_seam}
use Rattle.std.proofs.lemmas.Bool.{ltb-false}
use Rattle.wire.specs.Messages.{octets_of}
use Rattle.wire.specs.Encoding.{written, overwritten}
use Rattle.wire.specs.declared.message.Message.{Message}
use Rattle.texts.specs.Hex.{hex_text}
use Rattle.wire.specs.declared.message.EncodeRefusal.TheVariants.{BufferTooShort}

pub record Front (o out : List ℕ) (len : ℕ) (after : List ℕ) : Type 0 where
  pub room : len ≤ length out
  pub octets : take len after ≡ o

by_test : (b : Bool) (o out : List ℕ) (len : ℕ) → ltb (length out) (length o) ≡ b → Ok len ≡ cond b (Err BufferTooShort) (Ok (length o)) → Front o out len (cond b out (o ++ drop (length o) out))
by_test true o out len e r = let z : ◌≡◌ {A = ℕ} 0 1 = cc in absurd (omega arith)
by_test false o out len e r =
    let same : len ≡ length o = cc in
    record { room = omega (arith, ltb-false _ _ e); octets = rw same (take-append_seam o _) }

pub front : (m : Message (List ℕ)) (out : List ℕ) (len : ℕ) → Ok len ≡ written m out → Front (octets_of m) out len (overwritten m out)
unfolding written overwritten
front m out len r = by_test _ (octets_of m) out len refl r

-- what was printed of the front of the buffer
pub shown : (m : Message (List ℕ)) (out after : List ℕ) (len : ℕ) (t : List ℕ) → Ok len ≡ written m out → after ≡ overwritten m out → t ≡ hex_text (take (len - 0) after) → t ≡ hex_text (octets_of m)
shown m out after len t r e p =
    let same : len - 0 ≡ len = omega arith in
    p ∙ ap (λ n. hex_text (take n after)) same ∙ ap (λ l. hex_text (take len l)) e ∙ ap hex_text (front m out len r).octets

-- an answer of which another differs in its error alone
pub mapped_ok : {T E D : Type 0} (Q : E → Type 0) (r : Result T E) (q : Result T D) (x : T) → MatchResult r (λ y. q ≡ Ok y) Q → is_ok q ≡ is_ok r → q ≡ Ok x → r ≡ Ok x
mapped_ok Q (Ok y) q x m v e = cc
mapped_ok Q (Err z) (Ok y) x m v e = cc
mapped_ok Q (Err z) (Err d) x m v e = cc

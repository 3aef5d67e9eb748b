use Rattle.std.proofs.Common.{◌≡◌, ◌≢◌, ◌⊎◌, ℕ, List, inl, inr, None, Err, sym, ap, ◌∙◌}
use Rattle.std.specs.Result.{result_ok}
use Rattle.hex.specs.Hex.{decode_of}
use Rattle.hex.specs.declared.error.FromHexError.{FromHexError}
use Rattle.hex.specs.declared.error.FromHexError.TheVariants.{OutOfMemory}
use Rattle.texts.specs.Hex.{from_hex}
use Rattle.texts.proofs.Agreed.{octets_agree}
use Rattle.texts.proofs.digits.from_hex.Goals as goal

pub returns-in-Ok : goal.returns-in-Ok
returns-in-Ok c = ap result_ok (sym c.in-Ok.ensures.ok) ∙ octets_agree c.args.text.now

-- a refusal that is not of memory is one of the text
refused : (xs : List ℕ) (e : FromHexError) → (e ≡ OutOfMemory) ⊎ (decode_of xs ≡ Err e) → e ≢ OutOfMemory → None ≡ from_hex xs
refused xs e (inl none_left) h = absurd (h none_left)
refused xs e (inr told) h = ap result_ok (sym told) ∙ octets_agree xs

pub returns-in-Err-OddLength : goal.returns-in-Err-OddLength
returns-in-Err-OddLength c = refused _ _ c.in-Err-OddLength.ensures.err (λ e. cc)

pub returns-in-Err-InvalidStringLength : goal.returns-in-Err-InvalidStringLength
returns-in-Err-InvalidStringLength c = refused _ _ c.in-Err-InvalidStringLength.ensures.err (λ e. cc)

pub returns-in-Err-InvalidHexCharacter : goal.returns-in-Err-InvalidHexCharacter
returns-in-Err-InvalidHexCharacter c = refused _ _ c.in-Err-InvalidHexCharacter.ensures.err (λ e. cc)

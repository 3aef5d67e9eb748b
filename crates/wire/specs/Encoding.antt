-- What writing a message into a buffer answers, and what the buffer then holds.
use Rattle.std.specs.Prelude.{ℕ, ◌+◌, cond, List, ◌++◌, length, take, drop, Ok, Err, Result, nat_lt}
use Rattle.wire.specs.Messages.{octets_of}
use Rattle.wire.specs.declared.message.Message.{Message}
use Rattle.wire.specs.declared.message.EncodeRefusal.{EncodeRefusal}
use Rattle.wire.specs.declared.message.EncodeRefusal.TheVariants.{BufferTooShort}

-- a buffer with these octets from a place on
unfoldable pub placed : ℕ → List ℕ → List ℕ → List ℕ
placed at part out = take at out ++ (part ++ drop (at + length part) out)

unfoldable pub written : Message (List ℕ) → List ℕ → Result ℕ EncodeRefusal
written m out = cond (nat_lt (length out) (length (octets_of m))) (Err BufferTooShort) (Ok (length (octets_of m)))

-- the octets of the message, and then what lay behind them
unfoldable pub overwritten : Message (List ℕ) → List ℕ → List ℕ
overwritten m out =
    cond (nat_lt (length out) (length (octets_of m))) out (octets_of m ++ drop (length (octets_of m)) out)

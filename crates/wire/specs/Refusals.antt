-- The number of each refusal.
use Rattle.std.specs.Prelude.{◌≡◌, ℕ, cond, Option, Some, None, ◌==◌, refl}
use Rattle.wire.specs.declared.message.DecodeRefusal.{DecodeRefusal}
use Rattle.wire.specs.declared.message.DecodeRefusal.TheVariants.{Length, Header, Chain, Payload, NonceLength}
use Rattle.wire.specs.declared.message.EncodeRefusal.{EncodeRefusal}
use Rattle.wire.specs.declared.message.EncodeRefusal.TheVariants.{BufferTooShort}

-- why octets are no message
abbrev pub decode_number : DecodeRefusal → ℕ
decode_number Length = 40
decode_number Header = 41
decode_number Chain = 42
decode_number Payload = 43
decode_number NonceLength = 44

-- the refusal that has a number
abbrev pub decode_of : ℕ → Option DecodeRefusal
decode_of n =
    cond (n == 40) (Some Length) (cond (n == 41) (Some Header) (cond (n == 42) (Some Chain) (cond (n == 43) (Some Payload) (cond (n == 44) (Some NonceLength) None))))

pub decode_told : (x : DecodeRefusal) → decode_of (decode_number x) ≡ Some x
decode_told Length = refl
decode_told Header = refl
decode_told Chain = refl
decode_told Payload = refl
decode_told NonceLength = refl

-- why a message is not written
abbrev pub encode_number : EncodeRefusal → ℕ
encode_number BufferTooShort = 45

-- the refusal that has a number
abbrev pub encode_of : ℕ → Option EncodeRefusal
encode_of n =
    cond (n == 45) (Some BufferTooShort) None

pub encode_told : (x : EncodeRefusal) → encode_of (encode_number x) ≡ Some x
encode_told BufferTooShort = refl

-- What the parts of a chain are as octets.
use Rattle.std.specs.Prelude.{ℕ, Bool, cond, List, [], ◌∷◌, Some, None, Option, is_some, ◌==◌}
use Rattle.std.specs.Borrow.{Bor}
use Rattle.wire.specs.Decoding.{Opened}
use Rattle.wire.specs.Messages.{type_number}
use Rattle.wire.specs.declared.payload.PayloadType.{PayloadType}
use Rattle.wire.specs.declared.payload.PayloadType.TheVariants as type
use Rattle.wire.specs.declared.payload.Offer.{Offer}
use Rattle.wire.specs.declared.payload.Chain.{Chain}
use Rattle.wire.specs.declared.payload.Payload.{Payload}
use Rattle.wire.specs.declared.payload.Payload.TheVariants.{Sa, Nonce, TsInitiator, TsResponder, Notify, Delete}

-- a body, and the chain behind it
abbrev pub cut : Bor (List ℕ) × Chain → Opened
cut p = record { body = p.0.now; next = p.1.kind; rest = p.1.octets.now }

-- the type of a payload
abbrev pub type_of : Payload → ℕ
type_of (Sa b) = type_number type.Sa
type_of (Nonce b) = type_number type.Nonce
type_of (Notify b) = type_number type.Notify
type_of (Delete b) = type_number type.Delete
type_of (TsInitiator b) = type_number type.TsInitiator
type_of (TsResponder b) = type_number type.TsResponder

-- the octets behind its four opening octets
abbrev pub body_of : Payload → List ℕ
body_of (Sa b) = b.now
body_of (Nonce b) = b.now
body_of (Notify b) = b.now
body_of (Delete b) = b.now
body_of (TsInitiator b) = b.now
body_of (TsResponder b) = b.now

-- a payload and the chain behind it
abbrev pub type_before : Payload × Chain → ℕ
type_before p = type_of p.0

abbrev pub split_off : Payload × Chain → Opened
split_off p = record { body = body_of p.0; next = p.1.kind; rest = p.1.octets.now }

-- the type that a number stands for
abbrev pub type_in : ℕ → Option PayloadType
type_in k =
    cond (k == type_number type.Sa) (Some type.Sa)
    (cond (k == type_number type.Nonce) (Some type.Nonce)
    (cond (k == type_number type.Notify) (Some type.Notify)
    (cond (k == type_number type.Delete) (Some type.Delete)
    (cond (k == type_number type.TsInitiator) (Some type.TsInitiator) (cond (k == type_number type.TsResponder) (Some type.TsResponder) None)))))

-- whether there is a payload of this type
abbrev pub known : ℕ → Bool
known k = is_some (type_in k)

abbrev pub offered : Offer → List (List ℕ)
offered o = o.sa.now ∷ o.nonce.now ∷ o.tsi.now ∷ o.tsr.now ∷ []

abbrev pub rekeyed : Bor (List ℕ) × Offer → List (List ℕ)
rekeyed p = p.0.now ∷ offered p.1

-- the body of a payload alone, where it has this type
abbrev pub lone_body : ℕ → Option Payload → Option (List (List ℕ))
lone_body t None = None
lone_body t (Some p) = cond (type_of p == t) (Some (body_of p ∷ [])) None

-- The payloads: the octets of each behind its four opening octets, and what is read from them.
use Rattle.std.specs.Prelude.{ℕ, cond, List, [], ◌∷◌, ◌++◌, Some, None, Option}
use Rattle.std.specs.Option.{option_map}
use Rattle.std.specs.Str.{bytes_eq}
use Rattle.octets.specs.Numbers.{be16, be32, word}
use Rattle.wire.specs.declared.table.Naming.{Naming}
use Rattle.wire.specs.declared.table.Naming.TheVariants.{Rekeyed, NotFound, Deleted}
use Rattle.wire.specs.declared.message.Failure.{Failure}
use Rattle.wire.specs.declared.message.Failure.TheVariants.{NoProposalChosen, NoAdditionalSas, TemporaryFailure, ChildSaNotFound}

-- SA (33). One proposal: last, length 32, number 1, ESP, an SPI of 4 octets, 2 transforms; the sender's new SPI;
-- the transforms ENCR_AES_GCM_16 with a key of 128 bits, and no extended sequence numbers.
unfoldable pub sa_body : ℕ → List ℕ
sa_body spi =
    0x00 ∷ 0x00 ∷ 0x00 ∷ 0x20 ∷ 0x01 ∷ 0x03 ∷ 0x04 ∷ 0x02
    ∷ (be32 spi
    ++ (0x03 ∷ 0x00 ∷ 0x00 ∷ 0x0C ∷ 0x01 ∷ 0x00 ∷ 0x00 ∷ 0x14 ∷ 0x80 ∷ 0x0E ∷ 0x00 ∷ 0x80
    ∷ 0x00 ∷ 0x00 ∷ 0x00 ∷ 0x08 ∷ 0x05 ∷ 0x00 ∷ 0x00 ∷ 0x00 ∷ []))

-- TSi (44) and TSr (45). One selector: IPv4 addresses, any protocol, length 16, ports 0 to 65535,
-- addresses 0.0.0.0 to 255.255.255.255.
unfoldable pub ts_body : List ℕ
ts_body =
    0x01 ∷ 0x00 ∷ 0x00 ∷ 0x00 ∷ 0x07 ∷ 0x00 ∷ 0x00 ∷ 0x10 ∷ 0x00 ∷ 0x00 ∷ 0xFF ∷ 0xFF
    ∷ 0x00 ∷ 0x00 ∷ 0x00 ∷ 0x00 ∷ 0xFF ∷ 0xFF ∷ 0xFF ∷ 0xFF ∷ []

-- Notify (41): the protocol, the length of the SPI, the type of the notification, the SPI.
-- REKEY_SA names the SA to be rekeyed by the sender's SPI.
unfoldable pub rekey_body : ℕ → List ℕ
rekey_body spi = 0x03 ∷ 0x04 ∷ (be16 16393 ++ be32 spi)

-- the types of the error notifications
abbrev pub failure_number : Failure → ℕ
failure_number NoProposalChosen = 14
failure_number NoAdditionalSas = 35
failure_number TemporaryFailure = 43
failure_number (ChildSaNotFound spi) = 44

-- the SPI that an error notification says: that which was not found; 0, where it says none
abbrev pub failure_spi : Failure → ℕ
failure_spi NoProposalChosen = 0
failure_spi NoAdditionalSas = 0
failure_spi TemporaryFailure = 0
failure_spi (ChildSaNotFound spi) = spi

unfoldable pub failure_body : Failure → List ℕ
failure_body NoProposalChosen = 0x00 ∷ 0x00 ∷ be16 (failure_number NoProposalChosen)
failure_body NoAdditionalSas = 0x00 ∷ 0x00 ∷ be16 (failure_number NoAdditionalSas)
failure_body TemporaryFailure = 0x00 ∷ 0x00 ∷ be16 (failure_number TemporaryFailure)
failure_body (ChildSaNotFound spi) = 0x03 ∷ 0x04 ∷ (be16 (failure_number (ChildSaNotFound spi)) ++ be32 spi)

-- Delete (42): ESP, SPIs of 4 octets, one of them: the sender's own
unfoldable pub delete_body : ℕ → List ℕ
delete_body spi = 0x03 ∷ 0x04 ∷ 0x00 ∷ 0x01 ∷ be32 spi

-- the payloads that name an SPI
abbrev pub naming_number : Naming → ℕ
naming_number Rekeyed = 16393
naming_number NotFound = 44
naming_number Deleted = 1

abbrev pub naming_body : Naming → ℕ → List ℕ
naming_body Rekeyed spi = rekey_body spi
naming_body NotFound spi = failure_body (ChildSaNotFound spi)
naming_body Deleted spi = delete_body spi

-- the number that stands at place i of a body, where the body is the table's for that number
unfoldable pub carried : (ℕ → List ℕ) → ℕ → List ℕ → Option ℕ
carried table i body = cond (bytes_eq body (table (word body i))) (Some (word body i)) None

-- what a body says
unfoldable pub sa_in : List ℕ → Option ℕ
sa_in body = carried sa_body 8 body

unfoldable pub rekeyed_in : List ℕ → Option ℕ
rekeyed_in body = carried rekey_body 4 body

unfoldable pub deleted_in : List ℕ → Option ℕ
deleted_in body = carried delete_body 4 body

unfoldable pub not_found_in : List ℕ → Option ℕ
not_found_in body = carried (λ x. failure_body (ChildSaNotFound x)) 4 body

abbrev pub named_in : Naming → List ℕ → Option ℕ
named_in Rekeyed body = rekeyed_in body
named_in NotFound body = not_found_in body
named_in Deleted body = deleted_in body

-- the failures whose notification names no SPI
abbrev pub bare_failures : List Failure
bare_failures = NoProposalChosen ∷ NoAdditionalSas ∷ TemporaryFailure ∷ []

unfoldable pub failure_in : List ℕ → Option Failure
failure_in body =
    cond (bytes_eq body (failure_body NoProposalChosen)) (Some NoProposalChosen)
    (cond (bytes_eq body (failure_body NoAdditionalSas)) (Some NoAdditionalSas)
    (cond (bytes_eq body (failure_body TemporaryFailure)) (Some TemporaryFailure)
    (option_map (λ x. ChildSaNotFound x) (not_found_in body))))

-- The number of each answer.
use Rattle.std.specs.Prelude.{◌≡◌, ℕ, ◌+◌, cond, Option, Some, None, Result, Ok, Err, ◌==◌, refl}
use Rattle.std.specs.Option.{option_map}
use Rattle.channel.specs.declared.sent.Sent.TheVariants.{Taken, NotTaken}
use Rattle.channel.specs.Numbers.{sent_number}
use Rattle.calls.specs.declared.answers.Delivered.{Delivered}
use Rattle.calls.specs.declared.answers.Delivered.TheVariants.{Done, Again}
use Rattle.calls.specs.declared.answers.Answer.{Answer}
use Rattle.calls.specs.declared.answers.Answer.TheVariants.{Asked, Resent, Heard}
use Rattle.wire.specs.Refusals.{decode_number, decode_of}
use Rattle.wire.specs.declared.message.DecodeRefusal.TheVariants as decode
use Rattle.calls.specs.declared.refusals.MakingRefusal.{MakingRefusal}
use Rattle.calls.specs.declared.refusals.MakingRefusal.TheVariants as making
use Rattle.calls.specs.declared.refusals.AskRefusal.{AskRefusal}
use Rattle.calls.specs.declared.refusals.AskRefusal.TheVariants as ask
use Rattle.calls.specs.declared.refusals.ResendRefusal.{ResendRefusal}
use Rattle.calls.specs.declared.refusals.ResendRefusal.TheVariants as resend
use Rattle.calls.specs.declared.refusals.DeliverRefusal.{DeliverRefusal}
use Rattle.calls.specs.declared.refusals.DeliverRefusal.TheVariants as deliver

abbrev pub making_number : MakingRefusal → ℕ
making_number making.ReservedSpi = 10
making_number making.BookNotEmpty = 13

-- the refusal that has a number
abbrev pub making_of : ℕ → Option MakingRefusal
making_of n =
    cond (n == 10) (Some making.ReservedSpi) (cond (n == 13) (Some making.BookNotEmpty) None)

pub making_told : (x : MakingRefusal) → making_of (making_number x) ≡ Some x
making_told making.ReservedSpi = refl
making_told making.BookNotEmpty = refl

abbrev pub ask_number : AskRefusal → ℕ
ask_number ask.NonceLength = 20
ask_number ask.Busy = 21
ask_number ask.IdsSpent = 22
ask_number ask.SpisSpent = 23
ask_number ask.NotInBook = 24
ask_number ask.RowFresh = 25
ask_number ask.RowSuperseded = 26
ask_number ask.BookFull = 27

-- the refusal that has a number
abbrev pub ask_of : ℕ → Option AskRefusal
ask_of n =
    cond (n == 20) (Some ask.NonceLength) (cond (n == 21) (Some ask.Busy) (cond (n == 22) (Some ask.IdsSpent) (cond (n == 23) (Some ask.SpisSpent) (cond (n == 24) (Some ask.NotInBook) (cond (n == 25) (Some ask.RowFresh) (cond (n == 26) (Some ask.RowSuperseded) (cond (n == 27) (Some ask.BookFull) None)))))))

pub ask_told : (x : AskRefusal) → ask_of (ask_number x) ≡ Some x
ask_told ask.NonceLength = refl
ask_told ask.Busy = refl
ask_told ask.IdsSpent = refl
ask_told ask.SpisSpent = refl
ask_told ask.NotInBook = refl
ask_told ask.RowFresh = refl
ask_told ask.RowSuperseded = refl
ask_told ask.BookFull = refl

abbrev pub resend_number : ResendRefusal → ℕ
resend_number resend.Quiet = 28

-- the refusal that has a number
abbrev pub resend_of : ℕ → Option ResendRefusal
resend_of n =
    cond (n == 28) (Some resend.Quiet) None

pub resend_told : (x : ResendRefusal) → resend_of (resend_number x) ≡ Some x
resend_told resend.Quiet = refl

abbrev pub deliver_number : DeliverRefusal → ℕ
deliver_number deliver.NonceLength = 30
deliver_number deliver.NothingCame = 31
deliver_number (deliver.NoMessage e) = decode_number e
deliver_number deliver.NotThePeer = 33
deliver_number deliver.WrongId = 34

-- the refusal that has a number
abbrev pub deliver_of : ℕ → Option DeliverRefusal
deliver_of n =
    cond (n == 30) (Some deliver.NonceLength) (cond (n == 31) (Some deliver.NothingCame) (cond (n == 33) (Some deliver.NotThePeer) (cond (n == 34) (Some deliver.WrongId) (option_map deliver.NoMessage (decode_of n)))))

pub deliver_told : (x : DeliverRefusal) → deliver_of (deliver_number x) ≡ Some x
deliver_told deliver.NonceLength = refl
deliver_told deliver.NothingCame = refl
deliver_told deliver.NotThePeer = refl
deliver_told deliver.WrongId = refl
deliver_told (deliver.NoMessage decode.Length) = refl
deliver_told (deliver.NoMessage decode.Header) = refl
deliver_told (deliver.NoMessage decode.Chain) = refl
deliver_told (deliver.NoMessage decode.Payload) = refl
deliver_told (deliver.NoMessage decode.NonceLength) = refl

-- 0 done, 1 done but not taken by the channel; 2 and 3 the same of a stored reply that was sent again
abbrev pub delivered_number : Delivered → ℕ
delivered_number (Done s) = sent_number s
delivered_number (Again s) = 2 + sent_number s

-- what has a number
abbrev pub delivered_of : ℕ → Option Delivered
delivered_of n =
    cond (n == 0) (Some (Done Taken)) (cond (n == 1) (Some (Done NotTaken)) (cond (n == 2) (Some (Again Taken)) (cond (n == 3) (Some (Again NotTaken)) None)))

pub delivered_told : (x : Delivered) → delivered_of (delivered_number x) ≡ Some x
delivered_told (Done Taken) = refl
delivered_told (Done NotTaken) = refl
delivered_told (Again Taken) = refl
delivered_told (Again NotTaken) = refl

-- the number of what is done, or of what turns it down
abbrev pub told_number : {T E : Type 0} → (T → ℕ) → (E → ℕ) → Result T E → ℕ
told_number done refused (Ok x) = done x
told_number done refused (Err e) = refused e

abbrev pub answer_number : Answer → ℕ
answer_number (Asked (Ok s)) = sent_number s
answer_number (Asked (Err e)) = ask_number e
answer_number (Resent (Ok s)) = sent_number s
answer_number (Resent (Err e)) = resend_number e
answer_number (Heard (Ok d)) = delivered_number d
answer_number (Heard (Err e)) = deliver_number e

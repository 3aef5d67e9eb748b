-- What is printed of messages, books and channels.
use Rattle.std.specs.Prelude.{◌≡◌, ℕ, ◌⊎◌, List, ◌++◌, length, Ok, Err, Result, codes, decimal}
use Rattle.nonce.specs.declared.side.Side.{Side}
use Rattle.book.specs.Shelves.{Answer, Shelf}
use Rattle.channel.specs.Meaning.{Meaning}
use Rattle.texts.specs.Hex.{hex_text}
use Rattle.wire.specs.Refusals.{decode_number}
use Rattle.wire.specs.declared.message.DecodeRefusal.{DecodeRefusal}
use Rattle.wire.specs.declared.message.Message.{Message}
use Rattle.texts.specs.Messages.{message_text}
use Rattle.texts.specs.Told.{answer_text, refused_text}

-- what octets are read as: a message, or the number of the check that they fail
abbrev pub decoded_text : Result (Message (List ℕ)) DecodeRefusal → List ℕ
decoded_text (Ok m) = message_text m
decoded_text (Err e) = refused_text (decode_number e)

-- a change of a book: what is printed of the answer, and what it leaves
abbrev pub told : Answer × Shelf → List ℕ × Shelf
told p = (answer_text p.0, p.1)

-- how many rows there are, and how many there can be
abbrev pub rows_text : Shelf → List ℕ
rows_text s = decimal (length s.rows) ++ (codes " of " ++ decimal s.most)

-- what is printed of a receive: a datagram that could come, or that there is none
abbrev pub ReceivedText : Meaning → Side → List ℕ → Type 0
ReceivedText m side t = (t ≡ codes "nothing") ⊎ ((d : List ℕ) × m.may side d × (t ≡ hex_text d))

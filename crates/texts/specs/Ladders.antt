-- What the ladder shows of a message.
use Rattle.std.specs.Prelude.{ℕ, ◌-◌, List, [], ◌++◌, length, replicate, Some, None, Ok, Err, Result, cond, ◌==◌, codes, decimal}
use Rattle.channel.specs.declared.sent.Sent.{Sent}
use Rattle.channel.specs.declared.sent.Sent.TheVariants as sent
use Rattle.nonce.specs.declared.side.Side.{Side}
use Rattle.nonce.specs.declared.side.Side.TheVariants.{A, B}
use Rattle.wire.specs.declared.message.Message.{Message}
use Rattle.wire.specs.declared.message.DecodeRefusal.{DecodeRefusal}
use Rattle.wire.specs.declared.message.Body.{Body}
use Rattle.wire.specs.declared.message.Body.TheVariants as body
use Rattle.wire.specs.declared.message.Request.{Request}
use Rattle.wire.specs.declared.message.Request.TheVariants as request
use Rattle.wire.specs.declared.message.Response.{Response}
use Rattle.wire.specs.declared.message.Response.TheVariants as response
use Rattle.wire.specs.declared.message.Failure.TheVariants.{NoProposalChosen, NoAdditionalSas, TemporaryFailure, ChildSaNotFound}
use Rattle.texts.specs.declared.ladder.Event.{Event}
use Rattle.texts.specs.declared.ladder.Event.TheVariants.{Leaves, Comes}
use Rattle.texts.specs.declared.ladder.Fate.{Fate}
use Rattle.texts.specs.declared.ladder.Fate.TheVariants.{Once, Twice, Lost, NotTaken}

-- the names of the ends, over the places where their lines begin
abbrev pub names_text : List ℕ
names_text = codes "A" ++ (replicate 63 32 ++ codes "B")

-- a request in short
abbrev pub request_brief : {N : Type 0} → Request N → List ℕ
request_brief (request.Create spi n) = codes "create " ++ decimal spi
request_brief (request.Rekey old spi n) = codes "rekey " ++ (decimal old ++ (codes " by " ++ decimal spi))
request_brief (request.Delete spi) = codes "delete " ++ decimal spi
request_brief request.Empty = codes "empty"

-- a response in short
abbrev pub response_brief : {N : Type 0} → Response N → List ℕ
response_brief (response.NewSa spi n) = codes "new " ++ decimal spi
response_brief (response.Failed NoProposalChosen) = codes "notify 14"
response_brief (response.Failed NoAdditionalSas) = codes "notify 35"
response_brief (response.Failed TemporaryFailure) = codes "notify 43"
response_brief (response.Failed (ChildSaNotFound spi)) = codes "notify 44 " ++ decimal spi
response_brief (response.Delete spi) = codes "delete " ++ decimal spi
response_brief response.Empty = codes "empty"

abbrev pub body_brief : {N : Type 0} → Body N → List ℕ
body_brief (body.Request r) = request_brief r
body_brief (body.Response r) = response_brief r

-- what stands behind a line
abbrev pub behind_text : Event → List ℕ
behind_text (Leaves Once) = []
behind_text (Leaves Twice) = codes " twice"
behind_text (Leaves Lost) = codes " lost"
behind_text (Leaves NotTaken) = codes " not taken"
behind_text (Comes None) = []
behind_text (Comes (Some n)) = codes " refused " ++ decimal n

-- a message in short: its direction, its ID, and what it says
abbrev pub direction_text : {N : Type 0} → Body N → List ℕ
direction_text (body.Request r) = codes "request "
direction_text (body.Response r) = codes "response "

abbrev pub message_brief : {N : Type 0} → Message N → List ℕ
message_brief m = direction_text m.body ++ (decimal m.id ++ (codes " " ++ (body_brief m.body ++ codes " ")))

-- the label of so many octets, by what they are read as
abbrev pub label_text : Result (Message (List ℕ)) DecodeRefusal → ℕ → List ℕ
label_text (Ok m) n = message_brief m
label_text (Err e) n = decimal n ++ codes " octets "

-- the head of a shaft
abbrev pub head_text : Fate → List ℕ → List ℕ
head_text Once head = head
head_text Twice head = head
head_text Lost head = codes "x"
head_text NotTaken head = codes "x"

-- a shaft without its head, 61 places
abbrev pub shaft_text : List ℕ → List ℕ
shaft_text label = codes "-- " ++ (label ++ replicate (58 - length label) 45)

-- the line of an event at an end
abbrev pub line_text : Side → Event → List ℕ → List ℕ
line_text A (Leaves f) l = codes "o" ++ (shaft_text l ++ (head_text f (codes ">") ++ (codes " |" ++ behind_text (Leaves f))))
line_text B (Leaves f) l = codes "| " ++ (head_text f (codes "<") ++ (shaft_text l ++ (codes "o" ++ behind_text (Leaves f))))
line_text A (Comes r) l = codes "o<" ++ (shaft_text l ++ (codes " |" ++ behind_text (Comes r)))
line_text B (Comes r) l = codes "| " ++ (shaft_text l ++ (codes ">o" ++ behind_text (Comes r)))

-- what becomes of a message, by how many more datagrams wait where it goes
abbrev pub fate_of : Sent → ℕ → Fate
fate_of sent.NotTaken n = NotTaken
fate_of sent.Taken n = cond (n == 0) Lost (cond (n == 1) Once Twice)

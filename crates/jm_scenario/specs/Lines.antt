-- The lines of replies (ours).
use Rattle.std.specs.Prelude.{ℕ, suc, ◌++◌, List, [], ◌∷◌, nat_le, if◌then◌else◌, Result, Ok, Err, codes, decimal}
use Rattle.json.specs.Print.{quoted}
use Rattle.hex.specs.Hex.{encode_lower}
use Rattle.jm_base.specs.declared.refusal.Refusal.{Refusal}
use Rattle.jm_base.specs.Shown.{refusal_name}
use Rattle.jm_header.specs.MessageIds.{message_id}
use Rattle.jm_header.specs.declared.body.Body.{Body}
use Rattle.jm_header.specs.declared.body.Body.TheVariants.{None as NoBody, Text, Bytes}
use Rattle.jm_machine.specs.declared.answer.Answer.{Answer}
use Rattle.jm_machine.specs.declared.answer.Answer.TheVariants.{Done, Sent, Delivered, Nothing, Missed}
use Rattle.jm_machine.specs.declared.answer.Delivery.{Delivery}

-- a body: `none`, or its text as a JSON string, or its bytes in lower-case hexadecimal
abbrev pub body_text : Body → List ℕ
body_text NoBody = codes "none"
body_text (Text text) = codes "text " ++ quoted text
body_text (Bytes bytes) = codes "bytes " ++ encode_lower bytes

-- `yes` from the second delivery on
abbrev pub redelivered_text : ℕ → List ℕ
redelivered_text count = if nat_le 2 count then codes "yes" else codes "no"

-- the message's identifier, the count of its deliveries and its mark
unfoldable pub delivery_head : Delivery → List ℕ
delivery_head d = codes "message " ++ message_id d.message ++ codes " count=" ++ decimal d.count
    ++ codes " redelivered=" ++ redelivered_text d.count

-- a delivery: that head, the message's priority and its body
abbrev pub delivery_text : Delivery → List ℕ
delivery_text d = delivery_head d ++ codes " priority=" ++ decimal d.message.priority
    ++ codes " body=" ++ body_text d.message.body

-- a reply
abbrev pub reply_text : Result Answer Refusal → List ℕ
reply_text (Ok Done) = codes "ok"
reply_text (Ok (Sent number)) = codes "sent " ++ decimal number
reply_text (Ok (Delivered delivery)) = delivery_text delivery
reply_text (Ok Nothing) = codes "none"
reply_text (Ok (Missed number)) = codes "missed " ++ decimal number
reply_text (Err refusal) = codes "refused " ++ refusal_name refusal

-- the line of a reply: the number of its call, a space, the reply and a line feed
abbrev pub line : ℕ → Result Answer Refusal → List ℕ
line number reply = decimal number ++ codes " " ++ reply_text reply ++ codes "\n"

-- the lines of replies in order, the first of that number
abbrev pub lines_from : ℕ → List (Result Answer Refusal) → List ℕ
lines_from number [] = []
lines_from number (reply ∷ replies) = line number reply ++ lines_from (suc number) replies

-- the lines of replies, numbered from 1
abbrev pub lines : List (Result Answer Refusal) → List ℕ
lines replies = lines_from 1 replies

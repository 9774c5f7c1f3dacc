-- What contracts see of a value.
use Rattle.jm_eval.specs.declared.value.Value.{Value as Reference}
use Rattle.jm_eval.specs.declared.value.Value.TheVariants as v
use Rattle.jm_header.specs.MessageIds.{message_id}
use Rattle.jm_eval.specs.Values.{Value, Unknown, Boolean, Number, Text}

-- a value, without where its text lies in memory
abbrev pub seen : Reference → Value
seen v.Unknown = Unknown
seen (v.Bool b) = Boolean b
seen (v.Number n) = Number n
seen (v.Text text) = Text text.now
seen (v.MessageId message) = Text (message_id message.now)

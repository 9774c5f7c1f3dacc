-- What the rows say of messages and of selectors, so that a core that is made of them holds messages.
use Rattle.std.specs.Prelude.{◌≡◌, None, IfSome}
use Rattle.jm_format.specs.Messages.{IsMessage}
use Rattle.jm_selector.specs.Selectors.{selector_refusal}
use Rattle.jm_decoding.specs.declared.message.MessageRow.{MessageRow}
use Rattle.jm_decoding.specs.declared.station.StationRow.{StationRow}

-- the row of message has one
abbrev pub HasMessage : MessageRow → Type 0
HasMessage m = IsMessage m.message

-- what the row of station asks for has no selector that is refused
abbrev pub HasSelector : StationRow → Type 0
HasSelector s = IfSome s.definition (λ d. selector_refusal d.selector ≡ None)

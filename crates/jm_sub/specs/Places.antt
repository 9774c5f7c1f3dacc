-- The places of the subscriptions that want a message, found by the channels of the message.
use Rattle.std.specs.Prelude.{ℕ, Bool, false, ◌&&◌, List, ◌∷◌, map, Option, None, Some}
use Rattle.std.specs.Set.{is_member}
use Rattle.jm_dest.specs.declared.key.Key.{Key}
use Rattle.jm_header.specs.declared.content.Content.{Content}
use Rattle.jm_machine.specs.declared.state.Definition.{Definition}
use Rattle.jm_machine.specs.Machine.{Publisher}
use Rattle.jm_selector.specs.declared.literal.Literal.{Literal}
use Rattle.jm_selector.specs.Literals.{literals_of}
use Rattle.jm_sub.specs.Channels.{channel_eq, channel_of}
use Rattle.jm_sub.specs.Subscriptions.{wants}
use Rattle.jm_sub.specs.declared.channel.Channel.{Channel}

-- there is something, and it passes the test
abbrev pub passes : {X : Type 0} → (X → Bool) → Option X → Bool
passes test None = false
passes test (Some x) = test x

-- it stands in one of the channels, and wants the publisher's message
abbrev pub heard_in : List Channel → Publisher → Content → Key × Definition → Bool
heard_in channels sender m e = is_member channel_eq channels (channel_of e.1) && wants e.0 e.1 sender m

-- the channel of a topic's subscriptions that ask for no literal
abbrev pub open_channel : List ℕ → Channel
open_channel topic = record { literal = None; topic = topic }

-- the channel of those that ask for that literal
abbrev pub literal_channel : List ℕ → Literal → Channel
literal_channel topic literal = record { literal = Some literal; topic = topic }

-- the channels of a topic whose subscriptions may want a message that has those literals
abbrev pub channels_with : List ℕ → List Literal → List Channel
channels_with topic literals = open_channel topic ∷ map (literal_channel topic) literals

-- those whose subscriptions may want a message to that topic
abbrev pub channels_of : List ℕ → Content → List Channel
channels_of topic m = channels_with topic (literals_of m)

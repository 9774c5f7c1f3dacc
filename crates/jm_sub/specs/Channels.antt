-- The channels that the subscriptions stand in.
use Rattle.std.specs.Prelude.{Bool, ◌&&◌, List, map}
use Rattle.std.specs.Option.{option_eq}
use Rattle.jm_dest.specs.declared.key.Key.{Key}
use Rattle.jm_dest.specs.Names.{text_eq}
use Rattle.jm_machine.specs.declared.state.Definition.{Definition}
use Rattle.jm_selector.specs.declared.literal.Literal.{Literal}
use Rattle.jm_selector.specs.Literals.{literal_of}
use Rattle.jm_selector.specs.contracts.literal.LiteralPartialEq.TheImpl.{eq-value}
use Rattle.jm_sub.specs.declared.channel.Channel.{Channel}

-- the channel of a subscription that asks for that: its topic, and the literal that its selector asks for, if it asks for one
abbrev pub channel_of : Definition → Channel
channel_of d = record { literal = literal_of d.selector; topic = d.topic }

-- those of the subscriptions, in order of creation
abbrev pub channels_in : List (Key × Definition) → List Channel
channels_in entries = map (λ e. channel_of e.1) entries

-- both are the same literal
abbrev pub literal_eq : Literal → Literal → Bool
literal_eq a b = eq-value.it a b

-- both are of the same topic, and ask for the same literal
abbrev pub channel_eq : Channel → Channel → Bool
channel_eq a b = option_eq literal_eq a.literal b.literal && text_eq a.topic b.topic

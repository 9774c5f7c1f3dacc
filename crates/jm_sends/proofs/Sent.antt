-- Which types of the core may cross threads: each as its fields may. One lemma a type, since a search for all of them at once
-- runs out of steps.
use denote.Param.Send.{IsSend, sendable}
use Rattle.std.proofs.Crossing.{crosses}
use Rattle.std.proofs.MapsCrossing as maps
use Rattle.indexmap.proofs.map.IndexMap.TheSendSync as index_map
use Rattle.jm_dest.specs.contracts.key.Key as Key
use Rattle.jm_dest.specs.contracts.name.Name as Name
use Rattle.jm_tree.proofs.tree.Tree.TheLaws.TheKnot as tree
use Rattle.std.proofs.option.Option.TheSendSync as option
use Rattle.std.proofs.rt.Memory.TheSendSync as memory
use Rattle.jm_base.proofs.boxed.Boxed.TheSendSync as boxed
use Rattle.jm_base.proofs.list.List.TheSendSync as list
use Rattle.jm_base.proofs.text.Str.TheSendSync as str_
use Rattle.jm_tree.proofs.identifier.Field.TheSendSync as field
use Rattle.jm_tree.proofs.identifier.Identifier.TheSendSync as identifier
use Rattle.jm_tree.proofs.pattern.Items.TheSendSync as items
use Rattle.jm_tree.proofs.pattern.Pattern.TheSendSync as pattern
use Rattle.jm_tree.proofs.pattern.Segment.TheSendSync as segment
use Rattle.jm_tree.proofs.texts.Texts.TheSendSync as texts
use Rattle.jm_tree.proofs.tree.Additive.TheSendSync as additive
use Rattle.jm_tree.proofs.tree.Comparison.TheSendSync as comparison
use Rattle.jm_tree.proofs.tree.Multiplicative.TheSendSync as multiplicative
use Rattle.std.proofs.boxed.Box.TheSendSync as box_
use Rattle.std.proofs.string.String.TheSendSync as string_
use Rattle.std.proofs.vec.Vec.TheSendSync as vec_
use Rattle.std.proofs.collections.BTreeSet.TheSendSync as set_
use Rattle.std.proofs.collections.BTreeMap.TheSendSync as map_
use Rattle.std.proofs.alloc.Global.TheSendSync as global_
use Rattle.jm_tree.specs.contracts.tree.Tree as Tree
use Rattle.jm_base.specs.contracts.text.Str as Str
use Rattle.jm_selector.specs.contracts.literal.Literal as Literal
use Rattle.jm_selector.specs.contracts.selector.Selector as Selector
use Rattle.jm_header.specs.contracts.message.Message as Message
use Rattle.jm_property.specs.contracts.properties.Properties as Properties
use Rattle.jm_machine.specs.contracts.attached.Attached as Attached
use Rattle.jm_machine.specs.contracts.state.ConnectionState as ConnectionState
use Rattle.jm_machine.specs.contracts.state.SessionState as SessionState
use Rattle.jm_machine.specs.contracts.state.Consumer as Consumer
use Rattle.jm_machine.specs.contracts.state.Definition as Definition
use Rattle.jm_session.specs.contracts.clients.Clients as Clients
use Rattle.jm_session.specs.contracts.number.ConsumerNumber as ConsumerNumber
use Rattle.jm_session.specs.contracts.roster.Roster as Roster
use Rattle.jm_session.specs.contracts.sessions.Sessions as Sessions
use Rattle.jm_sub.specs.contracts.channel.Channel as Channel
use Rattle.jm_sub.specs.contracts.subs.Subs as Subs
use Rattle.jm_lane.specs.contracts.row.Row as Row
use Rattle.jm_lane.specs.contracts.lane.Lane as Lane
use Rattle.jm_pending.specs.contracts.held.Held as Held
use Rattle.jm_lane.specs.contracts.table.Stored as Stored
use Rattle.jm_lane.specs.contracts.table.Table as Table
use Rattle.jm_stations.specs.contracts.outstanding.Outstanding as Outstanding
use Rattle.jm_stations.specs.contracts.stations.Stations as Stations
use Rattle.jm_queues.specs.contracts.queues.Queues as Queues
use Rattle.jm_plans.specs.contracts.state.CoreState as CoreState
use Rattle.jm_core.specs.contracts.provider.Core as Core

pub Key_send : IsSend Key.the_row
Key_send = search (sendable, crosses, maps.crosses) depth 60 fits 20000

pub Name_send : IsSend Name.the_row
Name_send = search (sendable, crosses, maps.crosses) depth 60 fits 20000

pub Str_send : IsSend Str.the_row
Str_send = search (sendable, crosses, maps.crosses) depth 60 fits 20000

pub Tree_send : IsSend Tree.the_row
Tree_send = first_of (
  search (maps.crosses, crosses, tree.crosses_both, sendable) depth 60 fits 20000,
  search (option.the_send, memory.the_send, boxed.the_send, list.the_send, str_.the_send, field.the_send, identifier.the_send, items.the_send, pattern.the_send, segment.the_send, texts.the_send, additive.the_send, comparison.the_send, multiplicative.the_send, box_.the_send, string_.the_send, vec_.the_send, set_.the_send, map_.the_send, global_.the_send, tree.crosses, sendable) depth 60 fits 20000,
  search (option.the_send, memory.the_send, boxed.the_send, list.the_send, str_.the_send, field.the_send, identifier.the_send, items.the_send, pattern.the_send, segment.the_send, texts.the_send, additive.the_send, comparison.the_send, multiplicative.the_send, box_.the_send, string_.the_send, vec_.the_send, set_.the_send, map_.the_send, global_.the_send, tree.crosses_both, sendable) depth 60 fits 20000,
)

pub Selector_send : IsSend Selector.the_row
Selector_send = search (sendable, crosses, Str_send, Tree_send) depth 60 fits 20000

pub Attached_send : IsSend Attached.the_row
Attached_send = search (sendable, crosses, maps.crosses, Key_send) depth 60 fits 20000

pub ConnectionState_send : IsSend ConnectionState.the_row
ConnectionState_send = search (sendable, crosses, maps.crosses) depth 60 fits 20000

pub SessionState_send : IsSend SessionState.the_row
SessionState_send = search (sendable, crosses, maps.crosses) depth 60 fits 20000

pub Consumer_send : IsSend Consumer.the_row
Consumer_send = search (sendable, crosses, maps.crosses, Key_send, Selector_send) depth 60 fits 20000

pub Definition_send : IsSend Definition.the_row
Definition_send = search (sendable, crosses, maps.crosses, Name_send, Selector_send) depth 60 fits 20000

pub ConsumerNumber_send : IsSend ConsumerNumber.the_row
ConsumerNumber_send = search (sendable, crosses, maps.crosses) depth 60 fits 20000

pub Roster_send : IsSend Roster.the_row
Roster_send = search (sendable, crosses, maps.crosses, Consumer_send, Attached_send, ConsumerNumber_send) depth 60 fits 20000

Literal_field : IsSend (Literal.the_field).row
Literal_field = search (sendable, crosses, maps.crosses) depth 60 fits 20000

pub Channel_send : IsSend Channel.the_row
Channel_send = search (sendable, crosses, maps.crosses, Name_send, Literal_field) depth 60 fits 20000

pub Row_send : IsSend Row.the_row
Row_send = search (sendable, crosses, maps.crosses) depth 60 fits 20000

pub Lane_send : IsSend Lane.the_row
Lane_send = search (sendable, crosses, maps.crosses, Row_send) depth 60 fits 20000

pub Held_send : IsSend Held.the_row
Held_send = search (sendable, crosses, maps.crosses, Lane_send) depth 60 fits 20000

pub Properties_send : IsSend Properties.the_row
Properties_send = search (sendable, crosses, maps.crosses) depth 60 fits 20000

pub Message_send : IsSend Message.the_row
Message_send = search (sendable, crosses, maps.crosses, Properties_send) depth 60 fits 20000

pub Stored_send : IsSend Stored.the_row
Stored_send = search (sendable, crosses, maps.crosses, Message_send) depth 60 fits 20000

pub Table_send : IsSend Table.the_row
Table_send = search (sendable, crosses, maps.crosses, Stored_send) depth 60 fits 20000

Outstanding_send : IsSend Outstanding.the_row
Outstanding_send = search (sendable, crosses, maps.crosses) depth 60 fits 20000

pub Stations_send : IsSend Stations.the_row
Stations_send = search (sendable, crosses, maps.crosses, Key_send, Held_send, Table_send, Outstanding_send) depth 60 fits 20000

pub Queues_send : IsSend Queues.the_row
Queues_send = search (sendable, crosses, maps.crosses, Stations_send) depth 60 fits 20000

-- as a field, since to see that it is the row takes a search too many steps
pub Clients_field : IsSend (Clients.the_field).row
Clients_field = search (sendable, crosses, maps.crosses) depth 60 fits 20000

pub Sessions_send : IsSend Sessions.the_row
Sessions_send = search (sendable, crosses, maps.crosses, index_map.the_send, ConnectionState_send, SessionState_send, Clients_field, Roster_send) depth 60 fits 20000

pub Subs_send : IsSend Subs.the_row
Subs_send = search (sendable, crosses, maps.crosses, boxed.the_send, Key_send, Definition_send, Channel_send) depth 60 fits 20000

pub CoreState_send : IsSend CoreState.the_row
CoreState_send = search (sendable, crosses, Sessions_send, Subs_send, Stations_send, Queues_send) depth 60 fits 20000

-- a core may cross threads
pub Core_send : IsSend Core.the_row
Core_send = search (sendable, crosses, CoreState_send) depth 60 fits 20000

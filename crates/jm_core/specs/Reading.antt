-- What is read of the core and of a plan without a change: the rows under each key, and what the plan deletes, puts,
-- publishes and takes.
use Rattle.std.specs.Prelude.{◌≡◌, ◌⊎◌, ◌++◌, ℕ, Bool, true, false, List, [], map, slice_index_or, Option, Some, None, filter, option_map}
use Rattle.std.specs.List.{list_any}
use Rattle.jm_dest.specs.declared.key.Key.{Key}
use Rattle.jm_dest.specs.declared.key.Key.TheVariants.{Queue, Own, SharedOwn, Durable}
use Rattle.jm_dest.specs.Keys.{key_eq}
use Rattle.jm_header.specs.declared.content.Content.{Content}
use Rattle.jm_machine.specs.declared.state.Consumer.{Consumer}
use Rattle.jm_machine.specs.declared.state.Definition.{Definition}
use Rattle.jm_machine.specs.declared.state.PlacedRow.{PlacedRow}
use Rattle.jm_machine.specs.Machine.{State, consumer_of, selected_by}
use Rattle.jm_machine.specs.Under.{lasts_at, next_under, placed_under}
use Rattle.jm_sub.specs.Subscriptions.{Subscription}
use Rattle.jm_plans.specs.declared.plan.Change.{Change}
use Rattle.jm_plans.specs.declared.plan.Change.TheVariants as change
use Rattle.jm_parts.specs.declared.publish.Publication.{Publication}
use Rattle.jm_parts.specs.declared.receive.Taking.{Taking}
use Rattle.jm_parts.specs.Takings.{source_of}
use Rattle.jm_plans.specs.Provider.{Provider, state_of}
use Rattle.jm_queues.specs.Rows.{IsAt}
use Rattle.jm_stations.specs.declared.picked.Picked.{Picked}

-- Rows

-- the keys of the subscriptions, and then those of queues
abbrev pub keys_in : Provider → List Key
keys_in p = p.held.keys ++ p.queues.keys

-- the key stands there among those; or nowhere, and no row stands under it
abbrev pub IsIndexOf : Provider → Key → Option ℕ → Type 0
IsIndexOf p key None = placed_under (state_of p) key ≡ []
IsIndexOf p key (Some i) = IsAt (keys_in p) key i

-- each key under which rows stand is one of those
abbrev pub CoversRows : Provider → Type 0
CoversRows p = (key : Key) → (placed_under (state_of p) key ≡ []) ⊎ ((i : ℕ) × IsAt (keys_in p) key i)

-- Plans

-- the key of the subscription that the change deletes
abbrev pub deletes : Change → Option Key
deletes (change.Unsubscribe key) = Some key
deletes _ = None

-- a subscription that was decided: its key, and what it asks for
abbrev pub decides : Option (Key × Subscription) → Option (Key × Definition)
decides None = None
decides (Some d) = Some (d.0, d.1.definition)

-- the key of the subscription that the change puts, and what that asks for
abbrev pub puts : Change → Option (Key × Definition)
puts (change.CreateConsumer s c source decision) = decides decision
puts _ = None

-- the publications of the change
abbrev pub publications_of : Change → List Publication
publications_of (change.Publish publications) = publications.items
publications_of (change.Commit s publications) = publications.items
publications_of _ = []

-- the messages that the change publishes
abbrev pub publishes : Change → List Content
publishes change = map (λ (x : Publication). x.message) (publications_of change)

-- Deliveries

-- a delivery to the consumer that there may be, at that moment
abbrev pub delivery_to : ℕ → Option Consumer → Option (ℕ × Consumer)
delivery_to now source = option_map (λ x. (now, x)) source

-- the delivery that the change makes: to a consumer that receives, while its connection is started, or to a listener
abbrev pub delivery_of : State → Change → Option (ℕ × Consumer)
delivery_of state (change.Receive r taking) = delivery_to r.moment (source_of state.life state.consumers r.session r.consumer)
delivery_of state (change.ReceiveFrom r taking) = delivery_to r.moment (source_of state.life state.consumers r.session r.consumer)
delivery_of state (change.Take r taking) = delivery_to r.moment (consumer_of state.consumers r.session r.consumer)
delivery_of state (change.TakeFrom r taking) = delivery_to r.moment (consumer_of state.consumers r.session r.consumer)
delivery_of state _ = None

-- the place of the row that a delivery takes, where there is one
abbrev pub place_taken : State → Option (ℕ × Consumer) → Option ℕ
place_taken state None = None
place_taken state (Some d) = option_map (λ (r : PlacedRow). r.place) (next_under (selected_by (Some d.1)) d.0 d.1.key (placed_under state d.1.key))

-- the place of the row that the change takes
abbrev pub takes : State → Change → Option ℕ
takes state change = place_taken state (delivery_of state change)

-- the place of the row that was picked, where one was
abbrev pub picked_place : Option Taking → Option ℕ
picked_place None = None
picked_place (Some x) = option_map (λ (y : Picked). y.place) x.picked

-- Publications

-- the key is that of a durable subscription
abbrev pub is_durable : Key → Bool
is_durable (Queue name) = false
is_durable (Own s c) = false
is_durable (SharedOwn client name) = false
is_durable (Durable client name) = true

-- those of the keys with these indexes that are durable subscriptions'
abbrev pub durable_at : List Key → List ℕ → List Key
durable_at keys indexes = filter is_durable (map (λ i. slice_index_or keys i (Queue [])) indexes)

-- the keys are those at which the message lasts
abbrev pub AreLasting : State → Content → List Key → Type 0
AreLasting state m keys = (key : Key) → list_any (λ k. key_eq k key) keys ≡ lasts_at state m key

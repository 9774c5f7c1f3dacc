-- Publications that are prepared: where each goes, and that there is room for it.
use Rattle.std.specs.Prelude.{◌≡◌, ◌≤◌, ◌<◌, ◌+◌, ℕ, List, [], ◌∷◌, map, length, slice_index_or}
use Rattle.jm_dest.specs.declared.key.Key.{Key}
use Rattle.jm_header.specs.declared.content.Content.{Content}
use Rattle.jm_machine.specs.Life.{Life}
use Rattle.jm_machine.specs.Machine.{publisher_of, offered}
use Rattle.jm_stations.specs.Backlogs.{Backlog, IsPublished, is_named}
use Rattle.jm_stations.specs.Stations.{Stations}
use Rattle.jm_sub.specs.Subscriptions.{Subscription, takes}
use Rattle.jm_parts.specs.declared.publish.Goal.{Goal}
use Rattle.jm_parts.specs.declared.publish.Goal.TheVariants as goal
use Rattle.jm_parts.specs.declared.publish.Publication.{Publication}
use Rattle.jm_queues.specs.Queues.{IsQueued, IsReserved}
use Rattle.jm_machine.specs.declared.state.Station.{Station}

-- the indexes of the subscriptions to which a message goes
abbrev pub station_indexes : Goal → List ℕ
station_indexes (goal.Subscriptions indexes) = indexes.items
station_indexes (goal.Queue index) = []

-- the index of the queue to which it goes, where it goes to one
abbrev pub queue_indexes : Goal → List ℕ
queue_indexes (goal.Subscriptions indexes) = []
queue_indexes (goal.Queue index) = index ∷ []

-- there is room for so many more messages where the message goes
abbrev pub HasMessageRoom : ℕ → Stations → Stations → Goal → Type 0
HasMessageRoom n held queues (goal.Subscriptions indexes) = n ≤ held.message_room
HasMessageRoom n held queues (goal.Queue index) = n ≤ queues.message_room

-- there is room for so many more rows and messages there
pub record HasRoom (n : ℕ) (held queues : Stations) (g : Goal) : Type 0 where
  pub subscriptions : IsReserved n held.list (station_indexes g)
  pub queue : IsReserved n queues.list (queue_indexes g)
  pub messages : HasMessageRoom n held queues g

-- the indexes are those of the subscriptions that accept the message of its publisher
pub record IsRouted (life : Life) (subscriptions : List Subscription) (m : Content) (indexes : List ℕ) : Type 0 where
  pub each : (k : ℕ) (d : Subscription) → k < length subscriptions → is_named indexes k ≡ takes (publisher_of life m) m (slice_index_or subscriptions k d)

-- the publication goes to the subscriptions that accept it, or to its queue
pub record IsAimed (life : Life) (subscriptions : List Subscription) (keys : List Key) (x : Publication) : Type 0 where
  pub routed : IsRouted life subscriptions x.message (station_indexes x.goal)
  pub queued : IsQueued keys x.message.destination (queue_indexes x.goal)

-- it does, and there is room for so many more there
pub record IsReady (n : ℕ) (life : Life) (subscriptions : List Subscription) (held queues : Stations) (x : Publication) : Type 0 where
  pub room : HasRoom n held queues x.goal
  pub aimed : IsAimed life subscriptions queues.keys x

-- the publications came to the subscriptions in turn, the first at that place
abbrev pub ArePublished : List Publication → ℕ → List Backlog → List Backlog → Type 0
ArePublished [] place old new = new ≡ old
ArePublished (x ∷ publications) place old new = (mid : List Backlog) × IsPublished (station_indexes x.goal) place x.message old mid × ArePublished publications (place + 1) mid new

-- the stations after messages are published, the first at that place, with that limit, the connections being these
abbrev pub published_stations : ℕ → Life → ℕ → List Content → List Station → List Station
published_stations limit life place [] stations = stations
published_stations limit life place (m ∷ messages) stations = published_stations limit life (place + 1) messages (map (offered limit (publisher_of life m) m place) stations)

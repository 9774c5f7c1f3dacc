-- What acknowledgement and closing leave of what is held.
use Rattle.std.specs.Prelude.{ℕ, Bool, not, List, Some, filter, map, if◌then◌else◌}
use Rattle.jm_base.specs.declared.mode.Mode.{Mode}
use Rattle.jm_dest.specs.declared.session.SessionId.{SessionId}
use Rattle.jm_dest.specs.declared.key.Key.{Key}
use Rattle.jm_dest.specs.Keys.{key_eq}
use Rattle.jm_machine.specs.declared.consumers.Consumers.{Consumers}
use Rattle.jm_machine.specs.declared.state.PlacedRow.{PlacedRow}
use Rattle.jm_machine.specs.Attached.{Counts, ended}
use Rattle.jm_machine.specs.Machine.{are_meant, at_queues, is_client, of_session, returned_rows, settled_rows}
use Rattle.jm_stations.specs.Backlogs.{Backlog, returned, settled}
use Rattle.jm_sub.specs.Subscriptions.{Subscription}

-- what is held after the session acknowledged, in that mode
abbrev pub acknowledged : Mode → SessionId → List Backlog → List Backlog
acknowledged mode s list = if is_client (Some mode) then map (settled (of_session s)) list else list

-- what queues hold then
abbrev pub acknowledged_queues : Mode → SessionId → (List ℕ → List PlacedRow) → List ℕ → List PlacedRow
acknowledged_queues mode s queues = if is_client (Some mode) then at_queues (settled_rows (of_session s)) queues else queues

-- what is held after what is out through those consumers waits again
abbrev pub given_back : Consumers → List Backlog → List Backlog
given_back which list = map (returned (are_meant which)) list

-- what queues hold then
abbrev pub given_back_queues : Consumers → (List ℕ → List PlacedRow) → List ℕ → List PlacedRow
given_back_queues which queues = at_queues (returned_rows (are_meant which)) queues

-- the subscription of the key stays as those consumers close, where so many active ones are left at each key
abbrev pub is_kept : Consumers → Counts → Key → Bool
is_kept which left key = not (ended which left key)

-- all but the key
abbrev pub is_other : Key → Key → Bool
is_other key other = not (key_eq other key)

-- the subscriptions whose keys pass
abbrev pub kept_subscriptions : (Key → Bool) → List Subscription → List Subscription
kept_subscriptions p subscriptions = filter (λ s. p s.key) subscriptions

-- the keys that pass
abbrev pub kept_keys : (Key → Bool) → List Key → List Key
kept_keys p keys = filter p keys

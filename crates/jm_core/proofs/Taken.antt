-- What a plan has picked is the next row of what stands under the consumer's key.
use Rattle.std.proofs.Common.{◌≡◌, ◌∙◌, ℕ, Bool, false, List, [], Option, Some, None, refl, ap, sym, get_or}
use Rattle.std.specs.Prelude.{option_map}
use Rattle.jm_dest.specs.declared.key.Key.{Key}
use Rattle.jm_dest.specs.declared.key.Key.TheVariants.{Queue, Own, SharedOwn, Durable}
use Rattle.jm_header.specs.declared.content.Content.{Content}
use Rattle.jm_machine.specs.declared.state.Consumer.{Consumer}
use Rattle.jm_machine.specs.declared.state.PlacedRow.{PlacedRow}
use Rattle.jm_machine.specs.Machine.{key_at, selected_by}
use Rattle.jm_machine.specs.Wants.{next_chosen, next_placed}
use Rattle.jm_machine.specs.Under.{next_under, placed_under}
use Rattle.jm_stations.specs.declared.picked.Picked.{Picked}
use Rattle.jm_stations.specs.Backlogs.{Backlog, any, empty, picked_of}
use Rattle.jm_stations.proofs.Any.{next_any}
use Rattle.jm_parts.specs.declared.receive.Receiver.{Receiver}
use Rattle.jm_parts.specs.declared.receive.Taking.{Taking}
use Rattle.jm_parts.specs.State.{IsSound}
use Rattle.jm_parts.specs.Takings.{IsTaken, IsTakenFrom, is_queue, settles}
use Rattle.jm_plans.specs.Provider.{Provider, state_of}
use Rattle.jm_queues.specs.Queues.{rows_in}
use Rattle.jm_queues.proofs.Indexed.{key_there}
use Rattle.jm_queues.proofs.QueueRows.{rows_found, rows_missing}
use Rattle.jm_core.specs.Reading.{delivery_to, picked_place, place_taken}
use Rattle.jm_core.proofs.ReadKeys.{rows_first, subscription_at, subscription_missing}

-- the place of a row
abbrev place_of : Option PlacedRow → Option ℕ
place_of o = option_map (λ (r : PlacedRow). r.place) o

-- what is picked is at the place of the row
picked_there : (s : Bool) (list : List Backlog) (o : Option PlacedRow) → option_map (λ (y : Picked). y.place) (picked_of s list o) ≡ place_of o
picked_there s list None = refl
picked_there s list (Some x) = refl

none_under : (p : Content → Bool) (now : ℕ) (key : Key) → None ≡ place_of (next_under p now key [])
none_under p now (Queue name) = refl
none_under p now (Own s c) = refl
none_under p now (SharedOwn client name) = refl
none_under p now (Durable client name) = refl

under_subscription : (p : Content → Bool) (now : ℕ) (key : Key) (rows : List PlacedRow) → is_queue (Some key) ≡ false → next_placed now rows ≡ next_under p now key rows
under_subscription p now (Queue name) rows h = absurd cc
under_subscription p now (Own s c) rows h = refl
under_subscription p now (SharedOwn client name) rows h = refl
under_subscription p now (Durable client name) rows h = refl

module _ (limit place : ℕ) (p : Provider) (h : IsSound limit p.known.consumers p.subscriptions.list p.held.keys p.held.list place) where
  -- of a subscription
  held_place : (r : Receiver) (x : Consumer) (o : Option Taking) → is_queue (Some x.key) ≡ false → IsTaken (Some x.key) r p.held.keys p.held.list o → picked_place o ≡ place_taken (state_of p) (Some (r.moment, x))
  held_place r x None q e =
      none_under (selected_by (Some x)) r.moment x.key
      ∙ ap (λ rows. place_of (next_under (selected_by (Some x)) r.moment x.key rows)) (sym (subscription_missing limit place p h x.key q e))
  held_place r x (Some t) q e =
      let d : Backlog = empty None in
      let there = key_there p.held.keys x.key t.index e.0 in
      let at = subscription_at limit place p h x.key t.index e.0 in
      let rows : (get_or p.held.list t.index d).rows ≡ placed_under (state_of p) x.key =
      rows_first limit place p h t.index x.key d there.0 ∙ ap (λ (k : Key). placed_under (state_of p) k) (at.1 x.key) in
      ap (λ (o : Option Picked). option_map (λ (y : Picked). y.place) o) (e.1 d)
      ∙ picked_there (settles r) p.held.list (next_chosen any r.moment (get_or p.held.list t.index d).rows)
      ∙ ap place_of (next_any r.moment (get_or p.held.list t.index d).rows)
      ∙ ap (λ rs. place_of (next_placed r.moment rs)) rows
      ∙ ap place_of (under_subscription (selected_by (Some x)) r.moment x.key (placed_under (state_of p) x.key) q)

  -- for the consumer that there may be, where none is there nothing is taken
  pub taken_held : (r : Receiver) (source : Option Consumer) (o : Option Taking) → is_queue (key_at source) ≡ false → IsTaken (key_at source) r p.held.keys p.held.list o → picked_place o ≡ place_taken (state_of p) (delivery_to r.moment source)
  taken_held r None o q e = ap picked_place e
  taken_held r (Some x) o q e = held_place r x o q e

  -- of a queue
  queue_place : (r : Receiver) (x : Consumer) (name : List ℕ) (o : Option Taking) → IsTakenFrom name (selected_by (Some x)) r p.queues o → picked_place o ≡ place_of (next_chosen (selected_by (Some x)) r.moment (rows_in p.queues name))
  queue_place r x name None e =
      ap (λ rows. place_of (next_chosen (selected_by (Some x)) r.moment rows)) (sym (rows_missing p.queues.keys p.queues.list name e))
  queue_place r x name (Some t) e =
      let d : Backlog = empty None in
      ap (λ (o : Option Picked). option_map (λ (y : Picked). y.place) o) (e.2 d)
      ∙ picked_there (settles r) p.queues.list (next_chosen (selected_by (Some x)) r.moment (get_or p.queues.list t.index d).rows)
      ∙ ap (λ rs. place_of (next_chosen (selected_by (Some x)) r.moment rs)) (sym (rows_found p.queues.keys p.queues.list name t.index d e.0 e.1))

  pub taken_queue : (r : Receiver) (source : Option Consumer) (x : Consumer) (name : List ℕ) (o : Option Taking) → source ≡ Some x → x.key ≡ Queue name → IsTakenFrom name (selected_by (Some x)) r p.queues o → picked_place o ≡ place_taken (state_of p) (delivery_to r.moment source)
  taken_queue r source x name o s k e =
      queue_place r x name o e
      ∙ ap (λ (key : Key). place_of (next_under (selected_by (Some x)) r.moment key (placed_under (state_of p) key))) (sym k)
      ∙ ap (λ (y : Option Consumer). place_taken (state_of p) (delivery_to r.moment y)) (sym s)

-- Rows stand in order after each publication, and after each settling.
use Rattle.std.proofs.Common.{◌<◌, ◌+◌, ℕ, Bool, true, false, cond, List, [], ◌∷◌, ◌++◌, map, length, arith}
use Rattle.jm_dest.specs.declared.destination.Destination.{Destination}
use Rattle.jm_dest.specs.declared.destination.Destination.TheVariants.{Queue, Topic}
use Rattle.jm_dest.specs.declared.session.SessionId.{SessionId}
use Rattle.jm_dest.specs.Names.{text_eq}
use Rattle.jm_header.specs.declared.content.Content.{Content}
use Rattle.jm_machine.specs.declared.state.PlacedRow.{PlacedRow}
use Rattle.jm_machine.specs.declared.state.Row.{Row}
use Rattle.jm_machine.specs.declared.state.Station.{Station}
use Rattle.jm_machine.specs.Rows.{AllAbove, InOrder, fresh}
use Rattle.jm_machine.specs.Machine.{State, AllInOrder, Publisher, publisher_of, accepts, is_full, one_missed, brought, offered, queued, with_rows, with_message, settled_rows, settled}
use Rattle.jm_machine.proofs.Order.{reached_in_order, queues_in_order}
use Rattle.jm_keep.specs.Steps.{StandsInOrder}
use Rattle.jm_keep.specs.Apart.{ReachedInOrder}
use Rattle.jm_keep_law.proofs.Placed.{order_filter}

above_push : (n m : ℕ) (r : Row) (rows : List PlacedRow) → n < m → AllAbove n rows → AllAbove n (rows ++ record { place = m; row = r } ∷ [])
above_push n m r [] l h = (l, tt)
above_push n m r (x ∷ rows) l h = (h.0, above_push n m r rows l h.1)

-- a row at the next place
order_push : (n : ℕ) (r : Row) (rows : List PlacedRow) → InOrder n rows → InOrder (n + 1) (rows ++ record { place = n; row = r } ∷ [])
order_push n r [] h = (omega arith, tt, tt)
order_push n r (x ∷ rows) h = (omega (arith, h.0), above_push x.place n r rows h.0 h.1, order_push n r rows h.2)

-- a place further
order_on : (n : ℕ) (rows : List PlacedRow) → InOrder n rows → InOrder (n + 1) rows
order_on n [] h = h
order_on n (x ∷ rows) h = (omega (arith, h.0), h.1, order_on n rows h.2)

order_brought : (limit : ℕ) (m : Content) (n : ℕ) (x : Station) → InOrder n x.rows → InOrder (n + 1) (brought limit m n x).rows
order_brought limit m n x h = go (is_full limit x.key (length x.rows))
  where
    go : (b : Bool) → InOrder (n + 1) (cond b (record { key = x.key; definition = x.definition; missed = one_missed x.missed; rows = x.rows }) (with_rows (λ rows. rows ++ record { place = n; row = fresh m } ∷ []) x)).rows
    go true = order_on n x.rows h
    go false = order_push n (fresh m) x.rows h

order_offered : (limit : ℕ) (p : Publisher) (m : Content) (n : ℕ) (x : Station) → InOrder n x.rows → InOrder (n + 1) (offered limit p m n x).rows
order_offered limit p m n x h = go (accepts x.key x.definition p m)
  where
    go : (b : Bool) → InOrder (n + 1) (cond b (brought limit m n x) x).rows
    go true = order_brought limit m n x h
    go false = order_on n x.rows h

all_offered : (limit : ℕ) (p : Publisher) (m : Content) (n : ℕ) (xs : List Station) → AllInOrder n xs → AllInOrder (n + 1) (map (offered limit p m n) xs)
all_offered limit p m n [] h = h
all_offered limit p m n (x ∷ xs) h = (order_offered limit p m n x h.0, all_offered limit p m n xs h.1)

queues_queued : (n : ℕ) (destination : Destination) (m : Content) (queues : List ℕ → List PlacedRow) → ((other : List ℕ) → InOrder n (queues other)) → (other : List ℕ) → InOrder (n + 1) (queued destination m n queues other)
queues_queued n (Topic name) m queues h other = order_on n (queues other) (h other)
queues_queued n (Queue name) m queues h other = go (text_eq name other)
  where
    go : (b : Bool) → InOrder (n + 1) (cond b (queues other ++ record { place = n; row = fresh m } ∷ []) (queues other))
    go true = order_push n (fresh m) (queues other) (h other)
    go false = order_on n (queues other) (h other)

pub order_message : (state : State) (m : Content) → StandsInOrder state → StandsInOrder (with_message state m)
order_message state m h = record {
  stations = all_offered state.limit (publisher_of state.life m) m state.next_place state.stations h.stations;
  queues = queues_queued state.next_place m.destination m state.queues h.queues;
}

all_settled : (n : ℕ) (p : SessionId → ℕ → Bool) (xs : List Station) → AllInOrder n xs → AllInOrder n (map (with_rows (settled_rows p)) xs)
all_settled n p [] h = h
all_settled n p (x ∷ xs) h = (order_filter n _ x.rows h.0, all_settled n p xs h.1)

pub order_settled : (state : State) (p : SessionId → ℕ → Bool) → StandsInOrder state → StandsInOrder (settled p state)
order_settled state p h = record {
  stations = all_settled state.next_place p state.stations h.stations;
  queues = λ name. order_filter state.next_place _ (state.queues name) (h.queues name);
}

pub reached_ordered : ReachedInOrder
reached_ordered state r = record { stations = reached_in_order state r; queues = queues_in_order state r }

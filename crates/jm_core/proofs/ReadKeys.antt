-- What is read of the core by the index of a key.
use Rattle.std.proofs.Common.{◌≡◌, ◌<◌, ◌≤◌, ◌+◌, ◌-◌, ◌++◌, ◌==◌, ℕ, Bool, false, true, cond, List, [], ◌∷◌, length, get_or, refl, ap, sym, ◌∙◌, arith, Option, Some, None, inl, inr}
use Rattle.std.specs.Prelude.{◌⊎◌, ◌||◌, option_map}
use Rattle.std.specs.List.{All, IsDistinct, list_any, position_or_len}
use Rattle.std.proofs.lemmas.Bool.Decides.{nat_tests}
use Rattle.std.proofs.lemmas.Option.{slice_get-get_or}
use Rattle.std.proofs.lemmas.List.Elements.{All-head, All-tail, All-nil, All-weaker}
use Rattle.std.proofs.lemmas.List.{get_or-append_right, get_or-map, get_or_append_left}
use Rattle.jm_dest.specs.declared.destination.Destination.{Destination}
use Rattle.jm_dest.specs.declared.destination.Destination.TheVariants as destination
use Rattle.jm_dest.specs.declared.key.Key.{Key}
use Rattle.jm_dest.specs.declared.key.Key.TheVariants.{Queue, Own, SharedOwn, Durable}
use Rattle.jm_dest.specs.Keys.{key_eq}
use Rattle.jm_dest.specs.Names.{text_eq}
use Rattle.jm_header.specs.declared.content.Content.{Content}
use Rattle.jm_machine.specs.declared.state.Station.{Station}
use Rattle.jm_machine.specs.Machine.{accepts, publisher_of, station_of}
use Rattle.jm_machine.specs.Wants.{placed_rows}
use Rattle.jm_machine.proofs.Keys.{key_refl, key_same}
use Rattle.jm_stations.specs.Backlogs.{Backlog, empty, is_named}
use Rattle.jm_stations.specs.Stations.{index_in}
use Rattle.jm_sub.specs.Subscriptions.{Subscription, takes}
use Rattle.jm_plans.specs.Provider.{Provider, state_of}
use Rattle.jm_parts.specs.Publications.{IsRouted}
use Rattle.jm_queues.specs.Queues.{IsQueued}
use Rattle.jm_core.specs.Reading.{AreLasting, CoversRows, IsIndexOf, durable_at, is_durable, keys_in}
use Rattle.jm_queues.specs.Rows.{IsAt}
use Rattle.jm_machine.specs.Attached.{IsOfSubscription}
use Rattle.jm_machine.specs.Under.{is_accepted, is_for, lasts_at, placed_under}
use Rattle.jm_parts.specs.State.{IsSound, keys_of}
use Rattle.jm_parts.specs.Takings.{is_queue}
use Rattle.jm_queues.proofs.Indexed.{at_behind, at_first, key_there, place_here}
use Rattle.jm_queues.proofs.QueueRows.{rows_missing}
use Rattle.jm_plans.proofs.Seen.{station_found, station_missing}
use Rattle.jm_queues.proofs.Found.{fails_all, found_none}
use Rattle.jm_parts.proofs.Stations.{key_found, length-keys}

-- ---- the keys with some indexes that are durable subscriptions'

durable_is : (a b : Key) → key_eq a b ≡ true → is_durable a ≡ is_durable b
durable_is a b e = ap is_durable (key_same a b e)

-- one that is no durable subscription's is not among them
pub not_among : (keys : List Key) (key : Key) → is_durable key ≡ false → (is : List ℕ) → list_any (λ k. key_eq k key) (durable_at keys is) ≡ false
not_among keys key d [] = refl
not_among keys key d (i ∷ is) = go (get_or keys i (Queue [])) (is_durable (get_or keys i (Queue []))) refl (not_among keys key d is)
  where
    go : (k : Key) (b : Bool) → is_durable k ≡ b → list_any (λ k. key_eq k key) (durable_at keys is) ≡ false → list_any (λ k. key_eq k key) (cond b (k ∷ durable_at keys is) (durable_at keys is)) ≡ false
    go k false e r = r
    go k true e r = by (key_eq k key) refl
      where
        by : (b : Bool) → key_eq k key ≡ b → (b || list_any (λ k. key_eq k key) (durable_at keys is)) ≡ false
        by true f = absurd (let no : true ≡ false = sym e ∙ durable_is k key f ∙ d in cc)
        by false f = r

-- one that stands nowhere is not
pub none_among : (keys : List Key) (key : Key) → index_in keys key ≡ None → (is : List ℕ) → All (λ i. i < length keys) is → list_any (λ k. key_eq k key) (durable_at keys is) ≡ false
none_among keys key e [] all = refl
none_among keys key e (i ∷ is) all = go (is_durable (get_or keys i (Queue []))) (none_among keys key e is (All-tail (λ i. i < length keys) i is all))
  where
    apart : key_eq (get_or keys i (Queue [])) key ≡ false
    apart = fails_all (λ x. key_eq x key) keys (found_none (λ x. key_eq x key) keys e) i (Queue []) (All-head (λ i. i < length keys) i is all)

    go : (b : Bool) → list_any (λ k. key_eq k key) (durable_at keys is) ≡ false → list_any (λ k. key_eq k key) (cond b (get_or keys i (Queue []) ∷ durable_at keys is) (durable_at keys is)) ≡ false
    go true r = ap (λ b. b || list_any (λ k. key_eq k key) (durable_at keys is)) apart ∙ r
    go false r = r

-- one that is a durable subscription's is where its index is named
pub named_among : (keys : List Key) (key : Key) (j : ℕ) → is_durable key ≡ true → IsDistinct key_eq keys → IsAt keys key j → (is : List ℕ) → All (λ i. i < length keys) is → list_any (λ k. key_eq k key) (durable_at keys is) ≡ is_named is j
named_among keys key j d once at [] all = refl
named_among keys key j d once at (i ∷ is) all = go (i == j) refl (named_among keys key j d once at is (All-tail (λ i. i < length keys) i is all))
  where
    k : Key
    k = get_or keys i (Queue [])

    other : (b : Bool) → key_eq k key ≡ b → (i == j) ≡ false → key_eq k key ≡ false
    other false f e = f
    other true f e =
        let l : i < length keys = All-head (λ i. i < length keys) i is all in
        let here = place_here keys i key (Queue []) once (key_same k key f) l in
        let there = place_here keys j key (Queue []) once (at.1 (Queue [])) at.0 in
        absurd (grind (arith, nat_tests, e, here, there))

    go : (b : Bool) → (i == j) ≡ b → list_any (λ k. key_eq k key) (durable_at keys is) ≡ is_named is j → list_any (λ k. key_eq k key) (cond (is_durable k) (k ∷ durable_at keys is) (durable_at keys is)) ≡ (b || is_named is j)
    go true e r =
        let same : i ≡ j = grind (arith, nat_tests) in
        let named : k ≡ key = ap (λ n. get_or keys n (Queue [])) same ∙ at.1 (Queue []) in
        rw named (rw d (ap (λ b. b || list_any (λ k. key_eq k key) (durable_at keys is)) (key_refl key)))
    go false e r = by (is_durable k)
      where
        by : (b : Bool) → list_any (λ k. key_eq k key) (cond b (k ∷ durable_at keys is) (durable_at keys is)) ≡ is_named is j
        by true = ap (λ b. b || list_any (λ k. key_eq k key) (durable_at keys is)) (other (key_eq k key) refl e) ∙ r
        by false = r

-- one index more
pub durable_push : (keys : List Key) (is : List ℕ) (i : ℕ) → durable_at keys (is ++ i ∷ []) ≡ durable_at keys is ++ cond (is_durable (get_or keys i (Queue []))) (get_or keys i (Queue []) ∷ []) []
durable_push keys [] i = refl
durable_push keys (j ∷ is) i = go (is_durable (get_or keys j (Queue []))) (durable_push keys is i)
  where
    go : (b : Bool) → durable_at keys (is ++ i ∷ []) ≡ durable_at keys is ++ cond (is_durable (get_or keys i (Queue []))) (get_or keys i (Queue []) ∷ []) [] →
        cond b (get_or keys j (Queue []) ∷ durable_at keys (is ++ i ∷ [])) (durable_at keys (is ++ i ∷ [])) ≡ cond b (get_or keys j (Queue []) ∷ durable_at keys is) (durable_at keys is) ++ cond (is_durable (get_or keys i (Queue []))) (get_or keys i (Queue []) ∷ []) []
    go true r = ap (λ ks. get_or keys j (Queue []) ∷ ks) r
    go false r = r

module _ (limit place : ℕ) (p : Provider) (h : IsSound limit p.known.consumers p.subscriptions.list p.held.keys p.held.list place) where
  -- ---- a key that stands nowhere

  none_held : (key : Key) → index_in p.held.keys key ≡ None → placed_rows (station_of key (state_of p).stations) ≡ []
  none_held key e =
      let none = station_missing key p.subscriptions.list p.held.list (ap (λ keys. index_in keys key) h.same ∙ e) in
      ap (λ (o : Option Station). placed_rows o) (sym none)

  pub queue_missing : (key : Key) → is_queue (Some key) ≡ true → index_in p.queues.keys key ≡ None → placed_under (state_of p) key ≡ []
  queue_missing (Queue name) q e = rows_missing p.queues.keys p.queues.list name e
  queue_missing (Own s c) q e = absurd cc
  queue_missing (SharedOwn client name) q e = absurd cc
  queue_missing (Durable client name) q e = absurd cc

  pub subscription_missing : (key : Key) → is_queue (Some key) ≡ false → index_in p.held.keys key ≡ None → placed_under (state_of p) key ≡ []
  subscription_missing (Queue name) q e = absurd cc
  subscription_missing (Own s c) q e = none_held (Own s c) e
  subscription_missing (SharedOwn client name) q e = none_held (SharedOwn client name) e
  subscription_missing (Durable client name) q e = none_held (Durable client name) e

  -- ---- where a key stands

  pub queue_at : (key : Key) (i : ℕ) → index_in p.queues.keys key ≡ Some i → IsAt (keys_in p) key (length p.held.keys + i)
  queue_at key i e = at_behind p.held.keys p.queues.keys key i (key_there p.queues.keys key i e)

  pub subscription_at : (key : Key) (i : ℕ) → index_in p.held.keys key ≡ Some i → IsAt (keys_in p) key i
  subscription_at key i e = at_first p.held.keys p.queues.keys key i (key_there p.held.keys key i e)

  pub subscription_index : (key : Key) → is_queue (Some key) ≡ false → (o : Option ℕ) → index_in p.held.keys key ≡ o → IsIndexOf p key o
  subscription_index key q None e = subscription_missing key q e
  subscription_index key q (Some i) e = subscription_at key i e

  pub covered : CoversRows p
  covered key = go (is_queue (Some key)) refl (index_in p.queues.keys key) refl (index_in p.held.keys key) refl
    where
      go : (b : Bool) → is_queue (Some key) ≡ b → (o : Option ℕ) → index_in p.queues.keys key ≡ o → (s : Option ℕ) → index_in p.held.keys key ≡ s → (placed_under (state_of p) key ≡ []) ⊎ ((i : ℕ) × IsAt (keys_in p) key i)
      go true q None e s f = inl (queue_missing key q e)
      go true q (Some i) e s f = inr (length p.held.keys + i, queue_at key i e)
      go false q o e None f = inl (subscription_missing key q f)
      go false q o e (Some i) f = inr (i, subscription_at key i f)

  -- ---- the rows under the key with an index

  rows_here : (key c : Key) (i : ℕ) (d : Backlog) → get_or p.held.keys i c ≡ key → i < length p.held.keys → placed_rows (station_of key (state_of p).stations) ≡ (get_or p.held.list i d).rows
  rows_here key c i d at l =
      let found = ap (λ (keys : List Key). position_or_len (λ x. key_eq x key) keys) h.same ∙ place_here p.held.keys i key c h.once at l in
      (key_found key (λ rows. rows) p.subscriptions.list p.held.list d i h.number found (omega (arith, l, ap (λ (keys : List Key). length keys) h.same, length-keys p.subscriptions.list))).1

  rows_held : (key c : Key) (i : ℕ) (d : Backlog) → IsOfSubscription p.known.consumers key → get_or p.held.keys i c ≡ key → i < length p.held.keys → (get_or p.held.list i d).rows ≡ placed_under (state_of p) key
  rows_held (Queue name) c i d of at l = absurd of
  rows_held (Own s n) c i d of at l = sym (rows_here (Own s n) c i d at l)
  rows_held (SharedOwn client name) c i d of at l = sym (rows_here (SharedOwn client name) c i d at l)
  rows_held (Durable client name) c i d of at l = sym (rows_here (Durable client name) c i d at l)

  pub rows_first : (i : ℕ) (c : Key) (d : Backlog) → i < length p.held.keys → (get_or p.held.list i d).rows ≡ placed_under (state_of p) (get_or (keys_in p) i c)
  rows_first i c d l =
      rows_held (get_or p.held.keys i c) c i d (h.made i c l) refl l
      ∙ ap (λ (key : Key). placed_under (state_of p) key) (sym (get_or_append_left p.held.keys p.queues.keys c i l))

  pub key_behind : (n i : ℕ) (c : Key) → length p.held.keys ≡ n → n ≤ i → get_or (keys_in p) i c ≡ get_or p.queues.keys (i - n) c
  key_behind n i c e l = get_or-append_right p.held.keys p.queues.keys n i c e l

  -- ---- where a message lasts

  -- the subscription of a key accepts the message, where it is found
  accepted_at : (m : Content) (key : Key) (j : ℕ) (s : Subscription) → index_in p.held.keys key ≡ Some j → is_accepted (publisher_of p.known.life m) m (station_of key (state_of p).stations) ≡ takes (publisher_of p.known.life m) m (get_or p.subscriptions.list j s)
  accepted_at m key j s e =
      let x : Subscription = get_or p.subscriptions.list j s in
      let at = ap (λ keys. index_in keys key) h.same ∙ e in
      let within : j < length p.subscriptions.list = omega (arith, (key_there (keys_of p.subscriptions.list) key j at).0, length-keys p.subscriptions.list) in
      let there = station_found key p.subscriptions.list p.held.list j x.definition (empty None) h.number at (ap (λ (o : Option Subscription). option_map (λ (y : Subscription). y.definition) o) (slice_get-get_or p.subscriptions.list j s within)) in
      let named : x.key ≡ key = sym (get_or-map (λ (y : Subscription). y.key) p.subscriptions.list j s key within) ∙ (key_there (keys_of p.subscriptions.list) key j at).1 key in
      ap (λ (o : Option Station). is_accepted (publisher_of p.known.life m) m o) (sym there)
      ∙ ap (λ (k : Key). accepts k x.definition (publisher_of p.known.life m) m) (sym named)

  accepted_none : (m : Content) (key : Key) → index_in p.held.keys key ≡ None → is_accepted (publisher_of p.known.life m) m (station_of key (state_of p).stations) ≡ false
  accepted_none m key e =
      let none = station_missing key p.subscriptions.list p.held.list (ap (λ keys. index_in keys key) h.same ∙ e) in
      ap (λ (o : Option Station). is_accepted (publisher_of p.known.life m) m o) (sym none)

  within_keys : (is : List ℕ) → All (λ i. i < length p.held.list) is → All (λ i. i < length p.held.keys) is
  within_keys is all = All-weaker (λ i. i < length p.held.list) (λ i. i < length p.held.keys) (λ i l. omega (arith, l, h.number, length-keys p.subscriptions.list, ap (λ (keys : List Key). length keys) h.same)) is all

  durable_lasts : (m : Content) (is : List ℕ) (key : Key) → is_durable key ≡ true → IsRouted p.known.life p.subscriptions.list m is → All (λ i. i < length p.held.list) is →
      list_any (λ k. key_eq k key) (durable_at p.held.keys is) ≡ is_accepted (publisher_of p.known.life m) m (station_of key (state_of p).stations)
  durable_lasts m is key durable routed all = go (index_in p.held.keys key) refl
    where
      one : Subscription
      one = record { key = key; definition = record { topic = []; selector = None; no_local = false; shared = false } }

      go : (o : Option ℕ) → index_in p.held.keys key ≡ o → list_any (λ k. key_eq k key) (durable_at p.held.keys is) ≡ is_accepted (publisher_of p.known.life m) m (station_of key (state_of p).stations)
      go None e = none_among p.held.keys key e is (within_keys is all) ∙ sym (accepted_none m key e)
      go (Some j) e =
          let at = key_there p.held.keys key j e in
          named_among p.held.keys key j durable h.once at is (within_keys is all)
          ∙ routed.each j one (omega (arith, at.0, length-keys p.subscriptions.list, ap (λ (keys : List Key). length keys) h.same))
          ∙ sym (accepted_at m key j one e)

  pub lasting_subscriptions : (m : Content) (is : List ℕ) → IsRouted p.known.life p.subscriptions.list m is → All (λ i. i < length p.held.list) is → IsQueued p.queues.keys m.destination [] → AreLasting (state_of p) m (durable_at p.held.keys is)
  lasting_subscriptions m is routed all queued (Queue name) = not_among p.held.keys (Queue name) refl is ∙ go m.destination queued
    where
      go : (d : Destination) → IsQueued p.queues.keys d [] → false ≡ is_for name d
      go (destination.Queue queue) q = absurd (let no = q.1 in cc)
      go (destination.Topic topic) q = refl
  lasting_subscriptions m is routed all queued (Own s c) = not_among p.held.keys (Own s c) refl is
  lasting_subscriptions m is routed all queued (SharedOwn client name) = not_among p.held.keys (SharedOwn client name) refl is
  lasting_subscriptions m is routed all queued (Durable client name) = durable_lasts m is (Durable client name) refl routed all

  pub lasting_queue : (m : Content) (i : ℕ) (k c : Key) → IsRouted p.known.life p.subscriptions.list m [] → IsQueued p.queues.keys m.destination (i ∷ []) → k ≡ get_or p.queues.keys i c → AreLasting (state_of p) m (k ∷ [])
  lasting_queue m i k c routed queued is key = go m.destination queued refl
    where
      alone : (b : Bool) → (b || false) ≡ b
      alone true = refl
      alone false = refl

      by : (name : List ℕ) → m.destination ≡ destination.Queue name → (other : Key) → list_any (λ x. key_eq x other) (Queue name ∷ []) ≡ lasts_at (state_of p) m other
      by name e (Queue other) = alone (text_eq name other) ∙ ap (is_for other) (sym e)
      by name e (Own s n) = refl
      by name e (SharedOwn client other) = refl
      by name e (Durable client other) = durable_lasts m [] (Durable client other) refl routed (All-nil (λ i. i < length p.held.list))

      go : (d : Destination) → IsQueued p.queues.keys d (i ∷ []) → m.destination ≡ d → list_any (λ x. key_eq x key) (k ∷ []) ≡ lasts_at (state_of p) m key
      go (destination.Topic topic) q e = absurd (let no : i ∷ [] ≡ [] = q in cc)
      go (destination.Queue name) q e =
          let same : i ≡ q.0 = (let both = q.1 in cc) in
          let named : k ≡ Queue name = is ∙ (key_there p.queues.keys (Queue name) i (q.2 ∙ ap Some (sym same))).1 c in
          ap (λ (x : Key). list_any (λ y. key_eq y key) (x ∷ [])) named ∙ by name e key

-- A row of held whose station stands, and a row of delayed whose message does, may be read.
use Rattle.std.specs.Prelude.{◌≡◌, ℕ, ℤ, pos, Bool, true, false, List, [], ◌∷◌, Option, None, Some, if◌then◌else◌, refl}
use Rattle.std.specs.Ordering.{int_eq}
use Rattle.std.proofs.Common.{◌∙◌, ap, sym, inl, inr}
use Rattle.std.proofs.lemmas.Bool.{and_from, or_cases, or_left, or_right}
use Rattle.jm_dest.specs.declared.key.Key.{Key}
use Rattle.jm_dest.specs.declared.key.Key.TheVariants.{Queue, Durable}
use Rattle.jm_dest.specs.Names.{text_eq}
use Rattle.jm_machine.proofs.Keys.{key_same}
use Rattle.jm_machine.specs.Under.{is_key}
use Rattle.sqlite.specs.Kind.TheVariants.{Integer}
use Rattle.sqlite_schema.specs.Rules.{kind_of}
use Rattle.sqlite_value.specs.Order.{Row, column, bytes}
use Rattle.sqlite_trees.specs.Tree.{Trees, rowid}
use Rattle.sqlite_rules.specs.Edit.{id_in}
use Rattle.jm_tables.specs.Keys.{client_in, key_in, key_of, queue_in}
use Rattle.jm_tables.specs.Rows.{is_under}
use Rattle.jm_tables.specs.Valid.{IsStoredDelay, IsStoredHeld, is_queue, is_station, is_stored_client, is_stored_name, is_subscription}
use Rattle.jm_decoding.specs.Kinds.{HasKeyKinds}
use Rattle.jm_decoding.specs.Readable.{IsReadableDelay, IsReadableHeld, IsReadableKey, is_key_in, is_queue_key, is_subscription_key}
use Rattle.jm_decoding.proofs.Asking.{queue_tests, subscription_tests}
use Rattle.jm_decoding.proofs.Keys.{durable_is, queue_is, queue_parts, subscription_parts}

-- what has the key of a queue has its family, no client and its name
named_queue : (first second : Bool) (client name queue : List ℕ) → (if first then queue_in client name else (if second then Some (Durable (client_in client) name) else None)) ≡ Some (Queue queue)
    → (first ≡ true) × (client ≡ []) × (name ≡ queue)
named_queue true second [] name queue h = (refl, refl, (cc))
named_queue true second (byte ∷ more) name queue h = cc
named_queue false true client name queue h = cc
named_queue false false client name queue h = cc

-- what has the key of a durable subscription has its family, its client and its name
named_durable : (first second : Bool) (client name : List ℕ) (id : Option (List ℕ)) (durable : List ℕ)
    → (if first then queue_in client name else (if second then Some (Durable (client_in client) name) else None)) ≡ Some (Durable id durable)
    → (second ≡ true) × (client_in client ≡ id) × (name ≡ durable)
named_durable true second [] name id durable h = cc
named_durable true second (byte ∷ more) name id durable h = cc
named_durable false true client name id durable h = (refl, (cc), (cc))
named_durable false false client name id durable h = cc

-- two texts for one client are clients at once
one_client : (a b : List ℕ) → client_in a ≡ client_in b → is_stored_client b ≡ true → is_stored_client a ≡ true
one_client [] b e h = refl
one_client (byte ∷ more) [] e h = cc
one_client (byte ∷ more) (first ∷ rest) e h = let same : (byte ∷ more) ≡ (first ∷ rest) = cc in ap is_stored_name same ∙ h

-- columns that stand for the key of a station are a key that a row of station may have
same_key : (f : ℤ) (c n : List ℕ) (family : ℤ) (client name : List ℕ) → is_key_in family client name ≡ true → key_in f c n ≡ key_in family client name → is_key_in f c n ≡ true
same_key f c n family client name valid same =
    elim (or_cases (is_queue_key family client name) (is_subscription_key family client name) valid) [
      | inl q ↦ (let is = named_queue (int_eq f (pos 1)) (int_eq f (pos 2)) c n name (same ∙ queue_is family client name q) in
          or_left _ _ (and_from _ _ (and_from _ _ is.0 (ap (λ t. text_eq t []) is.1)) (ap is_stored_name is.2 ∙ (queue_parts family client name q).named)))
      | inr s ↦ (let is = named_durable (int_eq f (pos 1)) (int_eq f (pos 2)) c n (client_in client) name (same ∙ durable_is family client name s) in
          let parts = subscription_parts family client name s in
          or_right _ _ (and_from _ _ (and_from _ _ is.0 (one_client c client is.1 parts.client_valid)) (ap is_stored_name is.2 ∙ parts.named)))
    ]

-- the key of a station is one
station_key : (r : Row) → is_station r ≡ true → is_key_in (id_in (column r 1)) (bytes (column r 2)) (bytes (column r 3)) ≡ true
station_key r h =
    elim (or_cases (is_queue r) (is_subscription r) h) [
      | inl q ↦ or_left _ _ (queue_tests r q).key
      | inr u ↦ or_right _ _ (subscription_tests r u).key
    ]

-- a station under a key has that key
under_key : (key : Key) (k : Option Key) → is_key key k ≡ true → k ≡ Some key
under_key key None h = cc
under_key key (Some k) h = ap Some (key_same k key h)

-- the columns of a key, under which a station stands, may be read
pub key_of_held : (r station : Row) (key : Key) → HasKeyKinds r → key_of r ≡ Some key → is_station station ≡ true → is_under key station ≡ true → IsReadableKey r
key_of_held r station key kinds is valid under = record {
  kinds = kinds;
  key = same_key (id_in (column r 1)) (bytes (column r 2)) (bytes (column r 3)) (id_in (column station 1)) (bytes (column station 2)) (bytes (column station 3))
      (station_key station valid) (is ∙ sym (under_key key (key_of station) under));
}

-- a row of held whose station is one may be read
pub readable_held : (db : Trees) (r : Row) (held : IsStoredHeld db r) → HasKeyKinds r → kind_of (column r 4) ≡ Integer → kind_of (column r 5) ≡ Integer
    → is_station held.station ≡ true → is_under held.key held.station ≡ true → IsReadableHeld r
readable_held db r held kinds place deliveries valid under = record {
  key = key_of_held r held.station held.key kinds held.key_is valid under;
  place = record { kind = place; number = held.place; number_is = held.place_is };
  deliveries = record { kind = deliveries; count = held.count; count_is = held.count_is; within = held.count_within };
}

-- a row of delayed whose message is delayed may be read
pub readable_delay : (db : Trees) (r : Row) → IsStoredDelay db r → kind_of (rowid r) ≡ Integer → kind_of (column r 2) ≡ Integer → IsReadableDelay r
readable_delay db r delay place due = record {
  place = record { kind = place; number = delay.place; number_is = delay.place_is };
  due = record { kind = due; number = delay.message.delivery_time; number_is = delay.due_is };
}

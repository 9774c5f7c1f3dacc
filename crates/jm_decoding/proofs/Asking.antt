-- What a row of station may ask for, by its tests.
use Rattle.std.specs.Prelude.{◌≡◌, ℕ, ℤ, pos, Bool, true, false, not, ◌&&◌, List, [], Option, Some, if◌then◌else◌, refl}
use Rattle.std.specs.Ordering.{int_eq}
use Rattle.std.specs.Str.{is_utf8}
use Rattle.std.proofs.Common.{◌∙◌, ap, inl, inr}
use Rattle.std.proofs.lemmas.Bool.{and_from, and_parts, or_cases, or_left, or_right}
use Rattle.std.proofs.lemmas.Bool.Decides.{Decides-int_eq}
use Rattle.jm_dest.specs.declared.key.Key.{Key}
use Rattle.jm_dest.specs.declared.key.Key.TheVariants.{Durable}
use Rattle.jm_dest.specs.Names.{text_eq}
use Rattle.jm_machine.specs.Reopened.{is_durable}
use Rattle.sqlite_schema.specs.Rules.{kind_of}
use Rattle.sqlite_value.specs.declared.value.Value.TheVariants.{Int, Text}
use Rattle.sqlite_value.specs.Order.{Row, column, bytes}
use Rattle.sqlite_rules.specs.Edit.{id_in}
use Rattle.jm_tables.specs.Keys.{key_of}
use Rattle.jm_tables.specs.Rows.{is_set}
use Rattle.jm_tables.specs.Valid.{is_mark, is_queue, is_stored_name, is_stored_selector, is_subscription, may_share}
use Rattle.jm_decoding.specs.Asked.{AsksNothing, MayAsk}
use Rattle.jm_decoding.specs.Readable.{IsReadableKey, IsReadableStation, IsTextIn, is_queue_key, is_subscription_key}
use Rattle.jm_decoding.proofs.Keys.{not_both, of_durable, of_queue}
use Rattle.jm_decoding.proofs.Values.{empty_text, number_value, text_value, utf8_empty}

-- ---- values

-- a mark that was read is one
pub is_set_mark : (mark : Bool) → is_set (pos (if mark then 1 else 0)) ≡ mark
is_set_mark true = refl
is_set_mark false = refl

pub mark_is : (mark : Bool) → is_mark (pos (if mark then 1 else 0)) ≡ true
mark_is true = refl
mark_is false = refl

-- whether marks and a client go together
pub shares_is : (shared no_local : Bool) (client : List ℕ) → may_share (pos (if shared then 1 else 0)) client (pos (if no_local then 1 else 0)) ≡ (if shared then not no_local else not (text_eq client []))
shares_is true true client = refl
shares_is true false client = refl
shares_is false no_local client = refl

-- the topic of a station that asks for nothing is the empty text
pub nothing_topic : (r : Row) → AsksNothing r → IsTextIn (column r 5)
nothing_topic r a = record { kind = ap kind_of a.topic; utf8 = ap (λ v. is_utf8 (bytes v)) a.topic ∙ utf8_empty }

-- its selector is one too
pub nothing_selector : (r : Row) → AsksNothing r → IsTextIn (column r 6)
nothing_selector r a = record { kind = ap kind_of a.selector; utf8 = ap (λ v. is_utf8 (bytes v)) a.selector ∙ utf8_empty }

-- ---- a queue

-- the columns of a queue that asks for nothing are those of one
pub queue_from : (r : Row) → is_queue_key (id_in (column r 1)) (bytes (column r 2)) (bytes (column r 3)) ≡ true → AsksNothing r → is_queue r ≡ true
queue_from r key a =
    and_from _ _ (and_from _ _ (and_from _ _ (and_from _ _ key (ap (λ v. int_eq (id_in v) (pos 0)) a.shared))
    (ap (λ v. text_eq (bytes v) []) a.topic)) (ap (λ v. text_eq (bytes v) []) a.selector)) (ap (λ v. int_eq (id_in v) (pos 0)) a.no_local)

-- the tests of a queue, in turn
pub record AreQueueTests (r : Row) : Type 0 where
  pub key : is_queue_key (id_in (column r 1)) (bytes (column r 2)) (bytes (column r 3)) ≡ true
  pub shared : id_in (column r 4) ≡ pos 0
  pub topic : bytes (column r 5) ≡ []
  pub selector : bytes (column r 6) ≡ []
  pub no_local : id_in (column r 7) ≡ pos 0

pub queue_tests : (r : Row) → is_queue r ≡ true → AreQueueTests r
queue_tests r h =
    let key = is_queue_key (id_in (column r 1)) (bytes (column r 2)) (bytes (column r 3)) in
    let shared = int_eq (id_in (column r 4)) (pos 0) in
    let topic = text_eq (bytes (column r 5)) [] in
    let selector = text_eq (bytes (column r 6)) [] in
    let no_local = int_eq (id_in (column r 7)) (pos 0) in
    let last = and_parts (key && shared && topic && selector) no_local h in
    let third = and_parts (key && shared && topic) selector last.0 in
    let second = and_parts (key && shared) topic third.0 in
    let first = and_parts key shared second.0 in
    record {
      key = first.0;
      shared = (Decides-int_eq (id_in (column r 4)) (pos 0)).0 first.1;
      topic = empty_text (bytes (column r 5)) second.1;
      selector = empty_text (bytes (column r 6)) third.1;
      no_local = (Decides-int_eq (id_in (column r 7)) (pos 0)).0 last.1;
    }

-- ---- a durable subscription

-- the columns of a durable subscription that asks for what it may are those of one
pub subscription_from : (r : Row) → is_subscription_key (id_in (column r 1)) (bytes (column r 2)) (bytes (column r 3)) ≡ true → MayAsk r → is_subscription r ≡ true
subscription_from r key a = and_from _ _ (and_from _ _ (and_from _ _ (and_from _ _ key a.no_local.mark) a.topic.name) a.selector.selector) a.shares

-- the tests of a durable subscription, in turn
pub record AreSubscriptionTests (r : Row) : Type 0 where
  pub key : is_subscription_key (id_in (column r 1)) (bytes (column r 2)) (bytes (column r 3)) ≡ true
  pub no_local : is_mark (id_in (column r 7)) ≡ true
  pub topic : is_stored_name (bytes (column r 5)) ≡ true
  pub selector : is_stored_selector (bytes (column r 6)) ≡ true
  pub shares : may_share (id_in (column r 4)) (bytes (column r 2)) (id_in (column r 7)) ≡ true

pub subscription_tests : (r : Row) → is_subscription r ≡ true → AreSubscriptionTests r
subscription_tests r h =
    let key = is_subscription_key (id_in (column r 1)) (bytes (column r 2)) (bytes (column r 3)) in
    let no_local = is_mark (id_in (column r 7)) in
    let topic = is_stored_name (bytes (column r 5)) in
    let selector = is_stored_selector (bytes (column r 6)) in
    let shares = may_share (id_in (column r 4)) (bytes (column r 2)) (id_in (column r 7)) in
    let last = and_parts (key && no_local && topic && selector) shares h in
    let third = and_parts (key && no_local && topic) selector last.0 in
    let second = and_parts (key && no_local) topic third.0 in
    let first = and_parts key no_local second.0 in
    record { key = first.0; no_local = first.1; topic = second.1; selector = third.1; shares = last.1 }

-- where marks and a client go together, shared is a mark
pub sharing_mark : (shared : ℤ) (client : List ℕ) (no_local : ℤ) → may_share shared client no_local ≡ true → is_mark shared ≡ true
sharing_mark shared client no_local h =
    elim (or_cases (int_eq shared (pos 1) && int_eq no_local (pos 0)) (int_eq shared (pos 0) && not (text_eq client [])) h) [
      | inl one ↦ or_right _ _ (and_parts (int_eq shared (pos 1)) (int_eq no_local (pos 0)) one).0
      | inr none ↦ or_left _ _ (and_parts (int_eq shared (pos 0)) (not (text_eq client [])) none).0
    ]

-- ---- a station

-- a row with the key of a durable subscription may be read where it asks for what it may
pub station_of_durable : (r : Row) (client : Option (List ℕ)) (name : List ℕ) → IsReadableKey r → key_of r ≡ Some (Durable client name) → MayAsk r → IsReadableStation r
station_of_durable r client name k is a = record {
  kinds = record { key = k.kinds; asked = record { shared = a.shared.kind; topic = a.topic.kind; selector = a.selector.kind; no_local = a.no_local.kind } };
  station = or_right _ _ (subscription_from r (of_durable (id_in (column r 1)) (bytes (column r 2)) (bytes (column r 3)) client name k.key is) a);
}

-- a row with that of a queue may be read where it asks for nothing
pub station_of_queue : (r : Row) (key : Key) → IsReadableKey r → key_of r ≡ Some key → is_durable key ≡ false → AsksNothing r → IsReadableStation r
station_of_queue r key k is queue a = record {
  kinds = record { key = k.kinds; asked = record { shared = ap kind_of a.shared; topic = ap kind_of a.topic; selector = ap kind_of a.selector; no_local = ap kind_of a.no_local } };
  station = or_left _ _ (queue_from r (of_queue (id_in (column r 1)) (bytes (column r 2)) (bytes (column r 3)) key k.key is queue) a);
}

-- a station has a key that may be read
pub key_of_station : (r : Row) → IsReadableStation r → IsReadableKey r
key_of_station r s = record {
  kinds = s.kinds.key;
  key = elim (or_cases (is_queue r) (is_subscription r) s.station) [
    | inl q ↦ or_left _ _ (queue_tests r q).key
    | inr u ↦ or_right _ _ (subscription_tests r u).key
  ];
}

-- that of a queue asks for nothing
pub asked_of_queue : (r : Row) (key : Key) → key_of r ≡ Some key → is_durable key ≡ false → IsReadableStation r → AsksNothing r
asked_of_queue r key is queue s =
    elim (or_cases (is_queue r) (is_subscription r) s.station) [
      | inl q ↦ record {
        shared = number_value (column r 4) s.kinds.asked.shared ∙ ap Int (queue_tests r q).shared;
        topic = text_value (column r 5) s.kinds.asked.topic ∙ ap Text (queue_tests r q).topic;
        selector = text_value (column r 6) s.kinds.asked.selector ∙ ap Text (queue_tests r q).selector;
        no_local = number_value (column r 7) s.kinds.asked.no_local ∙ ap Int (queue_tests r q).no_local;
      }
      | inr u ↦ absurd (not_both (id_in (column r 1)) (bytes (column r 2)) (bytes (column r 3))
          (of_queue (id_in (column r 1)) (bytes (column r 2)) (bytes (column r 3)) key (key_of_station r s).key is queue) (subscription_tests r u).key)
    ]

-- that of a durable subscription asks for what it may
pub asked_of_durable : (r : Row) (client : Option (List ℕ)) (name : List ℕ) → key_of r ≡ Some (Durable client name) → IsReadableStation r → MayAsk r
asked_of_durable r client name is s =
    elim (or_cases (is_queue r) (is_subscription r) s.station) [
      | inl q ↦ absurd (not_both (id_in (column r 1)) (bytes (column r 2)) (bytes (column r 3)) (queue_tests r q).key
          (of_durable (id_in (column r 1)) (bytes (column r 2)) (bytes (column r 3)) client name (key_of_station r s).key is))
      | inr u ↦ record {
        shared = record { kind = s.kinds.asked.shared; mark = sharing_mark (id_in (column r 4)) (bytes (column r 2)) (id_in (column r 7)) (subscription_tests r u).shares };
        topic = record { kind = s.kinds.asked.topic; name = (subscription_tests r u).topic };
        selector = record { kind = s.kinds.asked.selector; selector = (subscription_tests r u).selector };
        no_local = record { kind = s.kinds.asked.no_local; mark = (subscription_tests r u).no_local };
        shares = (subscription_tests r u).shares;
      }
    ]

-- What the columns of a key are.
use Rattle.std.specs.Prelude.{◌≡◌, ℕ, ℤ, pos, true, false, not, ◌&&◌, List, [], ◌∷◌, Option, Some, is_some, Result, IfErr, refl}
use Rattle.std.specs.Ordering.{int_eq}
use Rattle.std.specs.Str.{is_utf8}
use Rattle.std.proofs.Common.{◌∙◌, ap, sym, inl, inr}
use Rattle.std.proofs.lemmas.Bool.{and_parts, or_cases}
use Rattle.std.proofs.lemmas.Bool.Decides.{Decides-int_eq}
use Rattle.jm_dest.specs.declared.key.Key.{Key}
use Rattle.jm_dest.specs.declared.key.Key.TheVariants.{Queue, Durable}
use Rattle.jm_dest.specs.Names.{text_eq}
use Rattle.jm_machine.specs.Reopened.{is_durable}
use Rattle.sqlite_value.specs.declared.value.Value.TheVariants.{Int, Text}
use Rattle.sqlite_value.specs.Order.{Row, column, bytes}
use Rattle.sqlite_rules.specs.Edit.{id_in}
use Rattle.jm_tables.specs.Keys.{client_in, key_in}
use Rattle.jm_tables.specs.Valid.{is_stored_client, is_stored_name}
use Rattle.jm_decoding.specs.declared.fault.RowFault.{RowFault}
use Rattle.jm_decoding.specs.Decoded.{IsFaultOfRow}
use Rattle.jm_decoding.specs.Readable.{IsReadableKey, IsTextIn, is_key_in, is_queue_key, is_subscription_key}
use Rattle.jm_decoding.proofs.Values.{empty_text, fault_of_whole, utf8_client, utf8_empty, utf8_name}

-- the parts of a queue's key
pub record IsQueueKey (family : ℤ) (client name : List ℕ) : Type 0 where
  pub family_is : family ≡ pos 1
  pub client_is : client ≡ []
  pub named : is_stored_name name ≡ true

pub queue_parts : (family : ℤ) (client name : List ℕ) → is_queue_key family client name ≡ true → IsQueueKey family client name
queue_parts family client name h =
    let both = and_parts (int_eq family (pos 1) && text_eq client []) (is_stored_name name) h in
    let first = and_parts (int_eq family (pos 1)) (text_eq client []) both.0 in
    record { family_is = (Decides-int_eq family (pos 1)).0 first.0; client_is = empty_text client first.1; named = both.1 }

-- the parts of a durable subscription's key
pub record IsSubscriptionKey (family : ℤ) (client name : List ℕ) : Type 0 where
  pub family_is : family ≡ pos 2
  pub client_valid : is_stored_client client ≡ true
  pub named : is_stored_name name ≡ true

pub subscription_parts : (family : ℤ) (client name : List ℕ) → is_subscription_key family client name ≡ true → IsSubscriptionKey family client name
subscription_parts family client name h =
    let both = and_parts (int_eq family (pos 2) && is_stored_client client) (is_stored_name name) h in
    let first = and_parts (int_eq family (pos 2)) (is_stored_client client) both.0 in
    record { family_is = (Decides-int_eq family (pos 2)).0 first.0; client_valid = first.1; named = both.1 }

-- the client and the name of a key are texts of UTF-8
pub utf8_parts : (family : ℤ) (client name : List ℕ) → is_key_in family client name ≡ true → (is_utf8 client ≡ true) × (is_utf8 name ≡ true)
utf8_parts family client name h =
    elim (or_cases (is_queue_key family client name) (is_subscription_key family client name) h) [
      | inl q ↦ (ap is_utf8 (queue_parts family client name q).client_is ∙ utf8_empty, utf8_name name (queue_parts family client name q).named)
      | inr s ↦ (utf8_client client (subscription_parts family client name s).client_valid, utf8_name name (subscription_parts family client name s).named)
    ]

pub readable_client : (r : Row) → IsReadableKey r → IsTextIn (column r 2)
readable_client r k = record { kind = k.kinds.client; utf8 = (utf8_parts (id_in (column r 1)) (bytes (column r 2)) (bytes (column r 3)) k.key).0 }

pub readable_name : (r : Row) → IsReadableKey r → IsTextIn (column r 3)
readable_name r k = record { kind = k.kinds.name; utf8 = (utf8_parts (id_in (column r 1)) (bytes (column r 2)) (bytes (column r 3)) k.key).1 }

-- what a test of the columns of a key says of what was read in them
pub columns_key : (r : Row) (family : ℤ) (client name : List ℕ) → column r 1 ≡ Int family → column r 2 ≡ Text client → column r 3 ≡ Text name
    → is_key_in (id_in (column r 1)) (bytes (column r 2)) (bytes (column r 3)) ≡ is_key_in family client name
columns_key r family client name f c n = λ i. is_key_in (id_in (f i)) (bytes (c i)) (bytes (n i))

-- what is damaged in the columns is damaged in the row
pub columns_fault : (r : Row) (family : ℤ) (client name : List ℕ) (result : Result Key RowFault) → column r 1 ≡ Int family → column r 2 ≡ Text client → column r 3 ≡ Text name
    → IfErr result (IsFaultOfRow (is_key_in family client name ≡ true)) → IfErr result (IsFaultOfRow (IsReadableKey r))
columns_fault r family client name result f c n =
    fault_of_whole (is_key_in family client name ≡ true) (IsReadableKey r) result (λ k. sym (columns_key r family client name f c n) ∙ k.key)

-- a queue's key is one
pub queue_is : (family : ℤ) (client name : List ℕ) → is_queue_key family client name ≡ true → key_in family client name ≡ Some (Queue name)
queue_is family client name h =
    let q = queue_parts family client name h in
    λ i. key_in (q.family_is i) (q.client_is i) name

-- a durable subscription's key is one
pub durable_is : (family : ℤ) (client name : List ℕ) → is_subscription_key family client name ≡ true → key_in family client name ≡ Some (Durable (client_in client) name)
durable_is family client name h = ap (λ f. key_in f client name) (subscription_parts family client name h).family_is

-- a row whose key is that of a durable subscription has its columns
pub of_durable : (family : ℤ) (columns_client columns_name : List ℕ) (client : Option (List ℕ)) (name : List ℕ) → is_key_in family columns_client columns_name ≡ true
    → key_in family columns_client columns_name ≡ Some (Durable client name) → is_subscription_key family columns_client columns_name ≡ true
of_durable family c n client name valid is =
    elim (or_cases (is_queue_key family c n) (is_subscription_key family c n) valid) [
      | inl q ↦ (let e : Some (Queue n) ≡ Some (Durable client name) = sym (queue_is family c n q) ∙ is in cc)
      | inr s ↦ s
    ]

-- one whose key is not has those of a queue
pub of_queue : (family : ℤ) (client name : List ℕ) (key : Key) → is_key_in family client name ≡ true
    → key_in family client name ≡ Some key → is_durable key ≡ false → is_queue_key family client name ≡ true
of_queue family c n key valid is queue =
    elim (or_cases (is_queue_key family c n) (is_subscription_key family c n) valid) [
      | inl q ↦ q
      | inr s ↦ (let e : Some (Durable (client_in c) n) ≡ Some key = sym (durable_is family c n s) ∙ is in
          let k : Durable (client_in c) n ≡ key = cc in
          let t : true ≡ false = ap is_durable k ∙ queue in cc)
    ]

-- no columns are those of both
pub not_both : (family : ℤ) (client name : List ℕ) → is_queue_key family client name ≡ true → is_subscription_key family client name ≡ true → ⊥
not_both family client name q s =
    let e : pos 1 ≡ pos 2 = sym (queue_parts family client name q).family_is ∙ (subscription_parts family client name s).family_is in
    cc

-- there is a client where the text is not empty
pub some_client : (text : List ℕ) → is_some (client_in text) ≡ not (text_eq text [])
some_client [] = refl
some_client (byte ∷ more) = refl

-- Each rule of a field or of a part of a message reads exactly its values, by their fields.
use Rattle.std.proofs.Common.{◌≡◌, ℕ, zero, suc, ◌-◌, ◌<◌, ◌≤◌, Bool, true, false, cond, ltb, leb, eqb, List, [], ◌∷◌, ◌++◌, length, Option, Some, None, refl, sym, ◌∙◌, ap, subst, arith, inl, inr}
use Rattle.std.specs.Prelude.{IfSome, ◌||◌}
use Rattle.std.specs.Int.{Width, w32, w64, to_be_bytes}
use Rattle.std.proofs.lemmas.Bool.{and_parts, and_from, leb-true, le-leb, ltb-true, ltb-false, lt-ltb, le-ltb, eqb-true, eq-eqb, or_cases, cases_eq}
use Rattle.std.proofs.lemmas.Str.{is_utf8-from_IsUtf8, IsUtf8-nil, IsUtf8-from_ascii}
use Rattle.std.proofs.lemmas.Str.Ascii.{IsAscii-nil, IsAscii-cons}
use Rattle.std.specs.Str.{IsAscii}
use Rattle.jm_dest.specs.Numbers.{long_end}
use Rattle.jm_dest.specs.Names.{is_name}
use Rattle.jm_dest.specs.declared.destination.Destination.{Destination}
use Rattle.jm_dest.specs.declared.destination.Destination.TheVariants.{Queue, Topic}
use Rattle.jm_header.specs.declared.body.Body.{Body}
use Rattle.jm_header.specs.declared.body.Body.TheVariants as bodies
use Rattle.jm_header.specs.declared.content.DeliveryMode.{DeliveryMode}
use Rattle.jm_header.specs.declared.content.DeliveryMode.TheVariants.{Persistent, NonPersistent}
use Rattle.jm_format.specs.Limits.{number_end, length_end, greatest}
use Rattle.jm_format.specs.Format as format
use Rattle.jm_format.specs.Messages.{IsNumber, IsSender, IsBlock, IsText, IsName, IsBody}
use Rattle.jm_format.specs.Reading.{pure, within, byte, number, timestamp, expiration, moment_after, delivery_time, block, text, name, sender, mode, destination, marked_text, optional_text, tagged_body, body}
use Rattle.jm_reading.specs.Exact.{IsRead}
use Rattle.jm_reading.proofs.Codec.{IsRead-pure, reads_then, reads_map, reads_same}
use Rattle.jm_reading.proofs.FieldLaws.{IsRead-field, IsWide, wide32, byte_field, number_field, block_field, text_field, moment_field}

-- ---- fields

pub record IsWithin (least most n : ℕ) : Type 0 where
  pub low : least ≤ n
  pub high : n ≤ most

within-true : (least most n : ℕ) → within least most n ≡ true → IsWithin least most n
within-true least most n e =
    let p = and_parts (leb least n) (leb n most) e in
    record { low = leb-true _ _ p.0; high = leb-true _ _ p.1 }

within-from : (least most n : ℕ) → IsWithin least most n → within least most n ≡ true
within-from least most n w = and_from _ _ (le-leb _ _ w.low) (le-leb _ _ w.high)

first_within : (least most : ℕ) → least ≤ most → IsWithin least most least
first_within least most h = record { low = omega arith; high = h }

pub reads_byte : (least most : ℕ) → least ≤ most → IsRead (IsWithin least most) (λ n. format.byte n ∷ []) (byte least most)
unfolding byte
reads_byte least most h =
    reads_same (IsWithin least most) (λ n. format.byte n ∷ []) (λ n is. within-true least most n is.1) (λ n w. (tt, within-from least most n w)) (λ n is. refl)
    (IsRead-field (λ _. Unit {0}) format.byte _ (within least most) byte_field least (tt, within-from least most least (first_within least most h)))

pub reads_number : (w : Width) (limit : ℕ) → IsWide w limit → (least most : ℕ) → least ≤ most → most < limit → IsRead (IsWithin least most) (λ n. to_be_bytes w n ∷ []) (number w least most)
unfolding number
reads_number w limit wide least most h lt =
    reads_same (IsWithin least most) (λ n. to_be_bytes w n ∷ []) (λ n is. within-true least most n is.1) (λ n w. (omega (arith, w.high), within-from least most n w)) (λ n is. refl)
    (IsRead-field (λ n. n < limit) (to_be_bytes w) _ (within least most) (number_field w limit wide) least (omega arith, within-from least most least (first_within least most h)))

pub or_left : (a b : Bool) → a ≡ true → (a || b) ≡ true
or_left true b e = refl
or_left false b e = absurd cc

pub or_right : (a b : Bool) → b ≡ true → (a || b) ≡ true
or_right true b e = refl
or_right false b e = e

-- a timestamp in a record of that version
abbrev pub IsTimestamp : ℕ → ℕ → Type 0
IsTimestamp version n = (n < long_end) × ((eqb version 1 || ltb n (long_end - 1)) ≡ true)

pub reads_timestamp : (version : ℕ) → IsRead (IsTimestamp version) (λ n. to_be_bytes w64 n ∷ []) (timestamp version)
unfolding timestamp
reads_timestamp version = IsRead-field (λ n. n < long_end) (to_be_bytes w64) _ (λ n. eqb version 1 || ltb n (long_end - 1)) moment_field 0 (omega arith, or_right (eqb version 1) true refl)

-- an expiration of a message of that timestamp
pub record Expires (timestamp n : ℕ) : Type 0 where
  pub below : n < long_end
  pub after : (n ≡ 0 → ⊥) → timestamp < n

expires-true : (timestamp n : ℕ) → (eqb n 0 || ltb timestamp n) ≡ true → (n ≡ 0 → ⊥) → timestamp < n
expires-true timestamp n e some =
    elim (or_cases _ _ e) [
      | inl none ↦ absurd (some (eqb-true _ _ none))
      | inr after ↦ ltb-true _ _ after
    ]

expires-from : (timestamp n : ℕ) → ((n ≡ 0 → ⊥) → timestamp < n) → (eqb n 0 || ltb timestamp n) ≡ true
expires-from timestamp n after =
    elim (cases_eq n 0) [
      | inl none ↦ or_left _ _ (eq-eqb _ _ none)
      | inr some ↦ or_right _ _ (lt-ltb _ _ (after some))
    ]

pub reads_expiration : (timestamp : ℕ) → IsRead (Expires timestamp) (λ n. to_be_bytes w64 n ∷ []) (expiration timestamp)
unfolding expiration
reads_expiration timestamp =
    reads_same (Expires timestamp) (λ n. to_be_bytes w64 n ∷ []) (λ n is. record { below = is.0; after = expires-true timestamp n is.1 }) (λ n e. (e.below, expires-from timestamp n e.after)) (λ n is. refl)
    (IsRead-field (λ n. n < long_end) (to_be_bytes w64) _ (λ n. eqb n 0 || ltb timestamp n) moment_field 0 (omega arith, refl))

-- the delivery time in a record of that version, of a message of that timestamp
pub record Delivers (version timestamp n : ℕ) : Type 0 where
  pub below : n < long_end
  pub after : timestamp ≤ n
  pub delayed : format.version_of (ltb timestamp n) ≡ version

-- it is a field in version 2 alone
abbrev pub delivery_fields : ℕ → ℕ → List (List ℕ)
delivery_fields version n = cond (eqb version 1) [] (to_be_bytes w64 n ∷ [])

version_1 : (b : Bool) → format.version_of b ≡ 1 → b ≡ false
version_1 true e = absurd (omega (arith, e))
version_1 false e = refl

version_2 : (b : Bool) → format.version_of b ≡ 2 → b ≡ true
version_2 true e = refl
version_2 false e = absurd (omega (arith, e))

-- in version 1 there is none, and it is the timestamp
reads_no_delay : (timestamp : ℕ) → timestamp < long_end → IsRead (Delivers 1 timestamp) (λ n. []) (pure timestamp)
reads_no_delay timestamp short =
    IsRead-pure (Delivers 1 timestamp) (λ n. []) timestamp
    (record { below = short; after = omega arith; delayed = ap format.version_of (le-ltb timestamp timestamp (omega arith)) })
    (λ n is. omega (arith, is.after, ltb-false timestamp n (version_1 (ltb timestamp n) is.delayed)))
    (λ n is. refl)

-- in version 2 it is after the timestamp
reads_delay : (timestamp : ℕ) → timestamp < long_end - 1 → IsRead (Delivers 2 timestamp) (λ n. to_be_bytes w64 n ∷ []) (moment_after timestamp)
unfolding moment_after
reads_delay timestamp early =
    reads_same (Delivers 2 timestamp) (λ n. to_be_bytes w64 n ∷ [])
    (λ n is. let after : timestamp < n = ltb-true timestamp n is.1 in record { below = is.0; after = omega (arith, after); delayed = ap format.version_of is.1 })
    (λ n is. (is.below, version_2 (ltb timestamp n) is.delayed)) (λ n is. refl)
    (IsRead-field (λ n. n < long_end) (to_be_bytes w64) _ (λ n. ltb timestamp n) moment_field (long_end - 1) (omega arith, lt-ltb timestamp (long_end - 1) early))

pub reads_delivery_time : (version timestamp : ℕ) → IsWithin 1 2 version → IsTimestamp version timestamp → IsRead (Delivers version timestamp) (delivery_fields version) (delivery_time version timestamp)
unfolding delivery_time
reads_delivery_time zero timestamp h is = absurd (omega (arith, h.low))
reads_delivery_time (suc zero) timestamp h is = reads_no_delay timestamp is.0
reads_delivery_time (suc (suc zero)) timestamp h is = reads_delay timestamp (ltb-true timestamp (long_end - 1) is.1)
reads_delivery_time (suc (suc (suc n))) timestamp h is = absurd (omega (arith, h.high))

pub no_text : IsText []
no_text = record { utf8 = is_utf8-from_IsUtf8 [] IsUtf8-nil; short = omega arith }

pub reads_text : IsRead IsText (λ t. format.block t ∷ []) text
unfolding text
reads_text =
    reads_same IsText (λ t. format.block t ∷ []) (λ t is. is.0) (λ t is. (is, refl)) (λ t is. refl)
    (IsRead-field IsText format.block _ (λ _. true) text_field [] (no_text, refl))

pub reads_block : IsRead IsBlock (λ b. format.block b ∷ []) block
unfolding block
reads_block =
    reads_same IsBlock (λ b. format.block b ∷ []) (λ b is. is.0) (λ b is. (is, refl)) (λ b is. refl)
    (IsRead-field IsBlock format.block _ (λ _. true) block_field [] (record { each = λ i. omega arith; short = omega arith }, refl))

pub ascii_text : (bytes : List ℕ) → IsAscii bytes → length bytes < length_end → IsText bytes
ascii_text bytes ascii lt = record { utf8 = is_utf8-from_IsUtf8 bytes (IsUtf8-from_ascii bytes ascii); short = lt }

a_name : IsName (97 ∷ [])
a_name = record { text = ascii_text (97 ∷ []) (IsAscii-cons 97 [] (omega arith) IsAscii-nil) (omega arith); allowed = refl }

pub reads_name : IsRead IsName (λ n. format.block n ∷ []) name
unfolding name
reads_name =
    reads_same IsName (λ n. format.block n ∷ []) (λ n is. record { text = is.0; allowed = is.1 }) (λ n is. (is.text, is.allowed)) (λ n is. refl)
    (IsRead-field IsText format.block _ is_name text_field (97 ∷ []) (a_name.text, a_name.allowed))

-- ---- the sender

to_number : (n : ℕ) → IsWithin 1 (greatest w32) n → IsNumber n
to_number n w = record { positive = w.low; short = omega (arith, w.high) }

from_number : (n : ℕ) → IsNumber n → IsWithin 1 (greatest w32) n
from_number n is = record { low = is.positive; high = omega (arith, is.short) }

reads_id : IsRead (IsWithin 1 (greatest w32)) (λ n. to_be_bytes w32 n ∷ []) (number w32 1 (greatest w32))
reads_id = reads_number w32 number_end wide32 1 (greatest w32) (omega arith) (omega arith)

pub reads_sender : IsRead IsSender format.sender_fields sender
unfolding sender
reads_sender =
    reads_then (λ s. s.opening) (λ s. to_be_bytes w32 s.session.connection ∷ to_be_bytes w32 s.session.number ∷ []) (λ s is. from_number _ is.opening) (λ s is. refl) reads_id (λ o o_is.
    reads_then (λ s. s.session.connection) (λ s. to_be_bytes w32 s.session.number ∷ []) (λ s is. from_number _ is.0.connection) (λ s is. refl) reads_id (λ k k_is.
    reads_then (λ s. s.session.number) (λ s. []) (λ s is. from_number _ is.0.0.session) (λ s is. refl) reads_id (λ n n_is.
    IsRead-pure _ _ (record { opening = o; session = record { connection = k; number = n } })
    (((record { opening = to_number o o_is; connection = to_number k k_is; session = to_number n n_is }, refl), refl), refl)
    (λ s is. λ i. record { opening = is.0.0.1 i; session = record { connection = is.0.1 i; number = is.1 i } })
    (λ s is. refl))))

-- ---- the mode

pub reads_mode : IsRead (λ _. Unit {0}) (λ m. format.byte (format.mode_byte m) ∷ []) mode
unfolding mode
reads_mode =
    reads_map (λ n. cond (eqb n 0) NonPersistent Persistent) format.mode_byte (λ m is. in_range m) (λ m is. refl) (λ m is. there m) (λ n is. tt) (λ n is. back n is.high) (reads_byte 0 1 (omega arith))
  where
    in_range : (m : DeliveryMode) → IsWithin 0 1 (format.mode_byte m)
    in_range NonPersistent = record { low = omega arith; high = omega arith }
    in_range Persistent = record { low = omega arith; high = omega arith }

    there : (m : DeliveryMode) → cond (eqb (format.mode_byte m) 0) NonPersistent Persistent ≡ m
    there NonPersistent = refl
    there Persistent = refl

    back : (n : ℕ) → n ≤ 1 → format.mode_byte (cond (eqb n 0) NonPersistent Persistent) ≡ n
    back zero h = refl
    back (suc zero) h = refl
    back (suc (suc n)) h = absurd (omega arith)

-- ---- the destination

destination_of : ℕ → List ℕ → Destination
destination_of kind n = cond (eqb kind 0) (Queue n) (Topic n)

kind_in_range : (d : Destination) → IsWithin 0 1 (format.kind_byte d)
kind_in_range (Queue n) = record { low = omega arith; high = omega arith }
kind_in_range (Topic n) = record { low = omega arith; high = omega arith }

destination_again : (d : Destination) → destination_of (format.kind_byte d) (format.name_of d) ≡ d
unfolding destination_of
destination_again (Queue n) = refl
destination_again (Topic n) = refl

kind_back : (kind : ℕ) (n : List ℕ) → kind ≤ 1 → format.kind_byte (destination_of kind n) ≡ kind
unfolding destination_of
kind_back zero n h = refl
kind_back (suc zero) n h = refl
kind_back (suc (suc k)) n h = absurd (omega arith)

name_back : (kind : ℕ) (n : List ℕ) → kind ≤ 1 → format.name_of (destination_of kind n) ≡ n
unfolding destination_of
name_back zero n h = refl
name_back (suc zero) n h = refl
name_back (suc (suc k)) n h = absurd (omega arith)

abbrev pub IsDestination : Destination → Type 0
IsDestination d = IsName (format.name_of d)

pub reads_destination : IsRead IsDestination format.destination_fields destination
unfolding destination destination_of
reads_destination =
    reads_then format.kind_byte (λ d. format.block (format.name_of d) ∷ []) (λ d is. kind_in_range d) (λ d is. refl) (reads_byte 0 1 (omega arith)) (λ kind kind_is.
    reads_map (λ n. destination_of kind n) format.name_of (λ d is. is.0) (λ d is. refl)
    (λ d is. ap (λ (k : ℕ). destination_of k (format.name_of d)) (sym is.1) ∙ destination_again d)
    (λ n is. (subst IsName (sym (name_back kind n kind_is.high)) is, kind_back kind n kind_is.high))
    (λ n is. name_back kind n kind_is.high) reads_name)

-- ---- a text behind a mark

mark_of : Option (List ℕ) → ℕ
mark_of None = 0
mark_of (Some t) = 1

after_mark : Option (List ℕ) → List (List ℕ)
after_mark None = []
after_mark (Some t) = format.block t ∷ []

text_of : Option (List ℕ) → List ℕ
text_of None = []
text_of (Some t) = t

reads_marked : (mark : ℕ) → IsWithin 0 1 mark → IsRead (λ o. IfSome o IsText × (mark_of o ≡ mark)) after_mark (marked_text mark)
unfolding marked_text mark_of after_mark text_of
reads_marked zero h = IsRead-pure _ after_mark None (tt, refl) (λ o is. only o is.1) (λ o is. nothing o is.1)
  where
    only : (o : Option (List ℕ)) → mark_of o ≡ 0 → o ≡ None
    only None e = refl
    only (Some t) e = absurd (omega (arith, e))

    nothing : (o : Option (List ℕ)) → mark_of o ≡ 0 → after_mark o ≡ []
    nothing None e = refl
    nothing (Some t) e = absurd (omega (arith, e))
reads_marked (suc zero) h =
    reads_map Some text_of (λ o is. is_text o is.0 is.1) (λ o is. same o is.1) (λ o is. there o is.1) (λ t is. (is, refl)) (λ t is. refl) reads_text
  where
    is_text : (o : Option (List ℕ)) → IfSome o IsText → mark_of o ≡ 1 → IsText (text_of o)
    is_text None is e = absurd (omega (arith, e))
    is_text (Some t) is e = is

    same : (o : Option (List ℕ)) → mark_of o ≡ 1 → after_mark o ≡ format.block (text_of o) ∷ []
    same None e = absurd (omega (arith, e))
    same (Some t) e = refl

    there : (o : Option (List ℕ)) → mark_of o ≡ 1 → Some (text_of o) ≡ o
    there None e = absurd (omega (arith, e))
    there (Some t) e = refl
reads_marked (suc (suc n)) h = absurd (omega (arith, h.high))

pub reads_optional_text : IsRead (λ o. IfSome o IsText) format.optional optional_text
unfolding optional_text mark_of after_mark
reads_optional_text = reads_then mark_of after_mark (λ o is. in_range o) (λ o is. splits o) (reads_byte 0 1 (omega arith)) reads_marked
  where
    in_range : (o : Option (List ℕ)) → IsWithin 0 1 (mark_of o)
    in_range None = record { low = omega arith; high = omega arith }
    in_range (Some t) = record { low = omega arith; high = omega arith }

    splits : (o : Option (List ℕ)) → format.optional o ≡ (format.byte (mark_of o) ∷ []) ++ after_mark o
    splits None = refl
    splits (Some t) = refl

-- ---- the body

body_tag : Body → ℕ
body_tag bodies.None = 0
body_tag (bodies.Text t) = 1
body_tag (bodies.Bytes b) = 2

after_tag : Body → List (List ℕ)
after_tag bodies.None = []
after_tag (bodies.Text t) = format.block t ∷ []
after_tag (bodies.Bytes b) = format.block b ∷ []

content_of : Body → List ℕ
content_of bodies.None = []
content_of (bodies.Text t) = t
content_of (bodies.Bytes b) = b

reads_tagged : (tag : ℕ) → IsWithin 0 2 tag → IsRead (λ b. IsBody b × (body_tag b ≡ tag)) after_tag (tagged_body tag)
unfolding tagged_body body_tag after_tag content_of
reads_tagged zero h = IsRead-pure _ after_tag bodies.None (tt, refl) (λ b is. only b is.1) (λ b is. nothing b is.1)
  where
    only : (b : Body) → body_tag b ≡ 0 → b ≡ bodies.None
    only bodies.None e = refl
    only (bodies.Text t) e = absurd (omega (arith, e))
    only (bodies.Bytes b) e = absurd (omega (arith, e))

    nothing : (b : Body) → body_tag b ≡ 0 → after_tag b ≡ []
    nothing bodies.None e = refl
    nothing (bodies.Text t) e = absurd (omega (arith, e))
    nothing (bodies.Bytes b) e = absurd (omega (arith, e))
reads_tagged (suc zero) h =
    reads_map bodies.Text content_of (λ b is. is_text b is.0 is.1) (λ b is. same b is.1) (λ b is. there b is.1) (λ t is. (is, refl)) (λ t is. refl) reads_text
  where
    is_text : (b : Body) → IsBody b → body_tag b ≡ 1 → IsText (content_of b)
    is_text bodies.None is e = absurd (omega (arith, e))
    is_text (bodies.Text t) is e = is
    is_text (bodies.Bytes b) is e = absurd (omega (arith, e))

    same : (b : Body) → body_tag b ≡ 1 → after_tag b ≡ format.block (content_of b) ∷ []
    same bodies.None e = absurd (omega (arith, e))
    same (bodies.Text t) e = refl
    same (bodies.Bytes b) e = refl

    there : (b : Body) → body_tag b ≡ 1 → bodies.Text (content_of b) ≡ b
    there bodies.None e = absurd (omega (arith, e))
    there (bodies.Text t) e = refl
    there (bodies.Bytes b) e = absurd (omega (arith, e))
reads_tagged (suc (suc zero)) h =
    reads_map bodies.Bytes content_of (λ b is. is_block b is.0 is.1) (λ b is. same b is.1) (λ b is. there b is.1) (λ t is. (is, refl)) (λ t is. refl) reads_block
  where
    is_block : (b : Body) → IsBody b → body_tag b ≡ 2 → IsBlock (content_of b)
    is_block bodies.None is e = absurd (omega (arith, e))
    is_block (bodies.Text t) is e = absurd (omega (arith, e))
    is_block (bodies.Bytes b) is e = is

    same : (b : Body) → body_tag b ≡ 2 → after_tag b ≡ format.block (content_of b) ∷ []
    same bodies.None e = absurd (omega (arith, e))
    same (bodies.Text t) e = refl
    same (bodies.Bytes b) e = refl

    there : (b : Body) → body_tag b ≡ 2 → bodies.Bytes (content_of b) ≡ b
    there bodies.None e = absurd (omega (arith, e))
    there (bodies.Text t) e = absurd (omega (arith, e))
    there (bodies.Bytes b) e = refl
reads_tagged (suc (suc (suc n))) h = absurd (omega (arith, h.high))

pub reads_body : IsRead IsBody format.body_fields body
unfolding body body_tag after_tag
reads_body = reads_then body_tag after_tag (λ b is. in_range b) (λ b is. splits b) (reads_byte 0 2 (omega arith)) reads_tagged
  where
    in_range : (b : Body) → IsWithin 0 2 (body_tag b)
    in_range bodies.None = record { low = omega arith; high = omega arith }
    in_range (bodies.Text t) = record { low = omega arith; high = omega arith }
    in_range (bodies.Bytes t) = record { low = omega arith; high = omega arith }

    splits : (b : Body) → format.body_fields b ≡ (format.byte (body_tag b) ∷ []) ++ after_tag b
    splits bodies.None = refl
    splits (bodies.Text t) = refl
    splits (bodies.Bytes b) = refl

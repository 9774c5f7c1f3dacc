-- The rule of a message reads exactly the messages, by their fields.
use Rattle.std.proofs.Common.{◌≡◌, ℕ, ◌+◌, ◌-◌, ◌<◌, ◌≤◌, Bool, true, false, cond, ltb, eqb, List, [], ◌∷◌, ◌++◌, length, take, drop, Ok, Err, refl, sym, ◌∙◌, ap, subst, append_assoc, arith}
use Rattle.std.specs.Int.{w32, w64, to_be_bytes}
use Rattle.std.specs.List.{concat}
use Rattle.std.specs.Prelude.{◌||◌}
use Rattle.std.proofs.lemmas.Bool.{ltb-true, lt-ltb}
use Rattle.std.proofs.lemmas.List.{append-nil, length-append, take_all}
use Rattle.jm_dest.specs.Numbers.{long_end}
use Rattle.jm_header.specs.declared.content.Content.{Content}
use Rattle.jm_format.specs.Limits.{length_end}
use Rattle.jm_format.specs.Format as format
use Rattle.jm_format.specs.Format.{«record»}
use Rattle.jm_format.specs.Messages.{AreBytes, IsSender, IsMessage, IsWriteable, writeable}
use Rattle.jm_record.specs.Damage.{Begins, IsDamaged}
use Rattle.jm_record.specs.declared.fault.Fault.{Fault}
use Rattle.jm_record.specs.declared.fault.Fault.TheVariants.{Damaged, Memory}
use Rattle.jm_record.specs.Faults.{Reads}
use Rattle.jm_format.specs.Reading.{Outcome, Head, and_then, end, head, message, whole}
use Rattle.jm_reading.specs.Exact.{left_of, IsRead}
use Rattle.jm_reading.proofs.Codec.{IsRead-pure, reads_then, same_read, same_stop, read_is_no_stop}
use Rattle.jm_reading.proofs.FieldLaws.{wide64}
use Rattle.jm_reading.proofs.PartLaws.{Expires, IsWithin, IsTimestamp, Delivers, delivery_fields, or_right, reads_byte, reads_number, reads_timestamp, reads_expiration, reads_delivery_time, reads_sender, reads_mode, reads_destination, reads_optional_text, reads_body}
use Rattle.jm_reading.proofs.PropertyLaws.{reads_properties}

-- a message that may be written
pub record IsRest (m : Content) : Type 0 where
  pub message : IsMessage m
  pub writeable : IsWriteable m

-- the fields of a message up to JMSPriority
abbrev head_of : Content → Head
head_of m = record {
  sender = m.sender;
  number = m.number;
  timestamp = m.timestamp;
  expiration = m.expiration;
  delivery_time = m.delivery_time;
  mode = m.mode;
  priority = m.priority;
}

-- the version of the record of a message with these fields
abbrev version_of : Head → ℕ
version_of h = format.version_of (ltb h.timestamp h.delivery_time)

-- the delivery time, where it is after the timestamp
abbrev due_fields : Head → List (List ℕ)
due_fields h = cond (ltb h.timestamp h.delivery_time) (to_be_bytes w64 h.delivery_time ∷ []) []

-- the fields from the mode on
abbrev from_mode : Head → List (List ℕ)
from_mode h = format.byte (format.mode_byte h.mode) ∷ format.byte h.priority ∷ []

abbrev head_fields : Head → List (List ℕ)
head_fields h =
    format.byte (version_of h) ∷ to_be_bytes w32 h.sender.opening ∷ to_be_bytes w32 h.sender.session.connection ∷ to_be_bytes w32 h.sender.session.number
    ∷ to_be_bytes w64 h.number ∷ to_be_bytes w64 h.timestamp ∷ to_be_bytes w64 h.expiration
    ∷ (due_fields h ++ from_mode h)

pub record IsHead (h : Head) : Type 0 where
  pub sender : IsSender h.sender
  pub counted : 1 ≤ h.number
  pub numbered : h.number < long_end
  pub timestamp : h.timestamp < long_end
  pub expires : Expires h.timestamp h.expiration
  pub delivers : Delivers (version_of h) h.timestamp h.delivery_time
  pub priority : h.priority ≤ 9

a_version : (b : Bool) → IsWithin 1 2 (format.version_of b)
a_version true = record { low = omega arith; high = omega arith }
a_version false = record { low = omega arith; high = omega arith }

-- a delivery time is after the timestamp of a delayed message, which so is not the last moment
in_time : (timestamp n : ℕ) → n < long_end → (b : Bool) → ltb timestamp n ≡ b → (eqb (format.version_of b) 1 || ltb timestamp (long_end - 1)) ≡ true
in_time timestamp n below true e =
    let after : timestamp < n = ltb-true timestamp n e in
    lt-ltb timestamp (long_end - 1) (omega (arith, below, after))
in_time timestamp n below false e = refl

is_timestamp : (h : Head) (v : ℕ) → IsHead h → version_of h ≡ v → IsTimestamp v h.timestamp
is_timestamp h v is e =
    subst (λ (n : ℕ). IsTimestamp n h.timestamp) e (is.timestamp, in_time h.timestamp h.delivery_time is.delivers.below (ltb h.timestamp h.delivery_time) refl)

is_delivered : (h : Head) (v sent : ℕ) → IsHead h → version_of h ≡ v → h.timestamp ≡ sent → Delivers v sent h.delivery_time
is_delivered h v sent is e f = subst (λ (n : ℕ). Delivers v n h.delivery_time) f (subst (λ (n : ℕ). Delivers n h.timestamp h.delivery_time) e is.delivers)

same_due : (b : Bool) (due : List ℕ) → cond b (due ∷ []) [] ≡ cond (eqb (format.version_of b) 1) [] (due ∷ [])
same_due true due = refl
same_due false due = refl

splits_due : (h : Head) (v : ℕ) → version_of h ≡ v → due_fields h ++ from_mode h ≡ delivery_fields v h.delivery_time ++ from_mode h
splits_due h v e =
    ap (λ (xs : List (List ℕ)). xs ++ from_mode h) (same_due (ltb h.timestamp h.delivery_time) (to_be_bytes w64 h.delivery_time) ∙ ap (λ (n : ℕ). delivery_fields n h.delivery_time) e)

reads_head : IsRead IsHead head_fields head
unfolding head
reads_head =
    reads_then version_of (λ h. drop 1 (head_fields h)) (λ h is. a_version (ltb h.timestamp h.delivery_time)) (λ h is. refl) (reads_byte 1 2 (omega arith)) (λ v v_is.
    reads_then (λ h. h.sender) (λ h. drop 4 (head_fields h)) (λ h is. is.0.sender) (λ h is. refl) reads_sender (λ by by_is.
    reads_then (λ h. h.number) (λ h. drop 5 (head_fields h)) (λ h is. record { low = is.0.0.counted; high = omega (arith, is.0.0.numbered) }) (λ h is. refl) (reads_number w64 length_end wide64 1 (long_end - 1) (omega arith) (omega arith)) (λ n n_is.
    reads_then (λ h. h.timestamp) (λ h. drop 6 (head_fields h)) (λ h is. is_timestamp h v is.0.0.0 is.0.0.1) (λ h is. refl) (reads_timestamp v) (λ sent sent_is.
    reads_then (λ h. h.expiration) (λ h. drop 7 (head_fields h)) (λ h is. subst (λ (n : ℕ). Expires n h.expiration) is.1 is.0.0.0.0.expires) (λ h is. refl) (reads_expiration sent) (λ ends ends_is.
    reads_then (λ h. h.delivery_time) from_mode (λ h is. is_delivered h v sent is.0.0.0.0.0 is.0.0.0.0.1 is.0.1) (λ h is. splits_due h v is.0.0.0.0.1) (reads_delivery_time v sent v_is sent_is) (λ due due_is.
    reads_then (λ h. h.mode) (λ h. drop 1 (from_mode h)) (λ h is. tt) (λ h is. refl) reads_mode (λ how how_is.
    reads_then (λ h. h.priority) (λ h. []) (λ h is. record { low = omega arith; high = is.0.0.0.0.0.0.0.priority }) (λ h is. refl) (reads_byte 0 9 (omega arith)) (λ rank rank_is.
    IsRead-pure _ _ (record { sender = by; number = n; timestamp = sent; expiration = ends; delivery_time = due; mode = how; priority = rank })
    ((((((((record { sender = by_is; counted = n_is.low; numbered = omega (arith, n_is.high); timestamp = sent_is.0; expires = ends_is; delivers = record { below = due_is.below; after = due_is.after; delayed = refl }; priority = rank_is.high }, due_is.delayed), refl), refl), refl), refl), refl), refl), refl)
    (λ h is. λ i. record {
      sender = is.0.0.0.0.0.0.1 i;
      number = is.0.0.0.0.0.1 i;
      timestamp = is.0.0.0.0.1 i;
      expiration = is.0.0.0.1 i;
      delivery_time = is.0.0.1 i;
      mode = is.0.1 i;
      priority = is.1 i;
    })
    (λ h is. refl)))))))))

head_is : (m : Content) → IsMessage m → IsHead (head_of m)
head_is m is = record {
  sender = is.sender;
  counted = is.valid.counted;
  numbered = is.valid.numbered;
  timestamp = is.timestamp;
  expires = record { below = is.expiration; after = is.valid.expires };
  delivers = record { below = is.delivery_time; after = is.valid.delivered; delayed = refl };
  priority = is.valid.priority;
}

-- the fields from the type on
abbrev from_type : Content → List (List ℕ)
from_type m = format.message_type m ++ (format.body m ++ format.property_count m ∷ format.properties m)

abbrev from_body : Content → List (List ℕ)
from_body m = format.body m ++ format.property_count m ∷ format.properties m

abbrev from_count : Content → List (List ℕ)
from_count m = format.property_count m ∷ format.properties m

-- the fields from the correlation on
abbrev from_correlation : Content → List (List ℕ)
from_correlation m = format.correlation m ++ from_type m

-- the fields from the destination on
abbrev from_destination : Content → List (List ℕ)
from_destination m = format.destination_kind m ∷ format.destination_name m ∷ from_correlation m

splits_head : (m : Content) → format.fields m ≡ head_fields (head_of m) ++ from_destination m
splits_head m =
    ap (λ (xs : List (List ℕ)). format.version m ∷ format.opening m ∷ format.connection m ∷ format.session m ∷ format.number m ∷ format.timestamp m ∷ format.expiration m ∷ xs)
    (sym (append_assoc (format.delivery_time m) (from_mode (head_of m)) (from_destination m)))

pub reads_message : IsRead IsRest format.fields message
unfolding message
reads_message =
    reads_then head_of from_destination (λ m is. head_is m is.message) (λ m is. splits_head m) reads_head (λ h h_is.
    reads_then (λ m. m.destination) from_correlation (λ m is. is.0.message.destination) (λ m is. refl) reads_destination (λ to to_is.
    reads_then (λ m. m.correlation) from_type (λ m is. is.0.0.message.correlation) (λ m is. refl) reads_optional_text (λ correlation correlation_is.
    reads_then (λ m. m.message_type) from_body (λ m is. is.0.0.0.message.message_type) (λ m is. refl) reads_optional_text (λ message_type type_is.
    reads_then (λ m. m.body) from_count (λ m is. is.0.0.0.0.message.body) (λ m is. refl) reads_body (λ content content_is.
    reads_then (λ m. m.properties) (λ m. []) (λ m is. is.0.0.0.0.0.message.properties) (λ m is. sym (append-nil (from_count m))) reads_properties (λ table table_is.
    IsRead-pure _ _ (record {
      sender = h.sender;
      number = h.number;
      destination = to;
      mode = h.mode;
      priority = h.priority;
      timestamp = h.timestamp;
      expiration = h.expiration;
      delivery_time = h.delivery_time;
      correlation = correlation;
      message_type = message_type;
      body = content;
      properties = table;
      is_body_read_only = false;
      are_properties_read_only = false;
    }) (
      (
        (
          (
            (
              (
                record {
                  message = record {
                    valid = record { counted = h_is.counted; numbered = h_is.numbered; priority = h_is.priority; expires = h_is.expires.after; delivered = h_is.delivers.after };
                    sender = h_is.sender;
                    timestamp = h_is.timestamp;
                    expiration = h_is.expires.below;
                    delivery_time = h_is.delivers.below;
                    destination = to_is;
                    correlation = correlation_is;
                    message_type = type_is;
                    body = content_is;
                    properties = table_is;
                  };
                  writeable = record { body = refl; properties = refl };
                },
                refl,
              ),
              refl,
            ),
            refl,
          ),
          refl,
        ),
        refl,
      ),
      refl,
    )
    (λ m is. λ i. record {
      sender = (is.0.0.0.0.0.1 i).sender;
      number = (is.0.0.0.0.0.1 i).number;
      destination = is.0.0.0.0.1 i;
      mode = (is.0.0.0.0.0.1 i).mode;
      priority = (is.0.0.0.0.0.1 i).priority;
      timestamp = (is.0.0.0.0.0.1 i).timestamp;
      expiration = (is.0.0.0.0.0.1 i).expiration;
      delivery_time = (is.0.0.0.0.0.1 i).delivery_time;
      correlation = is.0.0.0.1 i;
      message_type = is.0.0.1 i;
      body = is.0.1 i;
      properties = is.1 i;
      is_body_read_only = is.0.0.0.0.0.0.writeable.body i;
      are_properties_read_only = is.0.0.0.0.0.0.writeable.properties i;
    })
    (λ m is. refl)))))))

-- ---- whole records

rest_of : (m : Content) → IsMessage m → IsRest (writeable m)
rest_of m is = record {
  message = record {
    valid = record { counted = is.valid.counted; numbered = is.valid.numbered; priority = is.valid.priority; expires = is.valid.expires; delivered = is.valid.delivered };
    sender = is.sender;
    timestamp = is.timestamp;
    expiration = is.expiration;
    delivery_time = is.delivery_time;
    destination = is.destination;
    correlation = is.correlation;
    message_type = is.message_type;
    body = is.body;
    properties = is.properties;
  };
  writeable = record { body = refl; properties = refl };
}

-- a record in front is read again
read_again : (m : Content) (rest : List ℕ) → IsMessage m → message (format.record m ++ rest) ≡ Ok (writeable m, rest)
unfolding «record»
read_again m rest is = reads_message.again (writeable m) rest (rest_of m is)

abbrev ended : Content → List ℕ → Outcome Content
ended m rest = Ok (m, rest)

-- what begins with two records is one message and the same rest
same_front : (a b : Content) (x y : List ℕ) → IsMessage a → IsMessage b → format.record a ++ x ≡ format.record b ++ y → (writeable a ≡ writeable b) × (x ≡ y)
same_front a b x y a_is b_is e =
    let both : ended (writeable a) x ≡ ended (writeable b) y = sym (read_again a x a_is) ∙ ap message e ∙ read_again b y b_is in
    let same = same_read (writeable a, x) (writeable b, y) both in
    (ap (λ (p : Content × List ℕ). p.0) same, ap (λ (p : Content × List ℕ). p.1) same)

pub no_prefix : (a b : Content) (rest : List ℕ) → IsMessage a → IsMessage b → format.record a ++ rest ≡ format.record b → rest ≡ []
no_prefix a b rest a_is b_is e = (same_front a b rest [] a_is b_is (e ∙ sym (append-nil (format.record b)))).1

pub one_message : (a b : Content) → IsMessage a → IsMessage b → format.record a ≡ format.record b → writeable a ≡ writeable b
one_message a b a_is b_is e = (same_front a b [] [] a_is b_is (ap (λ (bytes : List ℕ). bytes ++ []) e)).0

-- ---- what reading a whole record finds

pub record Finds (bytes : List ℕ) (m : Content) : Type 0 where
  pub message : IsMessage m
  pub writeable : IsWriteable m
  pub spelled : bytes ≡ format.record m

no_more : (m n : Content) (left rest : List ℕ) → end m left ≡ Ok (n, rest) → (left ≡ []) × (m ≡ n)
no_more m n [] rest e = (refl, ap (λ (p : Content × List ℕ). p.0) (same_read (m, []) (n, rest) e))
no_more m n (b ∷ left) rest e = absurd cc

pub whole_finds : (bytes : List ℕ) (m : Content) (rest : List ℕ) → AreBytes bytes → whole bytes ≡ Ok (m, rest) → Finds bytes m
unfolding whole «record»
whole_finds bytes m rest are e = by (message bytes) refl e
  where
    by : (outcome : Outcome Content) → message bytes ≡ outcome → and_then outcome end ≡ Ok (m, rest) → Finds bytes m
    by (Ok read) is e =
        let one = reads_message.takes bytes read.0 read.1 are is in
        let last = no_more read.0 m read.1 rest e in
        let spelled : bytes ≡ format.record read.0 = one.1 ∙ ap (λ (r : List ℕ). format.record read.0 ++ r) last.0 ∙ append-nil (format.record read.0) in
        subst (Finds bytes) last.1 (record { message = one.0.message; writeable = one.0.writeable; spelled = spelled })
    by (Err left) is e = absurd cc

-- the record of a message is found
pub whole_again : (bytes : List ℕ) (m : Content) → IsMessage m → bytes ≡ format.record m → whole bytes ≡ Ok (writeable m, [])
unfolding whole
whole_again bytes m is e =
    let one : message bytes ≡ Ok (writeable m, []) = ap message (e ∙ sym (append-nil (format.record m))) ∙ read_again m [] is in
    ap (λ (outcome : Outcome Content). and_then outcome end) one

-- the bytes stop there to be a record
pub record Stops (bytes left : List ℕ) : Type 0 where
  pub within : length left ≤ length bytes
  pub damaged : IsDamaged bytes (length bytes - length left)

begun : (bytes left : List ℕ) (m : Content) (count : ℕ) → IsMessage m → bytes ≡ concat (take count (format.fields m)) ++ left → (length left ≤ length bytes) × Begins bytes (length bytes - length left)
begun bytes left m count is e =
    let sum : length bytes ≡ length (concat (take count (format.fields m))) + length left = ap length e ∙ length-append (concat (take count (format.fields m))) left in
    (omega (arith, sum), record { message = m; is_message = is; count = count; rest = left; parts = e; ends = omega (arith, sum) })

-- where reading passes this much, no more whole fields stand in front
no_further : (bytes left : List ℕ) → AreBytes bytes → left_of (message bytes) ≡ left → (further : ℕ) → Begins bytes further → further ≤ length bytes - length left
no_further bytes left are is further b =
    let most = reads_message.longest bytes (writeable b.message) b.count b.rest are (rest_of b.message b.is_message) b.parts in
    let sum : length bytes ≡ length (concat (take b.count (format.fields b.message))) + length b.rest = ap length b.parts ∙ length-append (concat (take b.count (format.fields b.message))) b.rest in
    omega (arith, most, ap length is, sum, b.ends)

not_empty : (m : Content) (left stopped : List ℕ) → end m left ≡ Err stopped → (left ≡ stopped) × (left ≡ [] → ⊥)
not_empty m [] stopped e = absurd cc
not_empty m (b ∷ left) stopped e = (same_stop {A = Content} (b ∷ left) stopped e, λ none. cc)

pub whole_stops : (bytes left : List ℕ) → AreBytes bytes → whole bytes ≡ Err left → Stops bytes left
unfolding whole
whole_stops bytes left are e = by (message bytes) refl e
  where
    stops : (outcome : Outcome Content) → message bytes ≡ outcome → left_of outcome ≡ left → (m : Content) (count : ℕ) → IsMessage m → bytes ≡ concat (take count (format.fields m)) ++ left → ((other : Content) → IsMessage other → bytes ≡ format.record other → ⊥) → Stops bytes left
    stops outcome is leaves m count m_is parts none =
        let front = begun bytes left m count m_is parts in
        record { within = front.0; damaged = record { begins = front.1; first = no_further bytes left are (ap left_of is ∙ leaves); none = none } }

    again : (other : Content) → IsMessage other → bytes ≡ format.record other → message bytes ≡ Ok (writeable other, [])
    again other is e = ap message (e ∙ sym (append-nil (format.record other))) ∙ read_again other [] is

    by : (outcome : Outcome Content) → message bytes ≡ outcome → and_then outcome end ≡ Err left → Stops bytes left
    by (Ok read) is e =
        let one = reads_message.takes bytes read.0 read.1 are is in
        let last = not_empty read.0 read.1 left e in
        let parts : bytes ≡ concat (take (length (format.fields read.0)) (format.fields read.0)) ++ left = one.1 ∙ (λ i. concat (sym (take_all (length (format.fields read.0)) (format.fields read.0) (omega arith)) i) ++ last.0 i) in
        stops (Ok read) is last.0 read.0 (length (format.fields read.0)) one.0.message parts
        (λ other other_is spelled. last.1 (ap (λ (p : Content × List ℕ). p.1) (same_read read (writeable other, []) (sym is ∙ again other other_is spelled))))
    by (Err found) is e =
        let one = reads_message.stops bytes found are is in
        let same = same_stop {A = Content} found left e in
        stops (Err found) is same one.0 one.1 one.2.message (one.3 ∙ ap (λ (r : List ℕ). concat (take one.1 (format.fields one.0)) ++ r) same)
        (λ other other_is spelled. read_is_no_stop (writeable other, []) found (sym (again other other_is spelled) ∙ is))

-- what is found is the message whose record it is
pub finds_only : (bytes : List ℕ) (m : Content) (rest : List ℕ) → whole bytes ≡ Ok (m, rest) → (other : Content) → IsMessage other → bytes ≡ format.record other → m ≡ writeable other
finds_only bytes m rest is other other_is e =
    ap (λ (p : Content × List ℕ). p.0) (same_read (m, rest) (writeable other, []) (sym is ∙ whole_again bytes other other_is e))

pub stops_at_no_record : (bytes left : List ℕ) → whole bytes ≡ Err left → (other : Content) → IsMessage other → bytes ≡ format.record other → ⊥
stops_at_no_record bytes left is other other_is e = read_is_no_stop (writeable other, []) left (sym (whole_again bytes other other_is e) ∙ is)

-- a fault that is no want of memory is where the rule stops
pub damaged_is : (outcome : Outcome Content) (fault : Fault) (left : List ℕ) → Reads {A = Content} (λ m. m) outcome (Err fault) left → fault ≡ Damaged → outcome ≡ Err left
damaged_is outcome Damaged left read is = read
damaged_is outcome Memory left read is = absurd cc

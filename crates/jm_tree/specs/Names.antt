-- The header fields that selectors see (Jakarta Messaging 3.1, section 3.8.1.1), and lists of texts.
use Rattle.std.specs.Prelude.{ℕ, nat_eq, Bool, if◌then◌else◌, List, Option, Some, None, codes}
use Rattle.std.specs.List.{list_any}
use Rattle.std.specs.Cmp.Lexicographic.{pointwise}
use Rattle.jm_tree.specs.declared.identifier.Field.{Field}
use Rattle.jm_tree.specs.declared.identifier.Field.TheVariants as fields

-- whether two texts are equal
abbrev pub texts_equal : List ℕ → List ℕ → Bool
texts_equal cs ds = pointwise nat_eq cs ds

-- whether a text is one of a list
unfoldable pub is_among : List ℕ → List (List ℕ) → Bool
is_among text list = list_any (λ member. texts_equal text member) list

-- the header field of that name, if selectors see it
abbrev pub field_of : List ℕ → Option Field
field_of name =
    if texts_equal name (codes "JMSDeliveryMode") then Some fields.DeliveryMode
    else if texts_equal name (codes "JMSPriority") then Some fields.Priority
    else if texts_equal name (codes "JMSTimestamp") then Some fields.Timestamp
    else if texts_equal name (codes "JMSMessageID") then Some fields.MessageId
    else if texts_equal name (codes "JMSCorrelationID") then Some fields.CorrelationId
    else if texts_equal name (codes "JMSType") then Some fields.Type
    else None

-- Messages of one record.
use Rattle.std.proofs.Common.{◌≡◌, ◌∙◌, ℕ, Bool, true, false, List, Option, None, Some, Result, Ok, Err, refl, ap, sym}
use Rattle.std.specs.Prelude.{slice_index}
use Rattle.jm_header.specs.declared.content.Content.{Content}
use Rattle.jm_header.specs.Headers.{is_delayed}
use Rattle.jm_header.specs.MessageIds.{message_id}
use Rattle.jm_format.specs.Format as format
use Rattle.jm_format.specs.Format.{«record», version_of}
use Rattle.jm_format.specs.Messages.{IsMessage, IsWriteable, writeable}
use Rattle.jm_lexer.specs.declared.fault.SyntaxFault.{SyntaxFault}
use Rattle.jm_tree.specs.declared.tree.Tree.{Tree}
use Rattle.jm_tree.specs.declared.identifier.Field.{Field}
use Rattle.jm_tree.specs.declared.identifier.Field.TheVariants as fields
use Rattle.jm_tree.specs.Names.{field_of}
use Rattle.jm_eval.specs.Evaluation.{condition}
use Rattle.jm_eval.specs.Values.{Value}
use Rattle.jm_eval.specs.Views.{view, value_of_field}
use Rattle.jm_selector.specs.Selectors.{holds, read_selects, selects}
use Rattle.jm_record.proofs.MessageLaws.{one_message}

-- a message that may be written is itself
written : (m : Content) → IsWriteable m → writeable m ≡ m
written m is = λ i. record m { is_body_read_only = sym is.body i; are_properties_read_only = sym is.properties i }

-- two of one record, of which the first may be written, are the same but for the marks of the second
pub same_message : (a b : Content) → IsMessage a → IsWriteable a → IsMessage b → format.record a ≡ format.record b → a ≡ writeable b
same_message a b a_is fresh b_is e = sym (written a fresh) ∙ one_message a b a_is b_is e

-- ---- a selector sees no marks

seen : (m : Content) (name : List ℕ) (field : Option Field) → value_of_field (writeable m) name field ≡ value_of_field m name field
unfolding message_id
seen m name None = refl
seen m name (Some fields.DeliveryMode) = refl
seen m name (Some fields.Priority) = refl
seen m name (Some fields.Timestamp) = refl
seen m name (Some fields.MessageId) = refl
seen m name (Some fields.CorrelationId) = refl
seen m name (Some fields.Type) = refl

view_is : (m : Content) → view (writeable m) ≡ view m
unfolding view
view_is m = λ i name. seen m name (field_of name) i

pub selected : (r : Result (Option Tree) SyntaxFault) (m : Content) → read_selects r (writeable m) ≡ read_selects r m
unfolding selects
selected (Ok None) m = refl
selected (Ok (Some tree)) m = ap (λ (v : List ℕ → Value). holds (condition v tree)) (view_is m)
selected (Err fault) m = refl

-- ---- the version of a record says whether its message is delayed

versions : (a b : Bool) → version_of a ≡ version_of b → a ≡ b
versions true true e = refl
versions true false e = cc
versions false true e = cc
versions false false e = refl

pub both_delayed : (a b : Content) → format.record a ≡ format.record b → is_delayed a ≡ is_delayed b
unfolding «record»
both_delayed a b e = versions (is_delayed a) (is_delayed b) (ap (λ (bytes : List ℕ). slice_index bytes 0) e)

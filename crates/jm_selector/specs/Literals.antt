-- The literal that a selector asks a value to be equal to, and the values of a message that a selector may ask so
-- (Jakarta Messaging 3.1, section 3.8.1).
use Rattle.std.specs.Prelude.{◌≡◌, ℕ, Bool, true, false, if◌then◌else◌, List, [], ◌∷◌, ◌++◌, Contains, Option, Some, None, Result, Ok, Err}
use Rattle.std.specs.List.{filter_map}
use Rattle.std.specs.Option.{option_or, option_to_list}
use Rattle.jm_header.specs.declared.content.Content.{Content}
use Rattle.jm_lexer.specs.declared.fault.SyntaxFault.{SyntaxFault}
use Rattle.jm_property.specs.Properties.{Table}
use Rattle.jm_property.specs.declared.property.Property.{Property}
use Rattle.jm_property.specs.declared.property.Property.TheVariants as properties
use Rattle.jm_tree.specs.Names.{field_of}
use Rattle.jm_tree.specs.declared.identifier.Field.{Field}
use Rattle.jm_tree.specs.declared.identifier.Field.TheVariants as fields
use Rattle.jm_tree.specs.declared.tree.Comparison.{Comparison}
use Rattle.jm_tree.specs.declared.tree.Comparison.TheVariants.{Equal}
use Rattle.jm_tree.specs.declared.tree.Tree.{Tree, out-Tree}
use Rattle.jm_tree.specs.declared.tree.Tree.TheOpen.{Tree-F}
use Rattle.jm_selector.specs.declared.literal.Literal.{Literal}
use Rattle.jm_selector.specs.declared.literal.Literal.TheVariants.{Number, Text}
use Rattle.jm_selector.specs.Selectors.{selector_read, matches}

-- ---- the literal that a selector asks for

-- the literal that a node is: a whole number or a text
abbrev pub node_literal : Tree-F Tree → Option Literal
node_literal (Tree-F.Num number) = Some (Number number)
node_literal (Tree-F.Text text) = Some (Text text)
node_literal _ = None

-- a name is that of a property, of JMSCorrelationID or of JMSType
abbrev pub is_free : Option Field → Bool
is_free None = true
is_free (Some fields.CorrelationId) = true
is_free (Some fields.Type) = true
is_free (Some _) = false

-- a node is such a name
abbrev pub node_is_name : Tree-F Tree → Bool
node_is_name (Tree-F.Name name) = is_free (field_of name)
node_is_name _ = false

-- the literal of two sides, of which one is a name and the other a literal
abbrev pub sides_literal : Tree-F Tree → Tree-F Tree → Option Literal
sides_literal left right =
    if node_is_name left then node_literal right
    else if node_is_name right then node_literal left
    else None

-- the literal that a comparison asks for: an equality alone asks for one
abbrev pub comparison_literal : Comparison → Tree → Tree → Option Literal
comparison_literal Equal left right = sides_literal (out-Tree left) (out-Tree right)
comparison_literal _ left right = None

-- the literal that a node asks for, where it is a comparison
abbrev pub equality_literal : Tree-F Tree → Option Literal
equality_literal (Tree-F.Compare op left right) = comparison_literal op left right
equality_literal _ = None

-- the first literal that one of the members of an AND asks for
abbrev pub first_literal : List Tree → Option Literal
first_literal [] = None
first_literal (member ∷ members) = option_or (equality_literal (out-Tree member)) (first_literal members)

-- the literal that a node asks for: an equality, or the first of those that an AND joins
abbrev pub asked_by : Tree-F Tree → Option Literal
asked_by (Tree-F.All members) = first_literal members
asked_by node = equality_literal node

-- the literal that what was read of a selector asks for
abbrev pub read_literal : Result (Option Tree) SyntaxFault → Option Literal
read_literal (Ok None) = None
read_literal (Ok (Some tree)) = asked_by (out-Tree tree)
read_literal (Err fault) = None

-- the literal that a selector, as a text, asks a value of a message to be equal to
unfoldable pub literal_of : Option (List ℕ) → Option Literal
literal_of selector = read_literal (selector_read selector)

-- ---- the literals of a message

-- the value of a property as a literal; a boolean is none
abbrev pub property_literal : Property → Option Literal
property_literal (properties.Bool value) = None
property_literal (properties.Byte value) = Some (Number value)
property_literal (properties.Short value) = Some (Number value)
property_literal (properties.Int value) = Some (Number value)
property_literal (properties.Long value) = Some (Number value)
property_literal (properties.Text text) = Some (Text text)

-- the literals of properties, in order
abbrev pub properties_literals : Table → List Literal
properties_literals properties = filter_map (λ entry. property_literal entry.1) properties

-- a text as a literal, where it is set
abbrev pub text_literal : Option (List ℕ) → Option Literal
text_literal None = None
text_literal (Some text) = Some (Text text)

-- the values of a message that a selector may ask to be equal to a literal: those of its properties in order, then
-- JMSCorrelationID, then JMSType
unfoldable pub literals_of : Content → List Literal
literals_of m =
    properties_literals m.properties ++ option_to_list (text_literal m.correlation) ++ option_to_list (text_literal m.message_type)

-- a message that a selector selects has the literal that the selector asks for
abbrev pub HasItsLiteral : Option (List ℕ) → Content → Type 0
HasItsLiteral selector m = (literal : Literal) → literal_of selector ≡ Some literal → matches selector m ≡ true → Contains (literals_of m) literal

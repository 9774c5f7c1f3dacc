-- A message that a selector selects has the literal that the selector asks for.
use Rattle.std.proofs.Common.{◌≡◌, ◌∙◌, ℕ, ℤ, zero, suc, ◌+◌, ◌<◌, Bool, true, false, ◌&&◌, List, [], ◌∷◌, ◌++◌, length, map, fold, take, slice_get, refl, ap, sym, arith, rules, Option, Some, None, Result, Ok, Err}
use Rattle.std.specs.Prelude.{int_le, if◌then◌else◌, Contains}
use Rattle.std.specs.List.{cons_option}
use Rattle.std.specs.Str.{bytes_eq}
use Rattle.std.specs.Option.{option_or, option_to_list}
use Rattle.std.specs.Cmp.Lexicographic.{bytes_decides}
use Rattle.std.proofs.lemmas.List.Elements.{Contains-append_left, Contains-append_right}
use Rattle.jm_header.specs.declared.content.Content.{Content}
use Rattle.jm_lexer.specs.declared.fault.SyntaxFault.{SyntaxFault}
use Rattle.jm_property.specs.declared.property.Property.{Property}
use Rattle.jm_property.specs.declared.property.Property.TheVariants as properties
use Rattle.jm_property.specs.Properties.{Table, value_of}
use Rattle.jm_tree.specs.Names.{field_of}
use Rattle.jm_tree.specs.declared.identifier.Field.{Field}
use Rattle.jm_tree.specs.declared.identifier.Field.TheVariants as fields
use Rattle.jm_tree.specs.declared.tree.Comparison.{Comparison}
use Rattle.jm_tree.specs.declared.tree.Comparison.TheVariants.{Equal}
use Rattle.jm_tree.specs.declared.tree.Tree.{Tree, out-Tree, roll-Tree, roll-out-Tree}
use Rattle.jm_tree.specs.declared.tree.Tree.TheOpen.{Tree-F}
use Rattle.jm_tree.specs.declared.tree.Tree.TheFolds.{fold-roll-Tree}
use Rattle.jm_eval.specs.declared.truth.Truth.{Truth}
use Rattle.jm_eval.specs.declared.truth.Truth.TheVariants as t
use Rattle.jm_eval.specs.Values as v
use Rattle.jm_eval.specs.Values.{Value, truth_of, condition_of, and_of, comparison}
use Rattle.jm_eval.specs.Views.{view, property_or_null, text_or_null, value_of_field}
use Rattle.jm_eval.specs.Evaluation.{value, node, condition, and_next}
use Rattle.jm_selector.specs.declared.literal.Literal.{Literal}
use Rattle.jm_selector.specs.declared.literal.Literal.TheVariants.{Number, Text}
use Rattle.jm_selector.specs.Selectors.{selector_read, holds, selects, read_selects}
use Rattle.jm_selector.specs.Literals.{node_literal, is_free, node_is_name, comparison_literal, equality_literal, first_literal, asked_by, read_literal, literal_of, property_literal, properties_literals, text_literal, literals_of, HasItsLiteral}

-- ---- a comparison that is TRUE is of equal values

-- a literal as a value
abbrev as_value : Literal → Value
as_value (Number n) = v.Number n
as_value (Text text) = v.Text text

true_of : (b : Bool) → truth_of b ≡ t.True → b ≡ true
true_of true h = refl
true_of false h = cc

ints_equal : (a b : ℤ) → (int_le a b && int_le b a) ≡ true → a ≡ b
ints_equal a b h = Prim.search (h, rules)

equal_right : (x : Value) (l : Literal) → comparison Equal x (as_value l) ≡ t.True → x ≡ as_value l
equal_right v.Unknown (Number n) h = cc
equal_right v.Unknown (Text text) h = cc
equal_right (v.Boolean b) (Number n) h = cc
equal_right (v.Boolean b) (Text text) h = cc
equal_right (v.Number a) (Number n) h = ap v.Number (ints_equal a n (true_of _ h))
equal_right (v.Number a) (Text text) h = cc
equal_right (v.Text cs) (Number n) h = cc
equal_right (v.Text cs) (Text text) h = ap v.Text ((bytes_decides cs text).0 (true_of _ h))

equal_left : (x : Value) (l : Literal) → comparison Equal (as_value l) x ≡ t.True → x ≡ as_value l
equal_left v.Unknown (Number n) h = cc
equal_left v.Unknown (Text text) h = cc
equal_left (v.Boolean b) (Number n) h = cc
equal_left (v.Boolean b) (Text text) h = cc
equal_left (v.Number a) (Number n) h = ap v.Number (sym (ints_equal n a (true_of _ h)))
equal_left (v.Number a) (Text text) h = cc
equal_left (v.Text cs) (Number n) h = cc
equal_left (v.Text cs) (Text text) h = ap v.Text (sym ((bytes_decides text cs).0 (true_of _ h)))

-- ---- the values of nodes

rolled : (tree : Tree) (f : Tree-F Tree) → out-Tree tree ≡ f → tree ≡ roll-Tree f
rolled tree f h = sym (roll-out-Tree tree) ∙ ap roll-Tree h

value-name : (see : List ℕ → Value) (tree : Tree) (name : List ℕ) → out-Tree tree ≡ Tree-F.Name name → value see tree ≡ see name
unfolding value
value-name see tree name h = ap (value see) (rolled tree (Tree-F.Name name) h) ∙ fold-roll-Tree Value (node see) (Tree-F.Name name)

value-num : (see : List ℕ → Value) (tree : Tree) (n : ℤ) → out-Tree tree ≡ Tree-F.Num n → value see tree ≡ v.Number n
unfolding value
value-num see tree n h = ap (value see) (rolled tree (Tree-F.Num n) h) ∙ fold-roll-Tree Value (node see) (Tree-F.Num n)

value-text : (see : List ℕ → Value) (tree : Tree) (text : List ℕ) → out-Tree tree ≡ Tree-F.Text text → value see tree ≡ v.Text text
unfolding value
value-text see tree text h = ap (value see) (rolled tree (Tree-F.Text text) h) ∙ fold-roll-Tree Value (node see) (Tree-F.Text text)

value-compare : (see : List ℕ → Value) (tree : Tree) (op : Comparison) (left right : Tree) → out-Tree tree ≡ Tree-F.Compare op left right
    → value see tree ≡ v.value_of (comparison op (value see left) (value see right))
unfolding value
value-compare see tree op left right h =
    ap (value see) (rolled tree (Tree-F.Compare op left right) h) ∙ fold-roll-Tree Value (node see) (Tree-F.Compare op left right)

value-all : (see : List ℕ → Value) (tree : Tree) (members : List Tree) → out-Tree tree ≡ Tree-F.All members
    → value see tree ≡ v.value_of (fold and_next t.True (map (value see) members))
unfolding value
value-all see tree members h = ap (value see) (rolled tree (Tree-F.All members) h) ∙ fold-roll-Tree Value (node see) (Tree-F.All members)

condition-value : (x : Truth) → condition_of (v.value_of x) ≡ x
condition-value t.True = refl
condition-value t.False = refl
condition-value t.Unknown = refl

-- ---- the sides of an equality

-- some name that may be asked for has the value of the literal
abbrev Sees : (List ℕ → Value) → Literal → Type 0
Sees see l = (name : List ℕ) × (is_free (field_of name) ≡ true) × (see name ≡ as_value l)

literal-node : (see : List ℕ → Value) (tree : Tree) (f : Tree-F Tree) (l : Literal) → out-Tree tree ≡ f → node_literal f ≡ Some l → value see tree ≡ as_value l
literal-node see tree (Tree-F.Num n) (Number m) h e = value-num see tree n h ∙ cc
literal-node see tree (Tree-F.Num n) (Text text) h e = cc
literal-node see tree (Tree-F.Text text) (Text other) h e = value-text see tree text h ∙ cc
literal-node see tree (Tree-F.Text text) (Number m) h e = cc
literal-node see tree _ l h e = cc

name-node : (see : List ℕ → Value) (tree : Tree) (f : Tree-F Tree) → out-Tree tree ≡ f → node_is_name f ≡ true
    → (name : List ℕ) × (is_free (field_of name) ≡ true) × (value see tree ≡ see name)
name-node see tree (Tree-F.Name name) h e = (name, e, value-name see tree name h)
name-node see tree _ h e = cc

sees_right : (see : List ℕ → Value) (left right : Tree) (l : Literal) → node_is_name (out-Tree left) ≡ true → node_literal (out-Tree right) ≡ Some l
    → comparison Equal (value see left) (value see right) ≡ t.True → Sees see l
sees_right see left right l n e h =
    let named = name-node see left (out-Tree left) refl n in
    let side = literal-node see right (out-Tree right) l refl e in
    (named.0, named.1, sym named.2 ∙ equal_right (value see left) l (ap (comparison Equal (value see left)) (sym side) ∙ h))

sees_left : (see : List ℕ → Value) (left right : Tree) (l : Literal) → node_is_name (out-Tree right) ≡ true → node_literal (out-Tree left) ≡ Some l
    → comparison Equal (value see left) (value see right) ≡ t.True → Sees see l
sees_left see left right l n e h =
    let named = name-node see right (out-Tree right) refl n in
    let side = literal-node see left (out-Tree left) l refl e in
    (named.0, named.1, sym named.2 ∙ equal_left (value see right) l (ap (λ x. comparison Equal x (value see right)) (sym side) ∙ h))

sees_sides : (see : List ℕ → Value) (left right : Tree) (l : Literal) (b c : Bool) → node_is_name (out-Tree left) ≡ b → node_is_name (out-Tree right) ≡ c
    → (if b then node_literal (out-Tree right) else if c then node_literal (out-Tree left) else None) ≡ Some l
    → comparison Equal (value see left) (value see right) ≡ t.True → Sees see l
sees_sides see left right l true c n m e h = sees_right see left right l n e h
sees_sides see left right l false true n m e h = sees_left see left right l m e h
sees_sides see left right l false false n m e h = cc

sees_comparison : (see : List ℕ → Value) (op : Comparison) (left right : Tree) (l : Literal) → comparison_literal op left right ≡ Some l
    → comparison op (value see left) (value see right) ≡ t.True → Sees see l
sees_comparison see Equal left right l e h = sees_sides see left right l _ _ refl refl e h
sees_comparison see _ left right l e h = cc

sees_equality : (see : List ℕ → Value) (tree : Tree) (f : Tree-F Tree) (l : Literal) → out-Tree tree ≡ f → equality_literal f ≡ Some l
    → condition see tree ≡ t.True → Sees see l
sees_equality see tree (Tree-F.Compare op left right) l is e h =
    sees_comparison see op left right l e (sym (ap condition_of (value-compare see tree op left right is) ∙ condition-value _) ∙ h)
sees_equality see tree _ l is e h = cc

-- ---- the members of an AND

and_both : (x y : Truth) → and_of x y ≡ t.True → (x ≡ t.True) × (y ≡ t.True)
and_both t.True t.True h = (refl, refl)
and_both t.True t.False h = cc
and_both t.True t.Unknown h = cc
and_both t.False y h = cc
and_both t.Unknown t.True h = cc
and_both t.Unknown t.False h = cc
and_both t.Unknown t.Unknown h = cc

chain_start : (x : Truth) (values : List Value) → fold and_next x values ≡ t.True → x ≡ t.True
chain_start x [] h = h
chain_start x (y ∷ values) h = (and_both x (condition_of y) (chain_start (and_next x y) values h)).0

sees_first : (see : List ℕ → Value) (x : Truth) (members : List Tree) (l : Literal) → first_literal members ≡ Some l
    → fold and_next x (map (value see) members) ≡ t.True → Sees see l
sees_first see x [] l e h = cc
sees_first see x (member ∷ members) l e h =
    either (equality_literal (out-Tree member)) refl (λ e. sees_first see (and_next x (value see member)) members l e h) e
  where
    either : (o : Option Literal) → equality_literal (out-Tree member) ≡ o → (first_literal members ≡ Some l → Sees see l)
        → option_or o (first_literal members) ≡ Some l → Sees see l
    either None is later e = later e
    either (Some own) is later e =
        sees_equality see member (out-Tree member) l refl (is ∙ e) (and_both x (condition see member) (chain_start (and_next x (value see member)) (map (value see) members) h)).1

sees_asked : (see : List ℕ → Value) (tree : Tree) (f : Tree-F Tree) (l : Literal) → out-Tree tree ≡ f → asked_by f ≡ Some l
    → condition see tree ≡ t.True → Sees see l
sees_asked see tree (Tree-F.All members) l is e h =
    sees_first see t.True members l e (sym (ap condition_of (value-all see tree members is) ∙ condition-value _) ∙ h)
sees_asked see tree f l is e h = sees_equality see tree f l is e h

-- ---- what a name sees is a literal of the message

literal-property : (p : Property) (l : Literal) → property_or_null (Some p) ≡ as_value l → property_literal p ≡ Some l
literal-property (properties.Bool b) (Number n) h = cc
literal-property (properties.Bool b) (Text text) h = cc
literal-property (properties.Byte a) (Number n) h = cc
literal-property (properties.Byte a) (Text text) h = cc
literal-property (properties.Short a) (Number n) h = cc
literal-property (properties.Short a) (Text text) h = cc
literal-property (properties.Int a) (Number n) h = cc
literal-property (properties.Int a) (Text text) h = cc
literal-property (properties.Long a) (Number n) h = cc
literal-property (properties.Long a) (Text text) h = cc
literal-property (properties.Text cs) (Number n) h = cc
literal-property (properties.Text cs) (Text text) h = cc

literal-text : (o : Option (List ℕ)) (l : Literal) → text_or_null o ≡ as_value l → text_literal o ≡ Some l
literal-text None (Number n) h = cc
literal-text None (Text text) h = cc
literal-text (Some cs) (Number n) h = cc
literal-text (Some cs) (Text text) h = cc

first_there : (o : Option Literal) (xs : List Literal) (l : Literal) → o ≡ Some l → Contains (cons_option o xs) l
first_there None xs l e = cc
first_there (Some x) xs l e = (zero, omega arith, cc)

later_there : (o : Option Literal) (xs : List Literal) (l : Literal) → Contains xs l → Contains (cons_option o xs) l
later_there None xs l there = there
later_there (Some x) xs l there = Contains-append_right (x ∷ []) xs l there

only_there : (o : Option Literal) (l : Literal) → o ≡ Some l → Contains (option_to_list o) l
only_there None l e = cc
only_there (Some x) l e = (zero, omega arith, cc)

nothing_there : (l : Literal) (A : Type 0) → v.Unknown ≡ as_value l → A
nothing_there (Number n) A h = cc
nothing_there (Text text) A h = cc

property_there : (table : Table) (name : List ℕ) (l : Literal) → property_or_null (value_of table name) ≡ as_value l → Contains (properties_literals table) l
property_there [] name l h = nothing_there l _ h
property_there (entry ∷ rest) name l h = by_name (bytes_eq name entry.0) (λ h. property_there rest name l h) h
  where
    by_name : (b : Bool) → (property_or_null (value_of rest name) ≡ as_value l → Contains (properties_literals rest) l)
        → property_or_null (if b then Some entry.1 else value_of rest name) ≡ as_value l → Contains (properties_literals (entry ∷ rest)) l
    by_name true later h = first_there (property_literal entry.1) (properties_literals rest) l (literal-property entry.1 l h)
    by_name false later h = later_there (property_literal entry.1) (properties_literals rest) l (later h)

seen_there : (m : Content) (l : Literal) (name : List ℕ) → is_free (field_of name) ≡ true → view m name ≡ as_value l → Contains (literals_of m) l
unfolding view literals_of
seen_there m l name free h = by_field (field_of name) free h
  where
    own : List Literal
    own = properties_literals m.properties

    correlation : List Literal
    correlation = option_to_list (text_literal m.correlation)

    message_type : List Literal
    message_type = option_to_list (text_literal m.message_type)

    by_field : (f : Option Field) → is_free f ≡ true → value_of_field m name f ≡ as_value l → Contains (own ++ correlation ++ message_type) l
    by_field None free h = Contains-append_left (own ++ correlation) message_type l (Contains-append_left own correlation l (property_there m.properties name l h))
    by_field (Some fields.CorrelationId) free h =
        Contains-append_left (own ++ correlation) message_type l (Contains-append_right own correlation l (only_there (text_literal m.correlation) l (literal-text m.correlation l h)))
    by_field (Some fields.Type) free h =
        Contains-append_right (own ++ correlation) message_type l (only_there (text_literal m.message_type) l (literal-text m.message_type l h))
    by_field (Some _) free h = cc

-- ---- the law

holds_true : (x : Truth) → holds x ≡ true → x ≡ t.True
holds_true t.True h = refl
holds_true t.False h = cc
holds_true t.Unknown h = cc

selected_there : (tree : Tree) (m : Content) (l : Literal) → asked_by (out-Tree tree) ≡ Some l → selects (Some tree) m ≡ true → Contains (literals_of m) l
unfolding selects
selected_there tree m l e h =
    let sees = sees_asked (view m) tree (out-Tree tree) l refl e (holds_true (condition (view m) tree) h) in
    seen_there m l sees.0 sees.1 sees.2

-- a message that a selector selects has the literal that the selector asks for
pub literal_there : (selector : Option (List ℕ)) (m : Content) → HasItsLiteral selector m
unfolding literal_of
literal_there selector m l e h = by_read (selector_read selector) e h
  where
    by_read : (r : Result (Option Tree) SyntaxFault) → read_literal r ≡ Some l → read_selects r m ≡ true → Contains (literals_of m) l
    by_read (Ok None) e h = cc
    by_read (Ok (Some tree)) e h = selected_there tree m l e h
    by_read (Err fault) e h = cc

-- ---- what the code has found

one_literal : (o : Option Literal) → cons_option o [] ≡ option_to_list o
one_literal None = refl
one_literal (Some x) = refl

then_more : (o : Option Literal) (xs ys : List Literal) → cons_option o (xs ++ ys) ≡ cons_option o xs ++ ys
then_more None xs ys = refl
then_more (Some x) xs ys = refl

same_entry : (own entry : List ℕ × Property) → Some entry ≡ Some own → own ≡ entry
same_entry own entry e = cc

one_later : (i : ℕ) → suc i + 1 ≡ suc (i + 1)
one_later i = omega arith

-- the literals of the properties up to a place, with that of the property there
pub one_more : (table : Table) (i : ℕ) (entry : List ℕ × Property) → Some entry ≡ slice_get table i
    → properties_literals (take (i + 1) table) ≡ properties_literals (take i table) ++ option_to_list (property_literal entry.1)
one_more [] i entry e = cc
one_more (own ∷ table) zero entry e = one_literal (property_literal own.1) ∙ ap (λ (x : List ℕ × Property). option_to_list (property_literal x.1)) (same_entry own entry e)
one_more (own ∷ table) (suc i) entry e =
    ap (λ n. properties_literals (take n (own ∷ table))) (one_later i)
    ∙ ap (cons_option (property_literal own.1)) (one_more table i entry e)
    ∙ then_more (property_literal own.1) (properties_literals (take i table)) (option_to_list (property_literal entry.1))

-- there is a property at each place below their number
pub not_past : (table : Table) (i : ℕ) → None ≡ slice_get table i → i < length table → ⊥
not_past [] i e below = omega arith
not_past (own ∷ table) zero e below = cc
not_past (own ∷ table) (suc i) e below = not_past table i e (omega arith)

-- a selector asks for what the tree does that it is read as
pub read_as : (selector : Option (List ℕ)) (tree other : Option Tree) → selector_read selector ≡ Ok tree → tree ≡ other → read_literal (Ok other) ≡ literal_of selector
unfolding literal_of
read_as selector tree other h e = ap read_literal (ap Ok (sym e) ∙ sym h)

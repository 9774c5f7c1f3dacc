-- What the rows of the tables stand for.
use Rattle.std.specs.Prelude.{ℕ, ℤ, pos, negsuc, Bool, not, ◌&&◌, List, find, Option, None, Some, option_map, if◌then◌else◌}
use Rattle.std.specs.Ordering.{int_eq}
use Rattle.jm_dest.specs.declared.key.Key.{Key}
use Rattle.jm_machine.specs.declared.state.Definition.{Definition}
use Rattle.jm_selector.specs.Selectors.{selector_read, standing}
use Rattle.jm_machine.specs.Reopened.{is_durable}
use Rattle.jm_machine.specs.Under.{is_key}
use Rattle.jm_keep.specs.Stored.{Stored}
use Rattle.sqlite_value.specs.Order.{Row, column, bytes}
use Rattle.sqlite_trees.specs.Tree.{Trees, rowid}
use Rattle.sqlite_rules.specs.Edit.{id_in}
use Rattle.jm_tables.specs.Schema.{station_tree, message_tree, held_tree, delayed_tree}
use Rattle.jm_tables.specs.Keys.{key_of}

-- a number that is not negative
abbrev pub number_in : ℤ → ℕ
number_in (pos n) = n
number_in (negsuc n) = 0

-- a mark is set where it is not 0
abbrev pub is_set : ℤ → Bool
is_set n = not (int_eq n (pos 0))

-- the selector that a column stands for: a text without tokens is none
abbrev pub selector_in : List ℕ → Option (List ℕ)
selector_in text = standing (Some text) (selector_read (Some text))

-- what a row of station asks for
abbrev pub definition_in : Row → Definition
definition_in r = record { topic = bytes (column r 5); selector = selector_in (bytes (column r 6)); no_local = is_set (id_in (column r 7)); shared = is_set (id_in (column r 4)) }

-- the row is that of the key
abbrev pub is_under : Key → Row → Bool
is_under key r = is_key key (key_of r)

-- the row of held is that of the key at the place
abbrev pub is_under_at : Key → ℕ → Row → Bool
is_under_at key place r = is_under key r && int_eq (id_in (column r 4)) (pos place)

-- the row of message, or of delayed, is the one at the place
abbrev pub is_at : ℕ → Row → Bool
is_at place r = int_eq (id_in (rowid r)) (pos place)

-- what the durable subscription of the key asks for
abbrev pub definition_under : Key → List Row → Option Definition
definition_under key rows = if is_durable key then option_map definition_in (find (is_under key) rows) else None

-- how often the message at the place was delivered under the key
abbrev pub count_under : Key → ℕ → List Row → Option ℕ
count_under key place rows = option_map (λ r. number_in (id_in (column r 5))) (find (is_under_at key place) rows)

-- the record of the message at the place
abbrev pub record_at : ℕ → List Row → Option (List ℕ)
record_at place rows = option_map (λ r. bytes (column r 2)) (find (is_at place) rows)

-- the moment at which the message at the place becomes due, where it is delayed
abbrev pub due_at : ℕ → List Row → Option ℕ
due_at place rows = option_map (λ r. number_in (id_in (column r 2))) (find (is_at place) rows)

-- what is stored in the tables
abbrev pub stored_in : Trees → Stored
stored_in db = record {
  definition = λ key. definition_under key (db station_tree);
  count = λ key place. count_under key place (db held_tree);
  message = λ place. record_at place (db message_tree);
  due = λ place. due_at place (db delayed_tree);
}

-- What the queries show of the tables, and in which order.
use Rattle.std.specs.Prelude.{◌≡◌, ℕ, pos, List, [], ◌∷◌, codes, map}
use Rattle.std.specs.declared.cmp.Ordering.{Ordering}
use Rattle.std.specs.Ordering.{int_cmp, nat_cmp, ordering_then}
use Rattle.std.specs.Cmp.Lexicographic.{slice_cmp}
use Rattle.std.specs.List.Sorted.{IsPermutation, IsStrictlySortedBy}
use Rattle.sqlite_value.specs.declared.value.Value.TheVariants.{Null, Int}
use Rattle.sqlite_value.specs.Order.{Row, column, bytes}
use Rattle.sqlite_trees.specs.Tree.{Trees, rowid}
use Rattle.sqlite_rules.specs.Edit.{id_in}
use Rattle.jm_tables.specs.Schema.{station_tree, message_tree, held_tree, delayed_tree}

-- ---- the texts

abbrev pub stations_text : List ℕ
stations_text = codes "SELECT 0, family, client, name, shared, topic, selector, no_local FROM station ORDER BY family, client, name"

abbrev pub messages_text : List ℕ
messages_text = codes "SELECT place, NULL, record FROM message ORDER BY place"

abbrev pub held_text : List ℕ
held_text = codes "SELECT 0, family, client, name, place, deliveries FROM held ORDER BY family, client, name, place"

abbrev pub delays_text : List ℕ
delays_text = codes "SELECT place, NULL, due FROM delayed ORDER BY place"

-- ---- the rows: each column has the index that it has in the tree

-- a row of station, with 0 in place of its rowid
abbrev pub station_shown : Row → Row
station_shown r = Int (pos 0) ∷ column r 1 ∷ column r 2 ∷ column r 3 ∷ column r 4 ∷ column r 5 ∷ column r 6 ∷ column r 7 ∷ []

-- a row of message: the place is its rowid
abbrev pub message_shown : Row → Row
message_shown r = rowid r ∷ Null ∷ column r 2 ∷ []

-- a row of held, with 0 in place of its rowid
abbrev pub held_shown : Row → Row
held_shown r = Int (pos 0) ∷ column r 1 ∷ column r 2 ∷ column r 3 ∷ column r 4 ∷ column r 5 ∷ []

-- a row of delayed: the place is its rowid
abbrev pub delay_shown : Row → Row
delay_shown r = rowid r ∷ Null ∷ column r 2 ∷ []

-- ---- the order

-- by family, by client and by name
abbrev pub key_cmp : Row → Row → Ordering
key_cmp a b = ordering_then (int_cmp (id_in (column a 1)) (id_in (column b 1)))
    (ordering_then (slice_cmp nat_cmp (bytes (column a 2)) (bytes (column b 2))) (slice_cmp nat_cmp (bytes (column a 3)) (bytes (column b 3))))

-- by key, and then by place
abbrev pub held_cmp : Row → Row → Ordering
held_cmp a b = ordering_then (key_cmp a b) (int_cmp (id_in (column a 4)) (id_in (column b 4)))

-- the rows are all of those, and each is below those after it
pub record AreInOrder (cmp : Row → Row → Ordering) (all rows : List Row) : Type 0 where
  pub same : IsPermutation all rows
  pub rise : IsStrictlySortedBy cmp rows

-- ---- what is shown of a database

-- the rows of station, by key
abbrev pub AreStations : Trees → List Row → Type 0
AreStations db rows = AreInOrder key_cmp (map station_shown (db station_tree)) rows

-- the rows of message, by place, as they stand
abbrev pub AreMessages : Trees → List Row → Type 0
AreMessages db rows = rows ≡ map message_shown (db message_tree)

-- the rows of held, by key and then by place
abbrev pub AreHeld : Trees → List Row → Type 0
AreHeld db rows = AreInOrder held_cmp (map held_shown (db held_tree)) rows

-- the rows of delayed, by place, as they stand
abbrev pub AreDelays : Trees → List Row → Type 0
AreDelays db rows = rows ≡ map delay_shown (db delayed_tree)

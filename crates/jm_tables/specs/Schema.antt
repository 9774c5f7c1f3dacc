-- The schema that the texts make.
use Rattle.std.specs.Prelude.{true, false, [], ◌∷◌, ◌++◌, Some, None, Option, codes, List, ℕ, pos, map, Bool}
use Rattle.sqlite.specs.Collation.TheVariants.{Binary}
use Rattle.sqlite.specs.declared.types.Value.TheVariants.{Null, Int}
use Rattle.sqlite.specs.Table.{Table}
use Rattle.sqlite.specs.Schema.{Schema}
use Rattle.sqlite.specs.Kind.{Kind}
use Rattle.sqlite.specs.Kind.TheVariants.{Integer, Text, Blob}
use Rattle.sqlite_schema.specs.declared.schema.Column.{Column}
use Rattle.sqlite_schema.specs.declared.schema.Reference.{Reference}
use Rattle.sqlite_schema.specs.declared.schema.Action.TheVariants.{NoAction}
use Rattle.sqlite_schema.specs.declared.schema.Index.{Index}
use Rattle.sqlite.specs.Term.{Term, lit, col, op2}
use Rattle.sqlite_value.specs.Keys.{plain}
use Rattle.sqlite_sql.specs.declared.ops.BinaryOp.TheVariants.{Compare}
use Rattle.sqlite_sql.specs.declared.ops.CompareOp.TheVariants.{Eq, Ge, Gt}

-- Where the rows of each table stand among the trees, and the entries of each index

abbrev pub meta_tree : ℕ
meta_tree = 0

abbrev pub station_tree : ℕ
station_tree = 1

abbrev pub station_keys_tree : ℕ
station_keys_tree = 2

abbrev pub message_tree : ℕ
message_tree = 3

abbrev pub held_tree : ℕ
held_tree = 4

abbrev pub held_keys_tree : ℕ
held_keys_tree = 5

abbrev pub held_by_place_tree : ℕ
held_by_place_tree = 6

abbrev pub delayed_tree : ℕ
delayed_tree = 7

-- The tables

-- a column of a STRICT table
abbrev pub named : List ℕ → Kind → Bool → Column
named name kind required = record { name = name; kind = kind; is_strict = true; not_null = required; default = Null; collation = Binary }

-- a table of such columns
abbrev pub of : List ℕ → ℕ → List Column → Option ℕ → List ℕ → List (List ℕ) → List Term → List Reference → Table
of name tree columns key primary uniques checks references = record {
  name = name;
  tree = tree;
  columns = columns;
  key = key;
  primary = primary;
  uniques = uniques;
  orders = map (λ _. plain) uniques;
  checks = checks;
  references = references;
  computed = [];
  stamps = record { places = []; terms = []; formats = [] };
  is_counted = false;
}

-- columns refer to those of a row of another table, which does not go while they do
abbrev pub refers : List ℕ → List ℕ → List (List ℕ) → Reference
refers columns parent parent_columns = record { columns = columns; parent = parent; parent_columns = parent_columns; on_delete = NoAction; on_update = NoAction; is_deferred = false }

-- the columns of a key
abbrev pub key_columns : List Column
key_columns = named (codes "family") Integer true ∷ named (codes "client") Text true ∷ named (codes "name") Text true ∷ []

-- their names
abbrev pub key_names : List (List ℕ)
key_names = codes "family" ∷ codes "client" ∷ codes "name" ∷ []

abbrev pub meta : Table
meta = of (codes "meta") meta_tree (named (codes "id") Integer false ∷ named (codes "version") Integer true ∷ named (codes "opening") Integer true ∷ []) (Some 0) (0 ∷ []) []
    (op2 (Compare Eq Binary) (col 1 0) (lit (Int (pos 1))) ∷ []) []

abbrev pub station : Table
station = of (codes "station") station_tree (key_columns ++ named (codes "shared") Integer true ∷ named (codes "topic") Text true ∷ named (codes "selector") Text true ∷ named (codes "no_local") Integer true ∷ [])
    None (1 ∷ 2 ∷ 3 ∷ []) ((1 ∷ 2 ∷ 3 ∷ []) ∷ []) [] []

abbrev pub message : Table
message = of (codes "message") message_tree (named (codes "place") Integer false ∷ named (codes "record") Blob true ∷ []) (Some 0) (0 ∷ []) [] [] []

abbrev pub held : Table
held = of (codes "held") held_tree (key_columns ++ named (codes "place") Integer true ∷ named (codes "deliveries") Integer true ∷ []) None (1 ∷ 2 ∷ 3 ∷ 4 ∷ []) ((1 ∷ 2 ∷ 3 ∷ 4 ∷ []) ∷ [])
    (op2 (Compare Ge Binary) (col 1 5) (lit (Int (pos 0))) ∷ []) (refers (4 ∷ []) (codes "message") (codes "place" ∷ []) ∷ refers (1 ∷ 2 ∷ 3 ∷ []) (codes "station") key_names ∷ [])

abbrev pub delayed : Table
delayed = of (codes "delayed") delayed_tree (named (codes "place") Integer false ∷ named (codes "due") Integer true ∷ []) (Some 0) (0 ∷ []) []
    (op2 (Compare Gt Binary) (col 1 2) (lit (Int (pos 0))) ∷ []) (refers (0 ∷ []) (codes "message") (codes "place" ∷ []) ∷ [])

-- The indexes

-- the index of a table's primary key
abbrev pub index_of_key : List ℕ → ℕ → Table → Index
index_of_key name tree table = record { name = name; tree = tree; table = table.tree; columns = table.primary; order = plain; is_unique = true }

abbrev pub station_keys : Index
station_keys = index_of_key (codes "sqlite_autoindex_station_1") station_keys_tree station

abbrev pub held_keys : Index
held_keys = index_of_key (codes "sqlite_autoindex_held_1") held_keys_tree held

abbrev pub held_by_place : Index
held_by_place = record { name = codes "held_by_place"; tree = held_by_place_tree; table = held_tree; columns = 4 ∷ []; order = plain; is_unique = false }

-- no table
abbrev pub no_schema : Schema
no_schema = record { tables = []; indexes = []; views = [] }

-- The schemas

-- version 1, with the index of rows by place
abbrev pub schema_1 : Schema
schema_1 = record { tables = meta ∷ station ∷ message ∷ held ∷ []; indexes = station_keys ∷ held_keys ∷ held_by_place ∷ []; views = [] }

-- version 1, without it
abbrev pub schema_1_bare : Schema
schema_1_bare = record { tables = meta ∷ station ∷ message ∷ held ∷ []; indexes = station_keys ∷ held_keys ∷ []; views = [] }

-- version 2
abbrev pub schema : Schema
schema = record { tables = meta ∷ station ∷ message ∷ held ∷ delayed ∷ []; indexes = station_keys ∷ held_keys ∷ held_by_place ∷ []; views = [] }

-- What the queries mean.
use Rattle.std.proofs.Common.{ℕ, pos, negsuc, false, List, [], ◌∷◌, ◌++◌, codes, None, refl, arith}
use Rattle.sqlite_tied.specs.Compute.{everything}
use Rattle.sqlite.specs.Listing.{understood}
use Rattle.sqlite.specs.Query.{Query, inner, end}
use Rattle.sqlite.specs.declared.types.Value.TheVariants.{Null, Int}
use Rattle.sqlite.specs.Term.{Term, lit, col}
use Rattle.sqlite_value.specs.declared.keys.Collation.TheVariants.{Binary}
use Rattle.sqlite_value.specs.declared.keys.Key.{Key}
use Rattle.sqlite_value.specs.Keys.{ascending}
use Rattle.jm_tables.specs.Schema.{schema, station_tree, message_tree, held_tree, delayed_tree}
use Rattle.jm_queries.specs.Asked.{Means}
use Rattle.jm_queries.specs.Shown.{stations_text, messages_text, held_text, delays_text}

-- the rows of one tree, with such columns and in such an order
abbrev pub over : ℕ → List Term → List (Term × Key) → Query
over tree shows order = record {
  from = inner tree end;
  filter = [];
  group = None;
  project = shows;
  distinct = false;
  collations = [];
  order = order;
  limit = lit (Int (negsuc 0));
  offset = lit (Int (pos 0));
}

abbrev pub by : ℕ → Term × Key
by at = (col 1 at, ascending Binary)

abbrev pub stations_query : Query
stations_query = over station_tree (lit (Int (pos 0)) ∷ col 1 1 ∷ col 1 2 ∷ col 1 3 ∷ col 1 4 ∷ col 1 5 ∷ col 1 6 ∷ col 1 7 ∷ []) (by 1 ∷ by 2 ∷ by 3 ∷ [])

abbrev pub messages_query : Query
messages_query = over message_tree (col 1 0 ∷ lit Null ∷ col 1 2 ∷ []) (by 0 ∷ [])

abbrev pub held_query : Query
held_query = over held_tree (lit (Int (pos 0)) ∷ col 1 1 ∷ col 1 2 ∷ col 1 3 ∷ col 1 4 ∷ col 1 5 ∷ []) (by 1 ∷ by 2 ∷ by 3 ∷ by 4 ∷ [])

abbrev pub delays_query : Query
delays_query = over delayed_tree (col 1 0 ∷ lit Null ∷ col 1 2 ∷ []) (by 0 ∷ [])

abbrev pub key_names : List (List ℕ)
key_names = codes "family" ∷ codes "client" ∷ codes "name" ∷ []

abbrev pub stations_names : List (List ℕ)
stations_names = codes "0" ∷ key_names ++ codes "shared" ∷ codes "topic" ∷ codes "selector" ∷ codes "no_local" ∷ []

abbrev pub messages_names : List (List ℕ)
messages_names = codes "place" ∷ codes "NULL" ∷ codes "record" ∷ []

abbrev pub held_names : List (List ℕ)
held_names = codes "0" ∷ key_names ++ codes "place" ∷ codes "deliveries" ∷ []

abbrev pub delays_names : List (List ℕ)
delays_names = codes "place" ∷ codes "NULL" ∷ codes "due" ∷ []

pub stations_means : Means schema stations_text stations_query
unfolding understood everything
stations_means = record { names = stations_names; command = refl; plain = (refl, refl); alone = (refl, search arith); unlisted = refl; accepted = refl; of_table = (_, refl); ungrouped = refl }

pub messages_means : Means schema messages_text messages_query
unfolding understood everything
messages_means = record { names = messages_names; command = refl; plain = (refl, refl); alone = (refl, search arith); unlisted = refl; accepted = refl; of_table = (_, refl); ungrouped = refl }

pub held_means : Means schema held_text held_query
unfolding understood everything
held_means = record { names = held_names; command = refl; plain = (refl, refl); alone = (refl, search arith); unlisted = refl; accepted = refl; of_table = (_, refl); ungrouped = refl }

pub delays_means : Means schema delays_text delays_query
unfolding understood everything
delays_means = record { names = delays_names; command = refl; plain = (refl, refl); alone = (refl, search arith); unlisted = refl; accepted = refl; of_table = (_, refl); ungrouped = refl }

-- What the queries show of the tables.
use Rattle.std.proofs.Common.{◌≡◌, ℕ, List, [], ◌∷◌, map, refl, sym, ap, ap₂, subst, ◌∙◌, Ordering, Less, Equal, Greater}
use Rattle.std.specs.Ordering.{ordering_then}
use Rattle.std.specs.List.Sorted.{IsStrictlySortedBy}
use Rattle.sqlite_value.specs.Order.{Row, column, value_cmp}
use Rattle.sqlite_value.proofs.OrderLemmas.{then-Equal}
use Rattle.sqlite.specs.Query.{Query, IsAnswer, Output, output_cmp}
use Rattle.sqlite.specs.Program.{overlay}
use Rattle.sqlite.specs.Effect.{Database}
use Rattle.sqlite_sql.proofs.QueryLemmas.{output_cmp_total}
use Rattle.sqlite_trees.specs.Tree.{rowid, IsTable}
use Rattle.sqlite_trees.proofs.ListLemmas.{map-map, all-map, all-permutation, ascending-map, ascending_weaker}
use Rattle.sqlite_rules.proofs.ListLemmas.{all_from}
use Rattle.sqlite_keyed.proofs.SortLemmas.{sorted_unique}
use Rattle.jm_tables.specs.Schema.{schema, station_tree, message_tree, held_tree, delayed_tree}
use Rattle.jm_tables.specs.Sound.{Serves}
use Rattle.jm_queries.specs.Shown.{AreDelays, AreHeld, AreMessages, AreStations, held_cmp, key_cmp, stations_text, messages_text, held_text, delays_text}
use Rattle.jm_queries.specs.Asked.{Means}
use Rattle.jm_queries.proofs.Texts.{stations_query, messages_query, held_query, delays_query, stations_means, messages_means, held_means, delays_means}
use Rattle.jm_queries.proofs.Sorting.{distinct, rises, rises_by}
use Rattle.jm_queries.proofs.Values.{IsKeyed, IsPlaced, int_order, text_order}
use Rattle.jm_queries.proofs.Apart.{columns_cmp, station_row, held_row, stations_apart, held_apart}
use Rattle.jm_queries.proofs.Answered.{IsShownBy, out, shown_by, same_rows}

-- ---- tables that are shown in the order of their rowids

below : (a b : Row) → value_cmp (rowid a) (rowid b) ≡ Less → ordering_then (value_cmp (rowid a) (rowid b)) Equal ≡ Less
below a b less = then-Equal (value_cmp (rowid a) (rowid b)) ∙ less

as_they_stand : (q : Query) (all rows : List Row) → ((a b : Row) → value_cmp (rowid a) (rowid b) ≡ Less → output_cmp q (out q a) (out q b) ≡ Less) → IsTable all → IsShownBy q all rows → rows ≡ map (λ r. (out q r).1) all
as_they_stand q all rows rule rise a =
    let strict = ascending-map (λ x y. output_cmp q x y ≡ Less) (out q) all (ascending_weaker (λ x y. value_cmp (rowid x) (rowid y) ≡ Less) (λ x y. output_cmp q (out q x) (out q y) ≡ Less) rule all rise) in
    a.shown ∙ ap (map (λ (o : Output). o.1)) (sorted_unique (output_cmp q) (output_cmp_total q) (map (out q) all) a.ordered strict a.same a.sorted) ∙ map-map (λ (o : Output). o.1) (out q) all

pub messages_are : (db : Database) (rows : List Row) → Serves db → IsAnswer messages_query (overlay db.trees []) [] rows → AreMessages db.trees rows
messages_are db rows s a = as_they_stand messages_query (db.trees message_tree) rows below s.messages.rise (shown_by message_tree messages_query.project messages_query.order db.trees rows refl a)

pub delays_are : (db : Database) (rows : List Row) → Serves db → IsAnswer delays_query (overlay db.trees []) [] rows → AreDelays db.trees rows
delays_are db rows s a = as_they_stand delays_query (db.trees delayed_tree) rows below s.delayed.rise (shown_by delayed_tree delays_query.project delays_query.order db.trees rows refl a)

-- ---- tables that are shown in the order of their keys

then_again : (a b c : Ordering) → ordering_then (ordering_then a b) c ≡ ordering_then a (ordering_then b c)
then_again Less b c = refl
then_again Equal b c = refl
then_again Greater b c = refl

key_order : (a b : Row) (o : Ordering) → IsKeyed a → IsKeyed b → columns_cmp a b o ≡ ordering_then (key_cmp a b) o
key_order a b o is also =
    ap₂ ordering_then (int_order _ _ is.family also.family) (ap₂ ordering_then (text_order _ _ is.client also.client) (ap (λ x. ordering_then x o) (text_order _ _ is.name also.name)) ∙ sym (then_again _ _ o))
    ∙ sym (then_again _ _ o)

-- the order of the query is that of the columns that are shown
abbrev IsStation : Output → Type 0
IsStation o = (o.0 ≡ column o.1 1 ∷ column o.1 2 ∷ column o.1 3 ∷ []) × IsKeyed o.1

abbrev IsHold : Output → Type 0
IsHold o = (o.0 ≡ column o.1 1 ∷ column o.1 2 ∷ column o.1 3 ∷ column o.1 4 ∷ []) × IsPlaced o.1

station_below : (a b : Output) → IsStation a → IsStation b → output_cmp stations_query a b ≡ Less → key_cmp a.1 b.1 ≡ Less
station_below a b is also less =
    sym (then-Equal (key_cmp a.1 b.1)) ∙ sym (key_order a.1 b.1 Equal is.1 also.1) ∙ sym (ap₂ (λ x y. output_cmp stations_query (x, a.1) (y, b.1)) is.0 also.0) ∙ less

held_below : (a b : Output) → IsHold a → IsHold b → output_cmp held_query a b ≡ Less → held_cmp a.1 b.1 ≡ Less
held_below a b is also less =
    ap (ordering_then (key_cmp a.1 b.1)) (sym (int_order _ _ is.1.place also.1.place) ∙ sym (then-Equal _)) ∙ sym (key_order a.1 b.1 _ is.1.key also.1.key)
    ∙ sym (ap₂ (λ x y. output_cmp held_query (x, a.1) (y, b.1)) is.0 also.0) ∙ less

pub stations_are : (db : Database) (rows : List Row) → Serves db → IsAnswer stations_query (overlay db.trees []) [] rows → AreStations db.trees rows
stations_are db rows s answer =
    let q = stations_query in
    let all = db.trees station_tree in
    let total = output_cmp_total q in
    let a = shown_by station_tree q.project q.order db.trees rows refl answer in
    let apart = distinct total (λ x y. value_cmp (rowid x) (rowid y) ≡ Less) (out q) all (stations_apart db s) s.stations.rise in
    let are = all-permutation IsStation (map (out q) all) a.ordered a.same (all-map IsStation (out q) all (all_from (λ r. IsStation (out q r)) all (λ r h.
    let is = station_row db s r h in (refl, record { family = is.family; client = is.client; name = is.name })))) in
    record {
      same = same_rows q all rows a;
      rise = subst (IsStrictlySortedBy key_cmp) (sym a.shown) (rises_by total key_cmp (λ (o : Output). o.1) IsStation station_below a.ordered are (rises total (map (out q) all) a.ordered apart a.same a.sorted));
    }

pub held_are : (db : Database) (rows : List Row) → Serves db → IsAnswer held_query (overlay db.trees []) [] rows → AreHeld db.trees rows
held_are db rows s answer =
    let q = held_query in
    let all = db.trees held_tree in
    let total = output_cmp_total q in
    let a = shown_by held_tree q.project q.order db.trees rows refl answer in
    let apart = distinct total (λ x y. value_cmp (rowid x) (rowid y) ≡ Less) (out q) all (held_apart db s) s.held.rise in
    let are = all-permutation IsHold (map (out q) all) a.ordered a.same (all-map IsHold (out q) all (all_from (λ r. IsHold (out q r)) all (λ r h.
    let is = held_row db s r h in (refl, record { key = record { family = is.key.family; client = is.key.client; name = is.key.name }; place = is.place })))) in
    record {
      same = same_rows q all rows a;
      rise = subst (IsStrictlySortedBy held_cmp) (sym a.shown) (rises_by total held_cmp (λ (o : Output). o.1) IsHold held_below a.ordered are (rises total (map (out q) all) a.ordered apart a.same a.sorted));
    }

-- ---- what answers the texts

module _ (db : Database) (s : Serves db) where
  -- the text means the same to the database
  meant : (text : List ℕ) (q : Query) → Means schema text q → Means db.schema text q
  meant text q h = subst (λ x. Means x text q) (sym s.schema_is) h

  pub stations_meant : Means db.schema stations_text stations_query
  stations_meant = meant stations_text stations_query stations_means

  pub messages_meant : Means db.schema messages_text messages_query
  messages_meant = meant messages_text messages_query messages_means

  pub held_meant : Means db.schema held_text held_query
  held_meant = meant held_text held_query held_means

  pub delays_meant : Means db.schema delays_text delays_query
  delays_meant = meant delays_text delays_query delays_means

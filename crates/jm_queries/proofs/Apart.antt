-- No two rows of a table have one key.
use Rattle.std.proofs.Common.{◌≡◌, ℕ, true, false, not, ◌&&◌, List, [], ◌∷◌, drop, None, refl, sym, ap₂, subst, ◌∙◌, Ordering, Less, Equal, Greater}
use Rattle.std.specs.Ordering.{is_eq, ordering_then}
use Rattle.std.proofs.lemmas.Bool.{and_parts, not-true, both_ways, false_from_ne_true}
use Rattle.sqlite_value.specs.Order.{Row, column, value_cmp}
use Rattle.sqlite_value.specs.Keys.{plain, first_key}
use Rattle.sqlite.specs.Effect.{Database}
use Rattle.sqlite_catalog.specs.Listing.{IsSound}
use Rattle.sqlite_schema.specs.declared.schema.Constraint.TheVariants.{Datatype, NotNull, Unique}
use Rattle.sqlite_schema.specs.Rules.{agree, are_typed, clashes, differ, has_computed}
use Rattle.sqlite_trees.specs.Tree.{rowid}
use Rattle.sqlite_trees.specs.View.{is_int}
use Rattle.sqlite_rules.specs.Lists.{Has}
use Rattle.sqlite_rules.proofs.ListLemmas.{all_has, some_from, test_has}
use Rattle.sqlite_rules.proofs.TableLemmas.{int_is}
use Rattle.jm_tables.specs.Schema.{station, held, station_tree, held_tree}
use Rattle.jm_tables.specs.Sound.{AreRows, Serves}
use Rattle.jm_queries.proofs.Values.{IsInt, IsKeyed, IsPlaced, equal_ints, equal_texts, differ_ints, keyed_is, placed_is}

-- rows that come one above the other have different rowids
differs : (rows : List Row) → AreRows rows → (a b : Row) → Has rows a → Has rows b → value_cmp (rowid a) (rowid b) ≡ Less → differ (rowid a) (rowid b) ≡ true
differs rows are a b h k = differ_ints (rowid a) (rowid b) (numbered a h) (numbered b k)
  where
    numbered : (r : Row) → Has rows r → IsInt (rowid r)
    numbered r there = int_is (rowid r) (test_has (λ x. is_int (rowid x)) rows r are.numbered there)

-- where no row clashes with b, none agrees with it
alone : (places : List ℕ) (rows : List Row) → AreRows rows → (a b : Row) → Has rows a → Has rows b → clashes plain places rows b ≡ false → value_cmp (rowid a) (rowid b) ≡ Less → agree plain places a places b ≡ false
alone places rows are a b h k none less = false_from_ne_true _ (λ same.
    both_ways (clashes plain places rows b) none (some_from (λ other. agree plain places other places b && differ (rowid other) (rowid b)) rows a h (ap₂ ◌&&◌ same (differs rows are a b h k less))))

then_is : (o p : Ordering) → (is_eq o && is_eq p) ≡ is_eq (ordering_then o p)
then_is Less p = refl
then_is Equal p = refl
then_is Greater p = refl

-- the order of rows by the columns of their key
abbrev pub columns_cmp : Row → Row → Ordering → Ordering
columns_cmp a b o = ordering_then (value_cmp (column a 1) (column b 1)) (ordering_then (value_cmp (column a 2) (column b 2)) (ordering_then (value_cmp (column a 3) (column b 3)) o))

tied : (a b : Row) → IsKeyed a → IsKeyed b → agree plain (1 ∷ 2 ∷ 3 ∷ []) a (1 ∷ 2 ∷ 3 ∷ []) b ≡ is_eq (columns_cmp a b Equal)
unfolding first_key
tied a b is also =
    ap₂ ◌&&◌ (equal_ints _ _ is.family also.family) (ap₂ ◌&&◌ (equal_texts _ _ is.client also.client) (ap₂ ◌&&◌ (equal_texts _ _ is.name also.name) refl ∙ then_is _ Equal) ∙ then_is _ _) ∙ then_is _ _

tied_at : (a b : Row) → IsPlaced a → IsPlaced b → agree plain (1 ∷ 2 ∷ 3 ∷ 4 ∷ []) a (1 ∷ 2 ∷ 3 ∷ 4 ∷ []) b ≡ is_eq (columns_cmp a b (ordering_then (value_cmp (column a 4) (column b 4)) Equal))
unfolding first_key
tied_at a b is also =
    ap₂ ◌&&◌ (equal_ints _ _ is.key.family also.key.family) (ap₂ ◌&&◌ (equal_texts _ _ is.key.client also.key.client) (ap₂ ◌&&◌ (equal_texts _ _ is.key.name also.key.name)
    (ap₂ ◌&&◌ (equal_ints _ _ is.place also.place) refl ∙ then_is _ Equal) ∙ then_is _ _) ∙ then_is _ _) ∙ then_is _ _

module _ (db : Database) (s : Serves db) where
  sound : IsSound Rattle.jm_tables.specs.Schema.schema db.trees
  sound = subst (λ x. IsSound x db.trees) s.schema_is s.sound

  -- a row of station has the columns of a key
  pub station_row : (r : Row) → Has (db.trees station_tree) r → IsKeyed r
  station_row r h =
      let typed = all_has _ (db.trees station_tree) r (sound.obeys.rules Datatype).1.0 h in
      let present = all_has _ (db.trees station_tree) r (sound.obeys.rules NotNull).1.0 h in
      keyed_is (drop 3 station.columns) r (and_parts (are_typed None 0 station.columns (drop 1 r)) (has_computed station r) typed).0 present

  -- and one of held those of a key and a place
  pub held_row : (r : Row) → Has (db.trees held_tree) r → IsPlaced r
  held_row r h =
      let typed = all_has _ (db.trees held_tree) r (sound.obeys.rules Datatype).1.1.1.0 h in
      let present = all_has _ (db.trees held_tree) r (sound.obeys.rules NotNull).1.1.1.0 h in
      placed_is (drop 4 held.columns) r (and_parts (are_typed None 0 held.columns (drop 1 r)) (has_computed held r) typed).0 present

  pub stations_apart : (a b : Row) → Has (db.trees station_tree) a → Has (db.trees station_tree) b → value_cmp (rowid a) (rowid b) ≡ Less → is_eq (columns_cmp a b Equal) ≡ false
  stations_apart a b h k less =
      let unique = all_has _ (db.trees station_tree) b (sound.obeys.rules Unique).1.0 k in
      let none : clashes plain (1 ∷ 2 ∷ 3 ∷ []) (db.trees station_tree) b ≡ false = not-true _ (and_parts (not (clashes plain (1 ∷ 2 ∷ 3 ∷ []) (db.trees station_tree) b)) _ unique).0 in
      sym (tied a b (station_row a h) (station_row b k)) ∙ alone (1 ∷ 2 ∷ 3 ∷ []) (db.trees station_tree) s.stations a b h k none less

  pub held_apart : (a b : Row) → Has (db.trees held_tree) a → Has (db.trees held_tree) b → value_cmp (rowid a) (rowid b) ≡ Less → is_eq (columns_cmp a b (ordering_then (value_cmp (column a 4) (column b 4)) Equal)) ≡ false
  held_apart a b h k less =
      let unique = all_has _ (db.trees held_tree) b (sound.obeys.rules Unique).1.1.1.0 k in
      let none : clashes plain (1 ∷ 2 ∷ 3 ∷ 4 ∷ []) (db.trees held_tree) b ≡ false = not-true _ (and_parts (not (clashes plain (1 ∷ 2 ∷ 3 ∷ 4 ∷ []) (db.trees held_tree) b)) _ unique).0 in
      sym (tied_at a b (held_row a h) (held_row b k)) ∙ alone (1 ∷ 2 ∷ 3 ∷ 4 ∷ []) (db.trees held_tree) s.held a b h k none less

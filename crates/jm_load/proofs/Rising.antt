-- As the rows of a table rise, so do the values that they stand for.
use Rattle.std.proofs.Common.{◌≡◌, ◌∙◌, ℕ, pos, List, [], ◌∷◌, map, refl, sym, ap₂, Ordering, Less, Equal, Greater, nat_cmp, arith}
use Rattle.std.proofs.lemmas.Bool.Decides.{nat_tests}
use Rattle.std.specs.Cmp.Lexicographic.{slice_cmp}
use Rattle.std.specs.List.{AllByRecursion}
use Rattle.std.specs.List.Sorted.{IsStrictlySortedBy}
use Rattle.std.specs.Ordering.{int_cmp, ordering_then}
use Rattle.sqlite_value.specs.Order.{Row, bytes, column, value_cmp}
use Rattle.sqlite_value.proofs.OrderLemmas.{value_cmp-Int}
use Rattle.sqlite_trees.specs.Tree.{IsTable, rowid}
use Rattle.sqlite_trees.proofs.ListLemmas.{all-map}
use Rattle.sqlite_schema.specs.Rules.{kind_of}
use Rattle.sqlite.specs.Kind.TheVariants.{Integer}
use Rattle.sqlite_rules.specs.Edit.{id_in}
use Rattle.jm_dest.specs.declared.key.Key.{Key}
use Rattle.jm_tables.specs.Keys.{key_of}
use Rattle.jm_decoding.specs.declared.station.StationRow.{StationRow}
use Rattle.jm_decoding.specs.declared.message.MessageRow.{MessageRow}
use Rattle.jm_decoding.specs.declared.held.HeldRow.{HeldRow}
use Rattle.jm_decoding.specs.declared.delay.DelayRow.{DelayRow}
use Rattle.jm_decoding.specs.Decoded.{IsStationOf, IsMessageOf, IsHeldOf, IsDelayOf}
use Rattle.jm_decoding.proofs.Values.{number_value}
use Rattle.jm_queries.specs.Shown as shown
use Rattle.jm_loading.specs.Fitting.{delay_cmp, held_cmp, message_cmp, station_cmp}
use Rattle.jm_loading.specs.Order.{client, family, key_cmp, name}
use Rattle.jm_load.proofs.Keys.{columns_of}
use Rattle.std.specs.Prelude.{Some}

-- ---- orders

then_again : (a b c : Ordering) → ordering_then (ordering_then a b) c ≡ ordering_then a (ordering_then b c)
then_again Less b c = refl
then_again Equal b c = refl
then_again Greater b c = refl

-- whole numbers that are not negative stand as numbers do
numbers_stand : (a b : ℕ) → int_cmp (pos a) (pos b) ≡ nat_cmp a b
numbers_stand a b = grind (arith, nat_tests)

-- rows stand as their keys do
keys_stand : (r s : Row) (a b : Key) → key_of r ≡ Some a → key_of s ≡ Some b → shown.key_cmp r s ≡ key_cmp a b
keys_stand r s a b is also =
    let x = columns_of (id_in (column r 1)) (bytes (column r 2)) (bytes (column r 3)) a is in
    let y = columns_of (id_in (column s 1)) (bytes (column s 2)) (bytes (column s 3)) b also in
    ap₂ ordering_then (ap₂ int_cmp x.family_is y.family_is ∙ numbers_stand (family a) (family b))
    (ap₂ ordering_then (ap₂ (slice_cmp nat_cmp) x.client_is y.client_is) (ap₂ (slice_cmp nat_cmp) x.name_is y.name_is))
    ∙ sym (then_again (nat_cmp (family a) (family b)) (slice_cmp nat_cmp (client a) (client b)) (slice_cmp nat_cmp (name a) (name b)))

pub station_rule : (r s : Row) (x y : StationRow) → IsStationOf r x → IsStationOf s y → shown.key_cmp r s ≡ Less → station_cmp x y ≡ Less
station_rule r s x y is also below = sym (keys_stand r s x.key y.key is.key_is also.key_is) ∙ below

pub held_rule : (r s : Row) (x y : HeldRow) → IsHeldOf r x → IsHeldOf s y → shown.held_cmp r s ≡ Less → held_cmp x y ≡ Less
held_rule r s x y is also below =
    sym (ap₂ ordering_then (keys_stand r s x.key y.key is.key_is also.key_is) (ap₂ int_cmp is.place_is also.place_is ∙ numbers_stand x.place y.place)) ∙ below

-- ---- rowids

abbrev pub rowid_cmp : Row → Row → Ordering
rowid_cmp a b = value_cmp (rowid a) (rowid b)

rowids_stand : (r s : Row) (a b : ℕ) → kind_of (rowid r) ≡ Integer → kind_of (rowid s) ≡ Integer → id_in (rowid r) ≡ pos a → id_in (rowid s) ≡ pos b → rowid_cmp r s ≡ nat_cmp a b
rowids_stand r s a b kind also is second =
    ap₂ value_cmp (number_value (rowid r) kind) (number_value (rowid s) also) ∙ value_cmp-Int (id_in (rowid r)) (id_in (rowid s)) ∙ ap₂ int_cmp is second ∙ numbers_stand a b

pub message_rule : (r s : Row) (x y : MessageRow) → IsMessageOf r x → IsMessageOf s y → rowid_cmp r s ≡ Less → message_cmp x y ≡ Less
message_rule r s x y is also below = sym (rowids_stand r s x.place y.place is.readable.kinds.place also.readable.kinds.place is.place_is also.place_is) ∙ below

pub delay_rule : (r s : Row) (x y : DelayRow) → IsDelayOf r x → IsDelayOf s y → rowid_cmp r s ≡ Less → delay_cmp x y ≡ Less
delay_rule r s x y is also below = sym (rowids_stand r s x.place y.place is.readable.place.kind also.readable.place.kind is.place_is also.place_is) ∙ below

-- the rows of a table rise as they are shown
pub shown_rise : (f : Row → Row) → ((r : Row) → rowid (f r) ≡ rowid r) → (all : List Row) → IsTable all → IsStrictlySortedBy rowid_cmp (map f all)
unfolding IsStrictlySortedBy
shown_rise f same [] rise = tt
shown_rise f same (r ∷ all) rise = (all-map (λ s. rowid_cmp (f r) s ≡ Less) f all (each all rise.0), shown_rise f same all rise.1)
  where
    each : (xs : List Row) → AllByRecursion (λ s. value_cmp (rowid r) (rowid s) ≡ Less) xs → AllByRecursion (λ s. rowid_cmp (f r) (f s) ≡ Less) xs
    each [] below = tt
    each (s ∷ xs) below = (ap₂ value_cmp (same r) (same s) ∙ below.0, each xs below.1)

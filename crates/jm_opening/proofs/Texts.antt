-- What the statements mean.
use Rattle.std.proofs.Common.{◌≡◌, List, [], ◌∷◌, codes, refl, None, false, pos, negsuc, ℕ}
use Rattle.sqlite_tied.specs.Compute.{everything}
use Rattle.sqlite.specs.Listing.{understood, reads_listing}
use Rattle.sqlite.specs.Command.TheVariants.{CreateTable, CreateIndex, Insert, Update, Select}
use Rattle.sqlite.specs.Source.TheVariants.{Values}
use Rattle.sqlite.specs.Query.{Query, inner, end}
use Rattle.sqlite.specs.declared.types.Value.TheVariants.{Null, Int}
use Rattle.sqlite.specs.Term.{Term, lit, col, op2}
use Rattle.sqlite.specs.Collation.TheVariants.{Binary}
use Rattle.sqlite_sql.specs.declared.ops.BinaryOp.TheVariants.{Compare}
use Rattle.sqlite_sql.specs.declared.ops.CompareOp.TheVariants.{Eq}
use Rattle.sqlite.proofs.Callers.{IsPlain, command_of, statement_of}
use Rattle.sqlite.specs.Schema.{Schema}
use Rattle.jm_tables.specs.Made.{meta_text, station_text, message_text, held_text, held_by_place_text, delayed_text}
use Rattle.jm_tables.specs.Schema.{meta, station, message, station_keys, no_schema, schema_1_bare, schema_1, schema}
use Rattle.jm_opening.specs.Meta.{insert_text, update_text, select_text}

-- what stands once each table is made
abbrev pub after_meta : Schema
after_meta = record { tables = meta ∷ []; indexes = []; views = [] }

abbrev pub after_station : Schema
after_station = record { tables = meta ∷ station ∷ []; indexes = station_keys ∷ []; views = [] }

abbrev pub after_message : Schema
after_message = record { tables = meta ∷ station ∷ message ∷ []; indexes = station_keys ∷ []; views = [] }

-- all rows of a tree that pass the filter
abbrev pub over : ℕ → List Term → List Term → Query
over tree filter project = record {
  from = inner tree end;
  filter = filter;
  group = None;
  project = project;
  distinct = false;
  collations = [];
  order = [];
  limit = lit (Int (negsuc 0));
  offset = lit (Int (pos 0));
}

abbrev pub update_filter : List Term
update_filter = op2 (Compare Eq Binary) (col 1 0) (lit (Int (pos 1))) ∷ []

abbrev pub update_shows : List Term
update_shows = col 1 0 ∷ col 1 0 ∷ lit Null ∷ lit (Int (pos 2)) ∷ col 0 0 ∷ []

abbrev pub select_shows : List Term
select_shows = col 1 0 ∷ col 1 2 ∷ col 1 3 ∷ []

pub makes_meta : command_of (understood no_schema meta_text) ≡ CreateTable
unfolding understood everything
makes_meta = refl

pub meta_plain : IsPlain (understood no_schema meta_text)
unfolding understood everything
meta_plain = (refl, refl)

pub meta_itself : statement_of meta_text (understood no_schema meta_text) ≡ meta_text
unfolding understood everything
meta_itself = refl

pub makes_station : command_of (understood after_meta station_text) ≡ CreateTable
unfolding understood everything
makes_station = refl

pub station_plain : IsPlain (understood after_meta station_text)
unfolding understood everything
station_plain = (refl, refl)

pub station_itself : statement_of station_text (understood after_meta station_text) ≡ station_text
unfolding understood everything
station_itself = refl

pub makes_message : command_of (understood after_station message_text) ≡ CreateTable
unfolding understood everything
makes_message = refl

pub message_plain : IsPlain (understood after_station message_text)
unfolding understood everything
message_plain = (refl, refl)

pub message_itself : statement_of message_text (understood after_station message_text) ≡ message_text
unfolding understood everything
message_itself = refl

pub makes_held : command_of (understood after_message held_text) ≡ CreateTable
unfolding understood everything
makes_held = refl

pub held_plain : IsPlain (understood after_message held_text)
unfolding understood everything
held_plain = (refl, refl)

pub held_itself : statement_of held_text (understood after_message held_text) ≡ held_text
unfolding understood everything
held_itself = refl

pub makes_held_by_place : command_of (understood schema_1_bare held_by_place_text) ≡ (CreateIndex 3)
unfolding understood everything
makes_held_by_place = refl

pub held_by_place_plain : IsPlain (understood schema_1_bare held_by_place_text)
unfolding understood everything
held_by_place_plain = (refl, refl)

pub held_by_place_itself : statement_of held_by_place_text (understood schema_1_bare held_by_place_text) ≡ held_by_place_text
unfolding understood everything
held_by_place_itself = refl

pub makes_delayed : command_of (understood schema_1 delayed_text) ≡ CreateTable
unfolding understood everything
makes_delayed = refl

pub delayed_plain : IsPlain (understood schema_1 delayed_text)
unfolding understood everything
delayed_plain = (refl, refl)

pub delayed_itself : statement_of delayed_text (understood schema_1 delayed_text) ≡ delayed_text
unfolding understood everything
delayed_itself = refl

pub insert_is : command_of (understood schema insert_text) ≡ Insert 0 (Values (lit (Int (pos 1)) ∷ lit Null ∷ lit (Int (pos 2)) ∷ lit (Int (pos 1)) ∷ []) 4)
unfolding understood everything
insert_is = refl

pub insert_plain : IsPlain (understood schema insert_text)
unfolding understood everything
insert_plain = (refl, refl)

pub update_is : command_of (understood schema update_text) ≡ Update 0 (record { lets = []; body = over 0 update_filter update_shows })
unfolding understood everything
update_is = refl

pub update_plain : IsPlain (understood schema update_text)
unfolding understood everything
update_plain = (refl, refl)

pub select_is : command_of (understood schema select_text) ≡ Select (record { lets = []; body = over 0 [] select_shows }) (codes "id" ∷ codes "version" ∷ codes "opening" ∷ [])
unfolding understood everything
select_is = refl

pub select_plain : IsPlain (understood schema select_text)
unfolding understood everything
select_plain = (refl, refl)

pub select_unlisted : reads_listing schema select_text ≡ false
unfolding understood everything
select_unlisted = refl

pub select_1_is : command_of (understood schema_1 select_text) ≡ Select (record { lets = []; body = over 0 [] select_shows }) (codes "id" ∷ codes "version" ∷ codes "opening" ∷ [])
unfolding understood everything
select_1_is = refl

pub select_1_plain : IsPlain (understood schema_1 select_text)
unfolding understood everything
select_1_plain = (refl, refl)

pub select_1_unlisted : reads_listing schema_1 select_text ≡ false
unfolding understood everything
select_1_unlisted = refl

pub select_bare_is : command_of (understood schema_1_bare select_text) ≡ Select (record { lets = []; body = over 0 [] select_shows }) (codes "id" ∷ codes "version" ∷ codes "opening" ∷ [])
unfolding understood everything
select_bare_is = refl

pub select_bare_plain : IsPlain (understood schema_1_bare select_text)
unfolding understood everything
select_bare_plain = (refl, refl)

pub select_bare_unlisted : reads_listing schema_1_bare select_text ≡ false
unfolding understood everything
select_bare_unlisted = refl

-- What the statements say.
use Rattle.std.proofs.Common.{◌≡◌, ℕ, List, [], ◌∷◌, codes, refl, Some, None, pos, negsuc, false}
use Rattle.sqlite.specs.Listing.{understood}
use Rattle.sqlite.specs.Query.{Query, inner, end}
use Rattle.sqlite.specs.Term.{Term, lit, col, op2}
use Rattle.sqlite.specs.Collation.TheVariants.{Binary}
use Rattle.sqlite.specs.Source.TheVariants.{Values}
use Rattle.sqlite.specs.declared.types.Value.TheVariants.{Null, Int, Text as Words}
use Rattle.sqlite.specs.Command.TheVariants.{Insert, InsertOr, Update, Delete}
use Rattle.sqlite_sql.specs.declared.ops.BinaryOp.TheVariants.{Compare}
use Rattle.sqlite_sql.specs.declared.ops.CompareOp.TheVariants.{Eq}
use Rattle.sqlite_schema.specs.declared.command.Conflict.TheVariants.{Abort}
use Rattle.sqlite_schema.specs.declared.command.Upsert.{Upsert}
use Rattle.sqlite_tied.specs.Compute.{everything}
use Rattle.sqlite.proofs.Callers.{IsPlain, command_of}
use Rattle.jm_tables.specs.Schema.{schema}

abbrev pub over : ℕ → List Term → List Term → Query
over tree filter project = record {
  from = inner tree end;
  filter = filter;
  group = None;
  project = project;
  distinct = false;
  collations = [];
  order = [];
  limit = lit (Int (negsuc 0));
  offset = lit (Int (pos 0));
}

abbrev pub is_eq_to : ℕ → ℕ → Term
is_eq_to place param = op2 (Compare Eq Binary) (col 1 place) (col 0 param)

abbrev pub by_key : List Term
by_key = is_eq_to 1 0 ∷ is_eq_to 2 1 ∷ is_eq_to 3 2 ∷ []

abbrev pub by_key_and_place : List Term
by_key_and_place = is_eq_to 1 0 ∷ is_eq_to 2 1 ∷ is_eq_to 3 2 ∷ is_eq_to 4 3 ∷ []

abbrev pub by_place : List Term
by_place = is_eq_to 0 0 ∷ []

-- the columns of a row of held, with other deliveries
abbrev pub counted_terms : List Term
counted_terms = col 1 0 ∷ col 1 1 ∷ col 1 2 ∷ col 1 3 ∷ col 1 4 ∷ col 0 4 ∷ []

abbrev pub placed_terms : List Term
placed_terms = col 0 0 ∷ lit Null ∷ col 0 1 ∷ []

abbrev pub held_terms : List Term
held_terms = lit Null ∷ col 0 0 ∷ col 0 1 ∷ col 0 2 ∷ col 0 3 ∷ lit (Int (pos 0)) ∷ []

abbrev pub subscription_terms : List Term
subscription_terms = lit Null ∷ lit (Int (pos 2)) ∷ col 0 0 ∷ col 0 1 ∷ col 0 2 ∷ col 0 3 ∷ col 0 4 ∷ col 0 5 ∷ []

abbrev pub queue_terms : List Term
queue_terms = lit Null ∷ lit (Int (pos 1)) ∷ lit (Words []) ∷ col 0 0 ∷ lit (Int (pos 0)) ∷ lit (Words []) ∷ lit (Words []) ∷ lit (Int (pos 0)) ∷ []

abbrev pub upsert : Upsert
upsert = record { target = Some (1 ∷ 2 ∷ 3 ∷ []); update = None }

abbrev pub drop_held_text : List ℕ
drop_held_text = codes "DELETE FROM held WHERE family = ?1 AND client = ?2 AND name = ?3 AND place = ?4"

pub drop_held_is : command_of (understood schema drop_held_text) ≡ Delete 3 (record { lets = []; body = over 4 by_key_and_place (col 1 0 ∷ []) })
unfolding understood everything
drop_held_is = refl

pub drop_held_plain : IsPlain (understood schema drop_held_text)
unfolding understood everything
drop_held_plain = (refl, refl)

abbrev pub drop_message_text : List ℕ
drop_message_text = codes "DELETE FROM message WHERE place = ?1"

pub drop_message_is : command_of (understood schema drop_message_text) ≡ Delete 2 (record { lets = []; body = over 3 by_place (col 1 0 ∷ []) })
unfolding understood everything
drop_message_is = refl

pub drop_message_plain : IsPlain (understood schema drop_message_text)
unfolding understood everything
drop_message_plain = (refl, refl)

abbrev pub drop_delay_text : List ℕ
drop_delay_text = codes "DELETE FROM delayed WHERE place = ?1"

pub drop_delay_is : command_of (understood schema drop_delay_text) ≡ Delete 4 (record { lets = []; body = over 7 by_place (col 1 0 ∷ []) })
unfolding understood everything
drop_delay_is = refl

pub drop_delay_plain : IsPlain (understood schema drop_delay_text)
unfolding understood everything
drop_delay_plain = (refl, refl)

abbrev pub drop_station_text : List ℕ
drop_station_text = codes "DELETE FROM station WHERE family = ?1 AND client = ?2 AND name = ?3"

pub drop_station_is : command_of (understood schema drop_station_text) ≡ Delete 1 (record { lets = []; body = over 1 by_key (col 1 0 ∷ []) })
unfolding understood everything
drop_station_is = refl

pub drop_station_plain : IsPlain (understood schema drop_station_text)
unfolding understood everything
drop_station_plain = (refl, refl)

abbrev pub set_count_text : List ℕ
set_count_text = codes "UPDATE held SET deliveries = ?5 WHERE family = ?1 AND client = ?2 AND name = ?3 AND place = ?4"

pub set_count_is : command_of (understood schema set_count_text) ≡ Update 3 (record { lets = []; body = over 4 by_key_and_place (col 1 0 ∷ counted_terms) })
unfolding understood everything
set_count_is = refl

pub set_count_plain : IsPlain (understood schema set_count_text)
unfolding understood everything
set_count_plain = (refl, refl)

abbrev pub put_message_text : List ℕ
put_message_text = codes "INSERT INTO message (place, record) VALUES (?1, ?2)"

pub put_message_is : command_of (understood schema put_message_text) ≡ Insert 2 (Values placed_terms 3)
unfolding understood everything
put_message_is = refl

pub put_message_plain : IsPlain (understood schema put_message_text)
unfolding understood everything
put_message_plain = (refl, refl)

abbrev pub put_delay_text : List ℕ
put_delay_text = codes "INSERT INTO delayed (place, due) VALUES (?1, ?2)"

pub put_delay_is : command_of (understood schema put_delay_text) ≡ Insert 4 (Values placed_terms 3)
unfolding understood everything
put_delay_is = refl

pub put_delay_plain : IsPlain (understood schema put_delay_text)
unfolding understood everything
put_delay_plain = (refl, refl)

abbrev pub put_held_text : List ℕ
put_held_text = codes "INSERT INTO held (family, client, name, place, deliveries) VALUES (?1, ?2, ?3, ?4, 0)"

pub put_held_is : command_of (understood schema put_held_text) ≡ Insert 3 (Values held_terms 6)
unfolding understood everything
put_held_is = refl

pub put_held_plain : IsPlain (understood schema put_held_text)
unfolding understood everything
put_held_plain = (refl, refl)

abbrev pub put_subscription_text : List ℕ
put_subscription_text = codes "INSERT INTO station (family, client, name, shared, topic, selector, no_local) VALUES (2, ?1, ?2, ?3, ?4, ?5, ?6)"

pub put_subscription_is : command_of (understood schema put_subscription_text) ≡ Insert 1 (Values subscription_terms 8)
unfolding understood everything
put_subscription_is = refl

pub put_subscription_plain : IsPlain (understood schema put_subscription_text)
unfolding understood everything
put_subscription_plain = (refl, refl)

abbrev pub put_queue_text : List ℕ
put_queue_text = codes "INSERT INTO station (family, client, name, shared, topic, selector, no_local) VALUES (1, '', ?1, 0, '', '', 0) ON CONFLICT (family, client, name) DO NOTHING"

pub put_queue_is : command_of (understood schema put_queue_text) ≡ InsertOr 1 Abort (Values queue_terms 8) (upsert ∷ [])
unfolding understood everything
put_queue_is = refl

pub put_queue_plain : IsPlain (understood schema put_queue_text)
unfolding understood everything
put_queue_plain = (refl, refl)

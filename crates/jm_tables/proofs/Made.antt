-- What the texts make.
use Rattle.std.proofs.Common.{◌≡◌, Ok, refl}
use Rattle.std.specs.Fmt.{digits}
use Rattle.sqlite.specs.Compile.{table_defined_by, index_defined_by}
use Rattle.sqlite.specs.Change.{created, indexed}
use Rattle.sqlite.specs.Listing.{understood}
use Rattle.sqlite_tied.specs.Compute.{everything}
use Rattle.jm_tables.specs.Made.{meta_text, station_text, message_text, held_text, held_by_place_text, delayed_text}
use Rattle.jm_tables.specs.Schema.{meta, station, message, held, held_by_place, delayed, no_schema, schema_1_bare, schema_1, schema}

pub meta_is : table_defined_by meta_text ≡ Ok (record meta { tree = 0 })
unfolding understood everything
meta_is = refl

pub station_is : table_defined_by station_text ≡ Ok (record station { tree = 0 })
unfolding understood everything
station_is = refl

pub message_is : table_defined_by message_text ≡ Ok (record message { tree = 0 })
unfolding understood everything
message_is = refl

pub held_is : table_defined_by held_text ≡ Ok (record held { tree = 0 })
unfolding understood everything
held_is = refl

pub delayed_is : table_defined_by delayed_text ≡ Ok (record delayed { tree = 0 })
unfolding understood everything
delayed_is = refl

pub held_by_place_is : index_defined_by held held_by_place_text ≡ Ok (record held_by_place { tree = 0 })
unfolding understood everything
held_by_place_is = refl

pub bare_is : created (created (created (created no_schema meta) station) message) held ≡ schema_1_bare
unfolding digits
bare_is = refl

pub version_1_is : indexed schema_1_bare held held_by_place ≡ schema_1
version_1_is = refl

pub version_2_is : created schema_1 delayed ≡ schema
unfolding digits
version_2_is = refl

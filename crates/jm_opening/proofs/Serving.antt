-- What is opened serves.
use Rattle.std.proofs.Common.{◌≡◌, ℕ, List, [], ◌∷◌, refl, sym, subst}
use Rattle.std.specs.List.{AllByRecursion}
use Rattle.sqlite_value.specs.Order.{Row}
use Rattle.sqlite.specs.Effect.{Database}
use Rattle.sqlite.specs.Schema.{Schema}
use Rattle.jm_tables.specs.Sound.{AreRows, Serves}
use Rattle.jm_opening.specs.declared.found.Found.{Found}
use Rattle.jm_opening.specs.declared.found.Found.TheVariants.{Blank, Bare, Indexed, Current}
use Rattle.jm_opening.specs.Meta.{meta_row}
use Rattle.jm_opening.specs.Opened.{AreTables, IsFound, IsOpened, schema_of}

no_rows : AreRows []
no_rows = record { rise = search; numbered = refl }

one_row : (version opening : ℕ) → AreRows (meta_row version opening ∷ [])
one_row version opening = record { rise = search; numbered = refl }

as_rows : {a b : List Row} → a ≡ b → AreRows b → AreRows a
as_rows same h = subst AreRows (sym same) h

tables_of : (found : Found) (old : Database) → AreTables old → IsFound found old → AllByRecursion (λ t. AreRows (old.trees t.tree)) (schema_of found).tables
tables_of found old h is = subst (λ (s : Schema). AllByRecursion (λ t. AreRows (old.trees t.tree)) s.tables) is.schema_is h

pub serves : (found : Found) (old new : Database) → AreTables old → IsFound found old → IsOpened found old new → Serves new
serves Blank old new h is it =
    record { schema_is = it.schema_is; sound = it.sound; meta = as_rows it.meta (one_row 2 1); stations = as_rows it.rows.0 no_rows; messages = as_rows it.rows.1.0 no_rows; held = as_rows it.rows.1.1.0 no_rows; delayed = as_rows it.rows.1.1.1.0 no_rows }
serves (Bare opening) old new h is it =
    let all = tables_of (Bare opening) old h is in
    record { schema_is = it.schema_is; sound = it.sound; meta = as_rows it.meta (one_row 2 opening); stations = as_rows it.rows.0 all.1.0; messages = as_rows it.rows.1.0 all.1.1.0; held = as_rows it.rows.1.1.0 all.1.1.1.0; delayed = as_rows it.rows.1.1.1.0 no_rows }
serves (Indexed opening) old new h is it =
    let all = tables_of (Indexed opening) old h is in
    record { schema_is = it.schema_is; sound = it.sound; meta = as_rows it.meta (one_row 2 opening); stations = as_rows it.rows.0 all.1.0; messages = as_rows it.rows.1.0 all.1.1.0; held = as_rows it.rows.1.1.0 all.1.1.1.0; delayed = as_rows it.rows.1.1.1.0 no_rows }
serves (Current opening) old new h is it =
    let all = tables_of (Current opening) old h is in
    record { schema_is = it.schema_is; sound = it.sound; meta = as_rows it.meta (one_row 2 opening); stations = as_rows it.rows.0 all.1.0; messages = as_rows it.rows.1.0 all.1.1.0; held = as_rows it.rows.1.1.0 all.1.1.1.0; delayed = as_rows it.rows.1.1.1.0 all.1.1.1.1.0 }

-- The statements on the table of the version and of the opening.
use Rattle.std.specs.Prelude.{ℕ, pos, List, [], ◌∷◌, codes}
use Rattle.sqlite_value.specs.declared.value.Value.TheVariants.{Null, Int}
use Rattle.sqlite_value.specs.Order.{Row, column}
use Rattle.sqlite_trees.specs.Tree.{rowid}

-- the row of a database that was never opened before
abbrev pub insert_text : List ℕ
insert_text = codes "INSERT INTO meta (id, version, opening) VALUES (1, 2, 1)"

-- that of one that was
abbrev pub update_text : List ℕ
update_text = codes "UPDATE meta SET version = 2, opening = ?1 WHERE id = 1"

abbrev pub select_text : List ℕ
select_text = codes "SELECT id, version, opening FROM meta"

-- the row of that version and opening: the number of the row is its rowid
abbrev pub meta_row : ℕ → ℕ → Row
meta_row version opening = Int (pos 1) ∷ Null ∷ Int (pos version) ∷ Int (pos opening) ∷ []

-- a row of meta as that statement shows it
abbrev pub meta_shown : Row → Row
meta_shown r = rowid r ∷ column r 2 ∷ column r 3 ∷ []

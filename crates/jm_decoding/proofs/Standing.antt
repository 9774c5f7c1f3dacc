-- Lists of rows that stand for values, row by row.
use Rattle.std.specs.Prelude.{List, [], ◌∷◌, ◌++◌}
use Rattle.std.specs.List.{AllByRecursion}
use Rattle.sqlite_value.specs.Order.{Row}
use Rattle.jm_decoding.specs.Tables.{StandFor}

-- one row more stands for one value more
pub stand_more : {X : Type 0} (StandsFor : Row → X → Type 0) (rows : List Row) (xs : List X) (r : Row) (x : X)
    → StandFor StandsFor rows xs → StandsFor r x → StandFor StandsFor (rows ++ r ∷ []) (xs ++ x ∷ [])
stand_more StandsFor [] [] r x h one = (one, tt)
stand_more StandsFor [] (y ∷ xs) r x h one = absurd h
stand_more StandsFor (s ∷ rows) [] r x h one = absurd h
stand_more StandsFor (s ∷ rows) (y ∷ xs) r x h one = (h.0, stand_more StandsFor rows xs r x h.1 one)

-- one row more may be read
pub all_more : (P : Row → Type 0) (rows : List Row) (r : Row) → AllByRecursion P rows → P r → AllByRecursion P (rows ++ r ∷ [])
all_more P [] r h one = (one, tt)
all_more P (s ∷ rows) r h one = (h.0, all_more P rows r h.1 one)

-- Why one row is refused, and so the rows.
use Rattle.std.proofs.Common.{◌≡◌, inl, inr, arith, ap, sym, length, get_or, List, [], ◌∷◌, Result, Ok, Err, IfErr}
use Rattle.sqlite_value.specs.Order.{Row}
use Rattle.jm_opening.specs.declared.judged.LastOpening.{LastOpening}
use Rattle.jm_opening.specs.declared.judged.OpenFault.{OpenFault}
use Rattle.jm_opening.specs.Judged.{IsFault, IsFaultOfOnly}

pub of_one : (r : Result LastOpening OpenFault) (rows : List Row) (row : Row) → IfErr r (IsFaultOfOnly row) → rows ≡ row ∷ [] → IfErr r (IsFault rows)
of_one (Ok last) rows row h one = tt
of_one (Err fault) rows row h one = inr (inl (row, one, h))

pub alone : (rows : List Row) (row : Row) → length rows ≡ 1 → row ≡ get_or rows 0 row → rows ≡ row ∷ []
alone [] row one is = absurd (omega (arith, one))
alone (r ∷ []) row one is = ap (λ x. x ∷ []) (sym is)
alone (r ∷ s ∷ rows) row one is = absurd (omega (arith, one))

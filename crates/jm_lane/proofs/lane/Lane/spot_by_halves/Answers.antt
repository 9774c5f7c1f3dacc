use Rattle.std.proofs.Common.{◌≡◌, ◌∙◌, ap, arith, sym, refl, cond, Some, None}
use Rattle.std.specs.List.{find, slice_get}
use Rattle.std.proofs.lemmas.Bool.{eq-eqb, ne_eqb}
use Rattle.jm_lane.specs.declared.row.Row.{Row}
use Rattle.jm_lane.specs.Chosen.{row_of}
use Rattle.jm_lane.specs.Lanes.{is_at}
use Rattle.jm_lane.proofs.Ranks.{found_at, kept_at}
use Rattle.jm_lane.proofs.Spots.{stands_at}
use Rattle.jm_lane.proofs.lane.Lane.spot_by_halves.Goals as goal

pub returns-in_err-row-clause-row : goal.returns-in_err-row-clause-row
returns-in_err-row-clause-row c =
    let rows = c.args.self.now.rows in
    let found : find (is_at c.args.place) rows ≡ kept_at c.args.place c.get.result = found_at c.args.place rows c.get.ensures.rising ∙ ap (λ n. kept_at c.args.place (slice_get rows n)) (sym c.below-index.ensures) ∙ ap (kept_at c.args.place) (sym c.get.ensures.row) in
    ap row_of c.from_residual.ensures ∙ sym (found ∙ ap (kept_at c.args.place) c.in_err-row.was)

pub returns-then-row-place-clause-row : goal.returns-then-row-place-clause-row
returns-then-row-place-clause-row c =
    let rows = c.args.self.now.rows in
    let row : Row = c.in_ok-row.row in
    let found : find (is_at c.args.place) rows ≡ kept_at c.args.place c.get.result = found_at c.args.place rows c.get.ensures.rising ∙ ap (λ n. kept_at c.args.place (slice_get rows n)) (sym c.below-index.ensures) ∙ ap (kept_at c.args.place) (sym c.get.ensures.row) in
    sym (found ∙ ap (kept_at c.args.place) c.in_ok-row.was ∙ ap (λ b. cond b (Some row) None) (ne_eqb row.place c.args.place c.if-row-place.true))

pub returns-clause-row : goal.returns-clause-row
returns-clause-row c =
    let rows = c.args.self.now.rows in
    let row : Row = c.in_ok-row.row in
    let found : find (is_at c.args.place) rows ≡ kept_at c.args.place c.get.result = found_at c.args.place rows c.get.ensures.rising ∙ ap (λ n. kept_at c.args.place (slice_get rows n)) (sym c.below-index.ensures) ∙ ap (kept_at c.args.place) (sym c.get.ensures.row) in
    sym (found ∙ ap (kept_at c.args.place) c.in_ok-row.was ∙ ap (λ b. cond b (Some row) None) (eq-eqb row.place c.args.place c.if-row-place.false))

pub returns-clause-spot : goal.returns-clause-spot
returns-clause-spot c =
    let row : Row = c.in_ok-row.row in (
      refl,
      c.if-row-place.false,
      stands_at c.args.self.now.rows c.args.lane c.args.low c.min.result c.below-index.result row (sym c.get.ensures.row ∙ c.in_ok-row.was) (omega (arith, c.min.ensures)) (omega (arith, c.min.ensures)) c.requires,
    )

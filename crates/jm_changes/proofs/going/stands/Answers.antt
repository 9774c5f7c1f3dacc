use Rattle.std.proofs.Common.{sym, ◌∙◌, arith}
use Rattle.jm_machine.specs.Under.{placed_under}
use Rattle.jm_changes.specs.Standing.{key_in, meant}
use Rattle.jm_changes.proofs.First.{none_from, none_found, stands_off, stands_there}
use Rattle.jm_keep_law.proofs.Published.{under_in_order}
use Rattle.jm_changes.proofs.going.stands.Goals as goal

pub returns-then-row-place : goal.returns-then-row-place
returns-then-row-place g c =
    stands_there (meant c.args.which.now) (g.P.Planned.state c.args.planned.now).next_place c.args.place (placed_under (g.P.Planned.state c.args.planned.now) (key_in (g.P.Planned.keys c.args.planned.now) c.args.index)) c.in-Some.row
    (under_in_order (g.P.Planned.state c.args.planned.now) c.requires.order (key_in (g.P.Planned.keys c.args.planned.now) c.args.index)) (sym c.row_where.ensures.row ∙ c.in-Some.is) c.if-row-place.true

pub returns-else-row-place : goal.returns-else-row-place
returns-else-row-place g c =
    stands_off (meant c.args.which.now) (g.P.Planned.state c.args.planned.now).next_place c.args.place (placed_under (g.P.Planned.state c.args.planned.now) (key_in (g.P.Planned.keys c.args.planned.now) c.args.index)) c.in-Some.row
    (under_in_order (g.P.Planned.state c.args.planned.now) c.requires.order (key_in (g.P.Planned.keys c.args.planned.now) c.args.index)) (sym c.row_where.ensures.row ∙ c.in-Some.is) c.if-row-place.false

pub returns-in-None : goal.returns-in-None
returns-in-None g c =
    sym (none_from (meant c.args.which.now) c.args.place c.args.place (omega arith) (placed_under (g.P.Planned.state c.args.planned.now) (key_in (g.P.Planned.keys c.args.planned.now) c.args.index)) (none_found _ (sym c.row_where.ensures.row ∙ c.in-None.is)))

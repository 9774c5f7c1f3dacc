use Rattle.std.proofs.Common.{◌≡◌, true, Some, sym, subst, ◌∙◌}
use Rattle.jm_machine.specs.Machine.{are_meant}
use Rattle.jm_keep.specs.Calls.{AreDone}
use Rattle.jm_keep.specs.Persisted.{is_lasting}
use Rattle.jm_changes.specs.Standing.{IsIndexOf, key_in}
use Rattle.jm_changes.proofs.Listed.{done_nothing, done_there, ok_map}
use Rattle.jm_changes.proofs.settling.done.Goals as goal

pub returns-in_default : goal.returns-in_default
returns-in_default g c =
    done_nothing (are_meant c.args.which.now) c.args.key.now (g.P.Planned.state c.args.planned.now) c.new-in_default.result.items
    (sym c.is_lasting.ensures ∙ c.if-not-is_lasting.false)
    (subst (λ o. IsIndexOf (g.P.Planned.keys c.args.planned.now) (g.P.Planned.state c.args.planned.now) c.args.key.now o) c.in_default.is c.index_of.ensures)
    c.new-in_default.ensures.items

pub returns : goal.returns
returns g c =
    let keys = g.P.Planned.keys c.args.planned.now in
    let state = g.P.Planned.state c.args.planned.now in
    let key = c.args.key.now in
    let through = are_meant c.args.which.now in
    let found = subst (λ o. IsIndexOf keys state key o) c.in-Some.is c.index_of.ensures in
    let lasting = subst (λ k. is_lasting k ≡ true) (sym found.1) (sym c.is_lasting.ensures ∙ c.if-not-is_lasting.false) in
    ok_map c.into_changes.result _ _
    (λ changes e. subst (λ k. AreDone through (Some k) state changes.items) found.1 (done_there through (key_in keys c.in-Some.index) state _ _ _ changes.items lasting c.in_ok-lost_where.ensures.rows c.in_ok-lost_where.ensures.met e)) c.into_changes.ensures

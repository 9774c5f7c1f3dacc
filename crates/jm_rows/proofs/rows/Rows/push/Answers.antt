use Rattle.std.proofs.Common.{◌∙◌, ap, sym, subst, [], ◌∷◌, ◌++◌, List}
use Rattle.jm_header.specs.declared.content.Content.{Content}
use Rattle.jm_machine.specs.declared.state.Row.{Row}
use Rattle.jm_machine.specs.Rows.{fresh}
use Rattle.jm_rows.specs.Rows.{IsOneAtMost}
use Rattle.jm_rows.proofs.Single.{row_comes}
use Rattle.jm_rows.proofs.rows.Rows.push.Goals as goal

pub invariant_of-self-2 : goal.invariant_of-self-2
invariant_of-self-2 c =
    subst (λ n. IsOneAtMost n c.load.new.self.list) (sym c.load.ensures.next_place)
    (row_comes c.reserve.new.stations.next_place (fresh c.in_ok-copy.field-0) c.reserve.new.stations.list c.load.new.self.list c.reserve.ensures.one c.in_ok-reserve.ensures.room.first c.load.ensures.list).0

pub returns-clause-ok : goal.returns-clause-ok
returns-clause-ok c =
    (row_comes c.reserve.new.stations.next_place (fresh c.in_ok-copy.field-0) c.reserve.new.stations.list c.load.new.self.list c.reserve.ensures.one c.in_ok-reserve.ensures.room.first c.load.ensures.list).1
    ∙ ap (λ (x : List Row). x ++ fresh c.in_ok-copy.field-0 ∷ []) (c.reserve.ensures.rows ∙ c.self.view_is)
    ∙ ap (λ (m : Content). c.args.self.now ++ fresh m ∷ []) c.in_ok-copy.ensures

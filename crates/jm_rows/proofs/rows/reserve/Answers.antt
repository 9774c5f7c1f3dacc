use Rattle.std.proofs.Common.{◌∙◌, sym, subst}
use Rattle.jm_rows.specs.Rows.{IsOneAtMost}
use Rattle.jm_rows.proofs.Single.{roomy}
use Rattle.jm_rows.proofs.rows.reserve.Goals as goal

pub returns-clause-one : goal.returns-clause-one
returns-clause-one c =
    subst (λ n. IsOneAtMost n c.reserve.new.self.list) (sym c.reserve.ensures.next_place)
    (roomy c.begin.new.stations.next_place c.begin.new.stations.list c.reserve.new.self.list c.reserve.ensures.list c.begin.ensures.one).0

pub returns-clause-rows : goal.returns-clause-rows
returns-clause-rows c =
    (roomy c.begin.new.stations.next_place c.begin.new.stations.list c.reserve.new.self.list c.reserve.ensures.list c.begin.ensures.one).1.1
    ∙ c.begin.ensures.rows

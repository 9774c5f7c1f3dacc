use Rattle.jm_machine.specs.Machine.{are_meant}
use Rattle.jm_stations.specs.Backlogs as spec
use Rattle.jm_stations.specs.Kept.{given_back}
use Rattle.jm_stations.proofs.Each.{returned_backlog, returned_shown, returned_counted, keeps_all, each_kept, each_seen}
use Rattle.std.proofs.Common.{◌∙◌, ap, length, sym}
use Rattle.std.proofs.lemmas.List.{length-map}
use Rattle.jm_stations.proofs.stations.Stations.give_back.Goals as goal

pub invariant_of-self : goal.invariant_of-self
invariant_of-self c =
    let t = c.self.inside.table in
    let lists = c.self.inside.lists.items in
    let p = are_meant c.args.which.now in (
      rw c.give_back.ensures.lists (each_kept t t c.self.inside.next_place (given_back p) (returned_backlog t c.self.inside.next_place p) lists c.self.invariant.0 (returned_counted t p lists c.self.invariant.0.counted) (keeps_all t)),
      c.give_back.ensures.number ∙ c.self.invariant.1 ∙ sym (ap length c.give_back.ensures.lists ∙ length-map lists (given_back p)),
      c.give_back.ensures.others,
      c.self.invariant.3 ∙ sym (ap length c.give_back.ensures.lists ∙ length-map lists (given_back p)),
      c.self.invariant.4,
      c.self.invariant.5,
    )

pub returns-clause-list : goal.returns-clause-list
returns-clause-list c =
    let t = c.self.inside.table in
    let lists = c.self.inside.lists.items in
    let p = are_meant c.args.which.now in
    rw (c.give_back.ensures.lists, ← c.self.view_is) (each_seen t t (given_back p) (spec.returned p) (returned_shown t p) lists (returned_counted t p lists c.self.invariant.0.counted) (keeps_all t))

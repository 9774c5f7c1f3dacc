use Rattle.std.proofs.Common.{◌∙◌, subst, Option}
use Rattle.jm_stations.specs.declared.picked.Picked.{Picked}
use Rattle.jm_stations.specs.Backlogs.{IsPicked}
use Rattle.jm_stations.specs.Kept.{all_shown}
use Rattle.jm_stations.proofs.Readers.{covers_at, none_seen, picked_seen}
use Rattle.jm_stations.proofs.stations.Stations.row_picked.Goals as goal

pub row_of-requires : goal.row_of-requires
row_of-requires c = covers_at c.self.inside.table c.self.inside.lists.items c.self.inside.next_place c.args.index c.at-held.result.now (rw (← c.self.view_is) at c.requires.within) c.at-held.ensures c.self.invariant.0

pub returns-in-None : goal.returns-in-None
returns-in-None c = λ p settles now d picked.
    none_seen p settles now c.args.index c.args.self.now.list d (rw c.in-None.is at picked)

pub returns-in-Some : goal.returns-in-Some
returns-in-Some c = λ p settles now d picked.
    let t = c.self.inside.table in
    let lists = c.self.inside.lists.items in
    let one = rw c.in-Some.is at (rw (← c.self.view_is) at picked) in
    rw (← c.self.view_is) (c.row_of.ensures ∙ picked_seen p settles t c.self.inside.next_place now c.args.index lists c.at-held.result.now c.in-Some.picked d (rw (← c.self.view_is) at c.requires.within) c.at-held.ensures c.self.invariant.0 c.len-number.ensures.rising one)

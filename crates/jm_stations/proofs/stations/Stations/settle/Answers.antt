use Rattle.std.proofs.Common.{map, ◌∙◌, ap, length, sym}
use Rattle.jm_machine.specs.Machine.{are_meant}
use Rattle.jm_pending.specs.Counts.{IsCounted}
use Rattle.jm_stations.specs.Backlogs as spec
use Rattle.jm_stations.specs.Kept.{all_rows, settled_out}
use Rattle.jm_stations.proofs.Each.{settled_backlog, settled_shown, each_kept, each_seen}
use Rattle.std.proofs.lemmas.List.{length-map}
use Rattle.jm_stations.proofs.stations.Stations.settle.Goals as goal

pub settle-requires-clause-counted : goal.settle-requires-clause-counted
settle-requires-clause-counted c = c.self.invariant.0.counted

pub invariant_of-self : goal.invariant_of-self
invariant_of-self c =
    let t = c.self.inside.table in
    let lists = c.self.inside.lists.items in
    let p = are_meant c.args.which.now in
    let counted : IsCounted c.settle.new.table (all_rows (map (settled_out p) lists)) = rw c.settle.ensures.lists at c.settle.ensures.counted in (
      rw c.settle.ensures.lists (each_kept t c.settle.new.table c.self.inside.next_place (settled_out p) (settled_backlog t c.self.inside.next_place p) lists c.self.invariant.0 counted c.settle.ensures.messages),
      c.settle.ensures.number ∙ c.self.invariant.1 ∙ sym (ap length c.settle.ensures.lists ∙ length-map lists (settled_out p)),
      c.settle.ensures.others,
      c.self.invariant.3 ∙ sym (ap length c.settle.ensures.lists ∙ length-map lists (settled_out p)),
      c.self.invariant.4,
      c.self.invariant.5,
    )

pub returns-clause-list : goal.returns-clause-list
returns-clause-list c =
    let t = c.self.inside.table in
    let lists = c.self.inside.lists.items in
    let p = are_meant c.args.which.now in
    let counted : IsCounted c.settle.new.table (all_rows (map (settled_out p) lists)) = rw c.settle.ensures.lists at c.settle.ensures.counted in
    rw (c.settle.ensures.lists, ← c.self.view_is) (each_seen t c.settle.new.table (settled_out p) (spec.settled p) (settled_shown t p) lists counted c.settle.ensures.messages)

pub returns-clause-room : goal.returns-clause-room
returns-clause-room c = rw (← c.self.view_is) c.settle.ensures.messages.room

use Rattle.std.proofs.Common.{refl, ap, length, sym, ◌∙◌}
use Rattle.std.specs.List.{filter}
use Rattle.jm_lane.specs.Rows.{keeps}
use Rattle.jm_lanes.proofs.Within.{span_rows, spread}
use Rattle.jm_lanes.proofs.used.UsedLanes.settle.Goals as goal

pub settle-requires-clause-covered : goal.settle-requires-clause-covered
settle-requires-clause-covered c =
    rw (span_rows c.self.inside.span c.first.result c.end.result c.self.inside.lanes.items c.deref_mut.result.now c.deref_mut.ensures.value c.first.ensures c.end.ensures c.self.invariant, c.self.view_is) c.requires.covered

pub settle-requires-clause-few : goal.settle-requires-clause-few
settle-requires-clause-few c =
    rw (span_rows c.self.inside.span c.first.result c.end.result c.self.inside.lanes.items c.deref_mut.result.now c.deref_mut.ensures.value c.first.ensures c.end.ensures c.self.invariant, c.self.view_is) c.requires.few

pub invariant_of-self : goal.invariant_of-self
invariant_of-self c =
    (spread (filter (keeps c.args.outs.now)) refl c.self.inside.span c.self.inside.lanes.len c.first.result c.end.result c.self.inside.lanes.items c.deref_mut.result.now c.settle.new.lanes c.deref_mut.ensures.value c.deref_mut.ensures.len c.first.ensures c.end.ensures c.self.invariant c.settle.ensures.rows).within

pub returns-clause-left : goal.returns-clause-left
returns-clause-left c =
    let out = spread (filter (keeps c.args.outs.now)) refl c.self.inside.span c.self.inside.lanes.len c.first.result c.end.result c.self.inside.lanes.items c.deref_mut.result.now c.settle.new.lanes c.deref_mut.ensures.value c.deref_mut.ensures.len c.first.ensures c.end.ensures c.self.invariant c.settle.ensures.rows in
    c.settle.ensures.left ∙ sym (ap length out.rows)

pub returns-clause-rows : goal.returns-clause-rows
returns-clause-rows c =
    rw (← c.self.view_is) (spread (filter (keeps c.args.outs.now)) refl c.self.inside.span c.self.inside.lanes.len c.first.result c.end.result c.self.inside.lanes.items c.deref_mut.result.now c.settle.new.lanes c.deref_mut.ensures.value c.deref_mut.ensures.len c.first.ensures c.end.ensures c.self.invariant c.settle.ensures.rows).each

pub returns-clause-table : goal.returns-clause-table
returns-clause-table c =
    let out = spread (filter (keeps c.args.outs.now)) refl c.self.inside.span c.self.inside.lanes.len c.first.result c.end.result c.self.inside.lanes.items c.deref_mut.result.now c.settle.new.lanes c.deref_mut.ensures.value c.deref_mut.ensures.len c.first.ensures c.end.ensures c.self.invariant c.settle.ensures.rows in
    rw (out.rows, ← c.self.view_is, ← span_rows c.self.inside.span c.first.result c.end.result c.self.inside.lanes.items c.deref_mut.result.now c.deref_mut.ensures.value c.first.ensures c.end.ensures c.self.invariant) c.settle.ensures.table

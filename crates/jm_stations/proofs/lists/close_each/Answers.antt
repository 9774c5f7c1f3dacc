use Rattle.std.proofs.Common.{length, ap, arith, not}
use Rattle.jm_machine.specs.Attached.{ended}
use Rattle.jm_stations.proofs.Closing.{left_cleared, left_counted, left_fewer, length-cleared}
use Rattle.jm_stations.proofs.lists.close_each.Goals as goal

pub returns-clause-lists : goal.returns-clause-lists
returns-clause-lists c =
    left_cleared (ended c.args.which.now c.args.attached.now) c.args.keys.now.keys c.args.lists.now.items c.clear_each.new.lists.items c.keep_each.new.lists.items c.clear_each.ensures.lists c.keep_each.ensures.lists

pub returns-clause-counted : goal.returns-clause-counted
returns-clause-counted c =
    left_counted c.clear_each.new.table (ended c.args.which.now c.args.attached.now) c.args.keys.now.keys c.args.lists.now.items c.clear_each.new.lists.items c.keep_each.new.lists.items c.requires.number c.clear_each.ensures.lists c.keep_each.ensures.lists c.clear_each.ensures.counted

pub returns-clause-fewer : goal.returns-clause-fewer
returns-clause-fewer c =
    let p = ended c.args.which.now c.args.attached.now in
    let keys = c.args.keys.now.keys in
    let lists = c.args.lists.now.items in
    let left = left_cleared p keys lists c.clear_each.new.lists.items c.keep_each.new.lists.items c.clear_each.ensures.lists c.keep_each.ensures.lists in
    omega (arith, ap length left, left_fewer (λ k. not (p k)) keys lists)

pub keep_each-requires : goal.keep_each-requires
keep_each-requires c =
    omega (arith, c.requires.number, ap length c.clear_each.ensures.lists, length-cleared (ended c.args.which.now c.args.attached.now) c.args.keys.now.keys c.args.lists.now.items)

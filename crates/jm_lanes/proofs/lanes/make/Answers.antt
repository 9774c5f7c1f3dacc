use Rattle.std.proofs.Common.{◌≡◌, length, rules}
use Rattle.jm_lanes.proofs.Within.{within_made}
use Rattle.jm_lanes.proofs.lanes.make.Goals as goal

pub returns-clause-within : goal.returns-clause-within
returns-clause-within c =
    let none : length c.args.lanes.now.items ≡ 0 = search rules in
    λ span room h. within_made c.args.lanes.now.items c.in_ok-lanes.field-0.items span room none c.in_ok-lanes.ensures h

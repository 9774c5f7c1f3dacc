use Rattle.std.proofs.Common.{◌≡◌, false, bytes_eq, codes, refl, rules}
use Rattle.serde_json.specs.View.{view}
use Rattle.jm_scenario.proofs.Described.{described_calls, described_held, described_unknown}
use Rattle.jm_scenario.proofs.outer.Outer.read_member.Goals as goal

pub returns-in_ok-self-in-calls-clause-value : goal.returns-in_ok-self-in-calls-clause-value
returns-in_ok-self-in-calls-clause-value c =
    let named : c.args.name.now ≡ codes "calls" = search rules in
    let read = c.in_ok-self-in-calls.ensures.value in
    (read.0, read.1, λ found so_far. rw named (described_calls found c.args.self.now _ read.0 refl refl read.2 so_far))

pub returns-in_ok-next_value-in-held-clause-value : goal.returns-in_ok-next_value-in-held-clause-value
returns-in_ok-next_value-in-held-clause-value c =
    let named : c.args.name.now ≡ codes "held" = search rules in
    let read = c.in_ok-next_value-in-held.ensures.value in
    let one = c.in_ok-next_value-in-held.field-0 in
    (view one, read, λ found so_far. rw named (described_held found c.args.self.now _ one refl refl refl so_far))

pub returns-in_ok-keep_unknown-in_default-clause-value : goal.returns-in_ok-keep_unknown-in_default-clause-value
returns-in_ok-keep_unknown-in_default-clause-value c =
    let not_calls : bytes_eq c.args.name.now (codes "calls") ≡ false = search rules in
    let not_held : bytes_eq c.args.name.now (codes "held") ≡ false = search rules in
    let read = c.in_ok-next_value-in_default.ensures.value in
    let one = view c.in_ok-next_value-in_default.field-0 in
    (one, read, λ found so_far. described_unknown found c.args.self.now c.keep_unknown.new.self c.args.name.now one not_calls not_held c.in_ok-keep_unknown-in_default.ensures so_far)

use Rattle.std.proofs.Common.{◌≡◌, Some, None, arith, rules}
use Rattle.json.specs.Json.{read_key, value}
use Rattle.serde_json.specs.Data.{no_members, put}
use Rattle.serde_json.specs.View.{view}
use Rattle.jm_scenario.proofs.Loops.{members_begin, members_done, members_next, members_refused, members_unnamed}
use Rattle.jm_scenario.proofs.outer.pass_members.Goals as goal

pub members-init : goal.members-init
members-init c = (no_members, members_begin (value 125) c.args.reader.now)

pub returns-in_err-next_key-clause-value : goal.returns-in_err-next_key-clause-value
returns-in_err-next_key-clause-value c =
    let l = c.members in
    let none = members_unnamed (value 125) c.args.reader.now l.reader l.invariant.0 l.invariant.1 c.in_err-next_key.ensures.value in
    search (rules, none)

pub returns-in_err-next_value-clause-value : goal.returns-in_err-next_value-clause-value
returns-in_err-next_value-clause-value c =
    let l = c.members in
    let name = c.in-Some.field-0.now in
    let key : read_key l.reader ≡ Some (Some name, c.next_key.new.self) = grind arith in
    let none = members_refused (value 125) c.args.reader.now l.reader c.next_key.new.self l.invariant.0 name l.invariant.1 key in
    search (rules, none)

pub members-preserved : goal.members-preserved
members-preserved c =
    let l = c.members in
    let name = c.in-Some.field-0.now in
    let key : read_key l.reader ≡ Some (Some name, c.next_key.new.self) = grind arith in
    let read = c.in_ok-next_value.ensures in
    let one = view c.in_ok-next_value.field-0 in (
      put name one l.invariant.0,
      members_next (value 125) c.args.reader.now l.reader c.next_key.new.self c.next_value.new.reader l.invariant.0 name one l.invariant.1 key read.value read.shorter,
    )

pub returns-clause-value : goal.returns-clause-value
returns-clause-value c =
    let l = c.members in
    let key : read_key l.reader ≡ Some (None, c.next_key.new.self) = grind arith in
    (l.invariant.0, members_done (value 125) c.args.reader.now l.reader c.next_key.new.self l.invariant.0 l.invariant.1 key)

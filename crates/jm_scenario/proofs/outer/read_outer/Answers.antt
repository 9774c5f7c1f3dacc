use Rattle.std.proofs.Common.{◌≡◌, Some, None, refl, arith, rules}
use Rattle.json.specs.Json.{read_key, value}
use Rattle.serde_json.specs.Data.{no_members, put}
use Rattle.jm_scenario.proofs.Loops.{members_begin, members_done, members_next, members_refused, members_unnamed}
use Rattle.jm_scenario.proofs.outer.read_outer.Goals as goal

pub members-init : goal.members-init
members-init c = (no_members, members_begin (value 126) c.args.reader.now, record { held = refl; known = refl; calls = refl })

pub returns-in_err-name : goal.returns-in_err-name
returns-in_err-name c =
    let l = c.members in
    let none = members_unnamed (value 126) c.args.reader.now l.reader l.invariant.0 l.invariant.1 c.in_err-name.ensures.value in
    search (rules, none)

pub members-preserved : goal.members-preserved
members-preserved c =
    let l = c.members in
    let name = c.in-Some.name.now in
    let key : read_key l.reader ≡ Some (Some name, c.next_key.new.self) = grind arith in
    let read = c.in_ok-read_member.ensures in (
      put name read.value.0 l.invariant.0,
      members_next (value 126) c.args.reader.now l.reader c.next_key.new.self c.read_member.new.reader l.invariant.0 name read.value.0 l.invariant.1 key read.value.1 read.shorter,
      read.value.2 l.invariant.0 l.invariant.2,
    )

pub returns-in_err-read_member : goal.returns-in_err-read_member
returns-in_err-read_member c =
    let l = c.members in
    let name = c.in-Some.name.now in
    let key : read_key l.reader ≡ Some (Some name, c.next_key.new.self) = grind arith in
    let none = members_refused (value 126) c.args.reader.now l.reader c.next_key.new.self l.invariant.0 name l.invariant.1 key in
    search (rules, none)

pub returns : goal.returns
returns c =
    let l = c.members in
    let key : read_key l.reader ≡ Some (None, c.next_key.new.self) = grind arith in
    (l.invariant.0, members_done (value 126) c.args.reader.now l.reader c.next_key.new.self l.invariant.0 l.invariant.1 key, l.invariant.2)

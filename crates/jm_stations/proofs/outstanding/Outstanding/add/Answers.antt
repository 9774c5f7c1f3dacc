use Rattle.std.proofs.Common.{◌≡◌, ◌≢◌, ◌==◌, ◌||◌, ◌-◌, ◌<◌, ◌≤◌, ◌∙◌, ℕ, length, get_or, List, ap, cond, arith}
use Rattle.std.specs.List.{insert}
use Rattle.std.specs.Vec.{vec_capacity, vec_len}
use Rattle.jm_indexed.proofs.Lists.{ok_is}
use Rattle.jm_stations.specs.Backlogs.{is_named}
use Rattle.jm_stations.specs.Outstanding.{Outstanding, AreRising}
use Rattle.jm_stations.proofs.Rising.{rising_between, rising_room, named_insert}
use Rattle.jm_stations.proofs.outstanding.Outstanding.add.Goals as goal

pub insert-requires : goal.insert-requires
insert-requires c =
    let within : c.count_before-at.result ≤ length c.self.inside.indexes.items = rw (← c.self.view_is) at c.count_before-at.ensures.within in
    omega (arith, within, c.self.inside.indexes.ok.0)

pub invariant_of-self : goal.invariant_of-self
invariant_of-self c =
    let at = c.count_before-at.result in
    let is = c.self.inside.indexes.items in
    let number = c.self.inside.number in
    let index = c.args.index in
    let below : index < number = rw (← c.self.view_is) at c.requires in
    let within : at ≤ length is = rw (← c.self.view_is) at c.count_before-at.ensures.within in
    let before : (k : ℕ) → k < at → get_or is k 0 < index = rw (← c.self.view_is) at c.count_before-at.ensures.before in
    let behind : (k : ℕ) → at ≤ k → k < length is → index ≤ get_or is k 0 = rw (← c.self.view_is) at c.count_before-at.ensures.behind in
    let apart : at < length is → get_or is at 0 ≢ index = rw (← c.self.view_is) at (c.is_at.ensures.elsewhere c.if-is_at.false) in
    let rises : AreRising 0 number (insert is at index) = rising_between number at index is c.self.invariant.0 below within before behind apart in
    let room : vec_len c.self.inside.indexes < vec_capacity c.self.inside.indexes = omega (arith, rising_room number at index is within rises, c.self.invariant.1, c.self.inside.indexes.ok.0) in
    let placed : c.insert.new.self.items ≡ insert is at index = c.insert.ensures.items ∙ ap (λ b. cond b (insert is at index) is) (ok_is c.insert.result (c.insert.ensures.succeeds room)) in
    (rw placed rises, omega (arith, c.insert.ensures.capacity, c.self.invariant.1))

pub returns-clause-named : goal.returns-clause-named
returns-clause-named c = λ k.
    let at = c.count_before-at.result in
    let is = c.self.inside.indexes.items in
    let number = c.self.inside.number in
    let index = c.args.index in
    let below : index < number = rw (← c.self.view_is) at c.requires in
    let within : at ≤ length is = rw (← c.self.view_is) at c.count_before-at.ensures.within in
    let before : (k : ℕ) → k < at → get_or is k 0 < index = rw (← c.self.view_is) at c.count_before-at.ensures.before in
    let behind : (k : ℕ) → at ≤ k → k < length is → index ≤ get_or is k 0 = rw (← c.self.view_is) at c.count_before-at.ensures.behind in
    let apart : at < length is → get_or is at 0 ≢ index = rw (← c.self.view_is) at (c.is_at.ensures.elsewhere c.if-is_at.false) in
    let rises : AreRising 0 number (insert is at index) = rising_between number at index is c.self.invariant.0 below within before behind apart in
    let room : vec_len c.self.inside.indexes < vec_capacity c.self.inside.indexes = omega (arith, rising_room number at index is within rises, c.self.invariant.1, c.self.inside.indexes.ok.0) in
    let placed : c.insert.new.self.items ≡ insert is at index = c.insert.ensures.items ∙ ap (λ b. cond b (insert is at index) is) (ok_is c.insert.result (c.insert.ensures.succeeds room)) in
    ap (λ (js : List ℕ). is_named js k) placed ∙ named_insert at index k is within ∙ ap (λ (o : Outstanding). is_named o.indexes k || (index == k)) c.self.view_is

pub returns-clause-room : goal.returns-clause-room
returns-clause-room c =
    let at = c.count_before-at.result in
    let is = c.self.inside.indexes.items in
    let number = c.self.inside.number in
    let index = c.args.index in
    let below : index < number = rw (← c.self.view_is) at c.requires in
    let within : at ≤ length is = rw (← c.self.view_is) at c.count_before-at.ensures.within in
    let before : (k : ℕ) → k < at → get_or is k 0 < index = rw (← c.self.view_is) at c.count_before-at.ensures.before in
    let behind : (k : ℕ) → at ≤ k → k < length is → index ≤ get_or is k 0 = rw (← c.self.view_is) at c.count_before-at.ensures.behind in
    let apart : at < length is → get_or is at 0 ≢ index = rw (← c.self.view_is) at (c.is_at.ensures.elsewhere c.if-is_at.false) in
    let rises : AreRising 0 number (insert is at index) = rising_between number at index is c.self.invariant.0 below within before behind apart in
    let room : vec_len c.self.inside.indexes < vec_capacity c.self.inside.indexes = omega (arith, rising_room number at index is within rises, c.self.invariant.1, c.self.inside.indexes.ok.0) in
    let same : vec_capacity c.insert.new.self ≡ vec_capacity c.self.inside.indexes = (c.insert.ensures.in_place room).1.0 in
    ap (λ n. n - number) same ∙ ap (λ (o : Outstanding). o.room) c.self.view_is

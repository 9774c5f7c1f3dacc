use Rattle.std.proofs.Common.{arith, length, ◌≡◌, ◌<◌, ◌-◌, ◌^◌, ℕ, refl, set, get_or, ◌++◌, ◌∷◌, [], List, ap, ◌∙◌}
use Rattle.std.specs.List.{All}
use Rattle.jm_lane.specs.declared.row.Row.{Row}
use Rattle.jm_lane.specs.Lanes.{Lane}
use Rattle.jm_lanes.specs.Lanes.{all_rows, rows_of, IsHeld, IsPushed}
use Rattle.jm_lanes.proofs.Places.{all_unsorted}
use Rattle.jm_lane.proofs.Holding.{follows_held}
use Rattle.jm_lanes.proofs.Pushing.{held_push, few_rows}
use Rattle.jm_pending.proofs.Receiving.{known_added}
use Rattle.std.proofs.lemmas.List.{length-append}
use Rattle.jm_pending.proofs.Shown.{length_shown}
use Rattle.jm_pending.proofs.held.Held.add.Goals as goal

pushed : (xs ys : List Lane) (room : ℕ) (row : Row) → IsHeld xs room → 0 < room → row.place < 2 ^ 63 → All (λ (r : Row). r.place < row.place) (rows_of xs) → (at : ℕ) × (after : Lane) × (at < length xs) × (ys ≡ set xs at after) × IsPushed row (get_or xs at after) after → IsHeld ys (room - 1) × (rows_of ys ≡ rows_of xs ++ row ∷ [])
pushed xs ys room row h some bound above e = rw (e.3) (held_push xs room e.0 row e.1 h some bound above e.2 e.4)

pub push-requires-clause-number : goal.push-requires-clause-number
push-requires-clause-number c = c.self.invariant.0.made (rw (← c.self.view_is) at c.requires.room)

pub push-requires-clause-priorities : goal.push-requires-clause-priorities
push-requires-clause-priorities c = c.self.invariant.0.priorities

pub push-requires-clause-room : goal.push-requires-clause-room
push-requires-clause-room c =
    let some = rw (← c.self.view_is) at c.requires.room in
    λ k d l. let spare = c.self.invariant.0.spare k d l in omega (arith, some, spare)

pub push-requires-clause-above : goal.push-requires-clause-above
push-requires-clause-above c =
    all_unsorted (λ (r : Row). r.place < c.args.row.place) (all_rows c.self.inside.lanes) (rw (← c.self.view_is) at c.requires.above)

pub invariant_of-self-2 : goal.invariant_of-self-2
invariant_of-self-2 c =
    let more = pushed c.self.inside.lanes c.push.new.self c.self.inside.room c.args.row c.self.invariant.0 (rw (← c.self.view_is) at c.requires.room) c.requires.place (rw (← c.self.view_is) at c.requires.above) c.push.ensures in
    (more.0, known_added c.self.inside.receivers c.with-self-inside.result (rows_of c.self.inside.lanes) (rows_of c.push.new.self) c.args.row more.1 c.with-self-inside.ensures.row c.with-self-inside.ensures.others c.self.invariant.1, omega (arith, c.self.invariant.2, ap length more.1, length-append (rows_of c.self.inside.lanes) (c.args.row ∷ [])))

pub returns-clause-added : goal.returns-clause-added
returns-clause-added c = λ no.
    rw (← c.self.view_is, (pushed c.self.inside.lanes c.push.new.self c.self.inside.room c.args.row c.self.invariant.0 (rw (← c.self.view_is) at c.requires.room) c.requires.place (rw (← c.self.view_is) at c.requires.above) c.push.ensures).1) refl

pub returns-clause-table : goal.returns-clause-table
returns-clause-table c =
    rw (← c.self.view_is, (pushed c.self.inside.lanes c.push.new.self c.self.inside.room c.args.row c.self.invariant.0 (rw (← c.self.view_is) at c.requires.room) c.requires.place (rw (← c.self.view_is) at c.requires.above) c.push.ensures).1) (follows_held c.args.table.now c.hold.new.self (rows_of c.self.inside.lanes) c.args.row c.hold.ensures.holders c.hold.ensures.messages)

pub overflow_add-self : goal.overflow_add-self
overflow_add-self c = omega (arith, c.self.invariant.2, length_shown c.self.inside.lanes, few_rows c.self.inside.lanes c.self.inside.room c.self.invariant.0)

pub push-requires-clause-count : goal.push-requires-clause-count
push-requires-clause-count c = c.self.invariant.2 ∙ length_shown c.self.inside.lanes

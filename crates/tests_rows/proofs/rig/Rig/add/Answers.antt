use Rattle.std.proofs.Common.{◌≡◌, ◌∙◌, ap, sym, None}
use Rattle.std.specs.List.{find}
use Rattle.jm_lane.specs.Rows.{is_from}
use Rattle.jm_pending.specs.Rows.{Held}
use Rattle.tests_rows.proofs.Covered.{all_below, none_of, roomy_covers, still_covers}
use Rattle.tests_rows.proofs.rig.Rig.add.Goals as goal

pub add-requires-clause-above : goal.add-requires-clause-above
add-requires-clause-above c =
    let rows = c.self.inside.held.rows in
    let none : find (is_from c.args.place) rows ≡ None = sym c.row_from.ensures.row ∙ none_of c.row_from.result (sym c.is_some.ensures ∙ c.if-is_some.false) in
    let same : c.reserve-2.new.self.rows ≡ rows = ap (λ (h : Held). h.rows) c.reserve-2.ensures.same in
    rw (same, c.new-row.ensures.row) (all_below c.args.place rows none)

pub invariant_of-self-2 : goal.invariant_of-self-2
invariant_of-self-2 c = record {
  held = λ p.
      let before = roomy_covers c.self.inside.table c.reserve.new.self c.self.inside.held c.reserve-2.new.self c.reserve.new.self.spare c.reserve-2.new.self.room c.reserve.ensures.same c.reserve-2.ensures.same c.self.invariant p in
      still_covers _ _ _ _ _ _ _ (c.put.ensures.holders.holders p) (c.add.ensures.table.holders p) (c.release.ensures.holders.holders p) before;
}

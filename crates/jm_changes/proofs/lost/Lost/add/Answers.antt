use Rattle.std.proofs.Common.{◌++◌, ◌∷◌, [], sym, subst, ap, ◌∙◌}
use Rattle.jm_changes.specs.Standing.{AreMet, delay_at, goes, key_in}
use Rattle.jm_changes.proofs.Losing.{fits_last, fits_left, none_left, some_left}
use Rattle.jm_changes.proofs.lost.Lost.add.Goals as goal
use Rattle.jm_changes.proofs.lost.Lost.add.Goals.{then-not-is_left+in_ok-add_message, else-not-is_left}

pub returns-clause-fit : goal.returns-clause-fit
returns-clause-fit g c =
    let keys = g.P.Planned.keys c.args.planned.now in
    let state = g.P.Planned.state c.args.planned.now in
    let goes_here = goes keys c.args.going.now in
    let key = key_in keys c.args.index in
    let row = c.args.row in
    let old = c.args.self.now in
    let mid = c.if-not-is_left.self in
    let same = c.in_ok-copy.ensures ∙ c.key_at.ensures in
    elim c.if-not-is_left.branch [
      | then-not-is_left+in_ok-add_message w ↦
          subst (λ rows. AreMet goes_here state rows mid.delays.items mid.gone.items) (sym (c.in_ok-push.ensures.items ∙ ap (λ s. s.rows.items ++ (c.in_ok-copy.field-0, row.place) ∷ []) w.self-is ∙ ap (λ rows. rows ++ (c.in_ok-copy.field-0, row.place) ∷ []) w.in_ok-add_message.ensures.rows ∙ ap (λ k. old.rows.items ++ (k, row.place) ∷ []) same))
          (subst (λ delays. AreMet goes_here state (old.rows.items ++ (key, row.place) ∷ []) delays mid.gone.items) (sym (ap (λ s. s.delays.items) w.self-is ∙ w.in_ok-add_message.ensures.delays))
          (subst (λ gone. AreMet goes_here state (old.rows.items ++ (key, row.place) ∷ []) (old.delays.items ++ delay_at row.is_delayed row.place) gone) (sym (ap (λ s. s.gone.items) w.self-is ∙ w.in_ok-add_message.ensures.gone))
          (fits_last goes_here state old.rows.items old.delays.items old.gone.items key row c.requires.fit c.requires.read (none_left goes_here state row.place c.is_left.result c.is_left.ensures w.if-not-is_left.true))))
      | else-not-is_left w ↦
          subst (λ rows. AreMet goes_here state rows mid.delays.items mid.gone.items) (sym (c.in_ok-push.ensures.items ∙ ap (λ s. s.rows.items ++ (c.in_ok-copy.field-0, row.place) ∷ []) w.self-is ∙ ap (λ k. old.rows.items ++ (k, row.place) ∷ []) same))
          (subst (λ s. AreMet goes_here state (old.rows.items ++ (key, row.place) ∷ []) s.delays.items s.gone.items) (sym w.self-is)
          (fits_left goes_here state old.rows.items old.delays.items old.gone.items key row.place c.requires.fit (some_left goes_here state row.place c.is_left.result c.is_left.ensures w.if-not-is_left.false)))
    ]

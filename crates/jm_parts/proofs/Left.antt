-- What a delivery leaves of a row, by the mode.
use Rattle.std.proofs.Common.{◌≡◌, ◌∷◌, [], ℕ, true, false, cond, sym, Some}
use Rattle.jm_base.specs.declared.mode.Mode.{Mode}
use Rattle.jm_dest.specs.declared.session.SessionId.{SessionId}
use Rattle.jm_machine.specs.Rows.{left_of, sent_out, settles_at_once}
use Rattle.jm_stations.specs.Backlogs.{gone, out_row}

-- a mode that settles at once leaves nothing of a row, and any other leaves it out
pub left_settled : (mode : Mode) (s : SessionId) (c : ℕ) → settles_at_once (Some mode) ≡ true → gone ≡ left_of (Some mode) s c
unfolding left_of
left_settled mode s c e = λ i r. cond (sym e i) [] (sent_out s c r ∷ [])

pub left_out : (mode : Mode) (s : SessionId) (c : ℕ) → settles_at_once (Some mode) ≡ false → out_row s c ≡ left_of (Some mode) s c
unfolding left_of
left_out mode s c e = λ i r. cond (sym e i) [] (sent_out s c r ∷ [])

use Rattle.std.proofs.Common.{◌∙◌, ap, sym}
use Rattle.std.specs.Map.{lookup}
use Rattle.jm_indexed.proofs.Entries.{absent_stays, absent_updates, entries_none, removed_is, removed_updates}
use Rattle.jm_indexed.proofs.key_map.KeyMap.remove.Goals as goal

pub returns-in_err-index-clause-value : goal.returns-in_err-index-clause-value
returns-in_err-index-clause-value g c = c.from_residual.ensures ∙ sym (entries_none g.met.K.Eq.laws c.args.key.now c.args.self.now.entries (sym c.in_err-index.ensures.index))

pub returns-in_err-index-clause-entries : goal.returns-in_err-index-clause-entries
returns-in_err-index-clause-entries g c =
    sym (absent_stays (g.K.PartialEq.eq c.args.key.now) c.args.self.now.entries (entries_none g.met.K.Eq.laws c.args.key.now c.args.self.now.entries (sym c.in_err-index.ensures.index)))

pub returns-in_err-index-clause-updates : goal.returns-in_err-index-clause-updates
returns-in_err-index-clause-updates g c = λ q.
    absent_updates g.met.K.Eq.laws c.args.key.now c.args.self.now.entries (entries_none g.met.K.Eq.laws c.args.key.now c.args.self.now.entries (sym c.in_err-index.ensures.index)) q

pub returns-clause-value : goal.returns-clause-value
returns-clause-value g c = sym c.remove_at.ensures.value ∙ c.in_ok-index.ensures.value

pub returns-clause-entries : goal.returns-clause-entries
returns-clause-entries g c = c.remove_at.ensures.entries ∙ removed_is g.met.K.Eq.laws c.args.key.now c.args.self.now.entries c.in_ok-index.index (sym c.in_ok-index.ensures.index)

pub returns-clause-updates : goal.returns-clause-updates
returns-clause-updates g c = λ q.
    ap (lookup (g.K.PartialEq.eq q)) (c.remove_at.ensures.entries ∙ removed_is g.met.K.Eq.laws c.args.key.now c.args.self.now.entries c.in_ok-index.index (sym c.in_ok-index.ensures.index))
    ∙ removed_updates g.met.K.Eq.laws c.args.key.now c.args.self.now.entries c.len-number.ensures.once q

use Rattle.std.proofs.lemmas.Bool.{and_parts}
use Rattle.sqlite.specs.Held.{state}
use Rattle.sqlite_trees.proofs.Doubt.{no_doubt}
use Rattle.jm_store.proofs.closing.close.Goals as goal

pub returns-clause-valid : goal.returns-clause-valid
returns-clause-valid g c machine holds k persisted =
    let new = state g.S.Store c.into_connection.result in
    let parts = and_parts new.is_clean new.is_open k in
    let ours = c.into_connection.ensures.ours (no_doubt new.is_clean parts.0) parts.1 in
    c.law_valid.ensures machine new.now holds (record { serves = ours.0; own = ours.2; persisted = persisted })

use Rattle.std.proofs.Common.{◌≡◌, true, sym, subst}
use Rattle.jm_machine.specs.Machine.{definition_of, station_of}
use Rattle.jm_keep.specs.Persisted.{is_lasting}
use Rattle.jm_changes.specs.Planned.{IsDecided}
use Rattle.jm_changes.proofs.Listed.{decided_key, decided_puts, ok_map}
use Rattle.jm_changes.proofs.listing.created.Goals as goal

pub returns-in-Some : goal.returns-in-Some
returns-in-Some g c =
    let state = g.P.Planned.state c.args.planned.now in
    λ k d l i.
    let asked = subst (λ o. IsDecided k d (definition_of (station_of k state.stations)) o) (sym c.in-Some.ensures) i in
    ok_map c.put.result _ _ (λ changes p. decided_puts k d (c.in-Some.key.now, c.in-Some.definition.now) state changes.items asked p)
    (c.put.ensures (subst (λ t. is_lasting t ≡ true) (sym (decided_key k d (definition_of (station_of k state.stations)) (c.in-Some.key.now, c.in-Some.definition.now) asked)) l))

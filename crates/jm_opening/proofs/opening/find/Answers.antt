use Rattle.std.proofs.Common.{sym, ◌∙◌}
use Rattle.sqlite.specs.Held.{state}
use Rattle.jm_opening.proofs.FoundLemmas.{found_so, next_number}
use Rattle.jm_opening.proofs.opening.find.Goals as goal

pub returns-clause-found : goal.returns-clause-found
returns-clause-found g c clean live settled =
    let said = c.in_ok-last.ensures.ok in
    found_so c.of_version.result (state g.S.Store c.args.conn.now).now (state g.S.Store c.read_meta.new.conn).now c.in_ok-last.last c.in_ok-rows.rows.items said.0 ((c.in_ok-rows.ensures.same clean live).0 ∙ sym settled)
    (rw c.schema-2.ensures.value at c.of_version.ensures.schema) c.of_version.ensures.version c.of_version.ensures.opening (λ ours. c.in_ok-rows.ensures.rows clean ours) (sym c.deref.ensures.value ∙ said.1) said.2 said.3

pub returns-clause-number : goal.returns-clause-number
returns-clause-number g c =
    let said = c.in_ok-last.ensures.ok in next_number c.of_version.result c.in_ok-last.last.opening said.2.within c.of_version.ensures.opening

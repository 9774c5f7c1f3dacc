use Rattle.std.proofs.Common.{◌≡◌, rules, refl, ap, sym, ◌∙◌}
use Rattle.sqlite.specs.Held.{state}
use Rattle.sqlite.specs.Steps.{over_memory}
use Rattle.sqlite.proofs.Callers.{memory_is_clean}
use Rattle.jm_opening.proofs.memory.indexed.Goals as goal

pub returns : goal.returns
returns c =
    let begun = c.transaction-tx.ensures.begun in
    let end = c.commit.new.self.0 in
    let is : end ≡ c.conn-3-1.given.0 = search rules in
    let made = rw begun at (c.in_ok-make_index.ensures.done (memory_is_clean c.make_index.new.tx.conn.now)) in
    let said = c.in_ok-commit.ensures.ok (memory_is_clean end) in
    record { schema = ap (λ h. (state over_memory h).now.schema) (sym is) ∙ ap (λ db. db.schema) said.1.now_is ∙ (made refl c.in_ok-conn.ensures.schema).schema_is }

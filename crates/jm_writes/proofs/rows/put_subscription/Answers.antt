use Rattle.std.proofs.Common.{◌∙◌, sym}
use Rattle.std.proofs.lemmas.Str.{is_utf8-from_IsUtf8}
use Rattle.sqlite.specs.Held.{state}
use Rattle.jm_writes.proofs.Family.{family_two}
use Rattle.jm_writes.proofs.Stationed.{may_be_row, put_subscription_on}
use Rattle.jm_writes.proofs.rows.put_subscription.Goals as goal

pub returns-clause-done : goal.returns-clause-done
returns-clause-done g c clean serves =
    put_subscription_on (state g.S.Store c.args.tx.now.conn.now) (state g.S.Store c.run.new.tx.conn.now) c.args.key.now c.args.definition.now c.selector_of.result.now c.run.result
    (family_two c.args.key.now c.in_ok-stored_family.field-0 c.in_ok-stored_family.ensures.ok c.if-branch-ne2.false) c.selector_of.ensures (λ id. may_be_row id c.args.key.now c.args.definition.now c.selector_of.result.now (rw c.client_of.ensures at (is_utf8-from_IsUtf8 c.client_of.result.now c.client_of.utf8)) (rw c.name_of.ensures at (is_utf8-from_IsUtf8 c.name_of.result.now c.name_of.utf8)) (rw c.as_str.ensures.text at (is_utf8-from_IsUtf8 c.as_str.result.now c.as_str.utf8)) c.as_str.ensures.valid (is_utf8-from_IsUtf8 c.selector_of.result.now c.selector_of.utf8) (sym c.may_stand.ensures ∙ c.if-not-may_stand.false)) serves
    (rw (c.params-to_sql.ensures, c.params-to_sql-2.ensures, c.params-to_sql-3.ensures, c.params-to_sql-4.ensures, c.params-to_sql-5.ensures, c.params-to_sql-6.ensures, c.client_of.ensures, c.name_of.ensures, c.as_str.ensures.text) at (c.run.ensures.runs clean))

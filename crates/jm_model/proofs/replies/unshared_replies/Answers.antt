use Rattle.std.proofs.Common.{◌≡◌, ◌∙◌, ℕ, true, List, [], sym, ap, subst}
use Rattle.std.specs.Prelude.{IfOk, Result}
use Rattle.std.specs.List.{list_all}
use Rattle.jm_base.specs.declared.refusal.Refusal.{Refusal}
use Rattle.jm_machine.specs.declared.answer.Answer.{Answer}
use Rattle.jm_machine.specs.Isolation.{asks_no_shared}
use Rattle.jm_machine.specs.Lone.{Scope, scope_of, lone_of, lone_replies, feed}
use Rattle.jm_plans.specs.Provider.{state_of}
use Rattle.jm_scope.specs.Scopes.{scope_seen}
use Rattle.jm_model.proofs.Asked.{none_asks}
use Rattle.jm_model.proofs.replies.unshared_replies.Goals as goal

pub answers-requires-clause-unshared : goal.answers-requires-clause-unshared
answers-requires-clause-unshared c =
    subst (λ (S : Scope). list_all (asks_no_shared S.key S.clients) c.args.entries.now ≡ true) (sym c.in_ok-scope.ensures)
    (none_asks c.args.key.now (state_of c.args.opening.now) c.args.entries.now c.requires)

pub returns : goal.returns
returns c =
    let state = state_of c.args.opening.now in
    let scope : scope_seen c.in_ok-scope.scope ≡ scope_of c.args.key.now state c.args.entries.now = c.in_ok-scope.ensures in
    let lone : c.in_ok-lone.lone ≡ lone_of (scope_of c.args.key.now state c.args.entries.now) state = c.in_ok-lone.ensures ∙ ap (λ (S : Scope). lone_of S state) scope in
    subst (λ (replies : List (ℕ × Result Answer Refusal)). IfOk c.answers.result (λ r. r.items ≡ replies)) (λ i. lone_replies (scope i) (lone i) (feed (scope i) 0 state.life [] (lone i) c.args.entries.now))
    (c.answers.ensures state.life (c.in_ok-transactions.ensures c.args.entries.now))

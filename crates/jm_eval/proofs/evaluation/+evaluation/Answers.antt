use Rattle.std.proofs.Common.{◌≡◌, inl, inr, ap, ◌∙◌, arith, rules}
use Rattle.jm_eval.specs.Evaluation.{value}
use Rattle.jm_eval.specs.Values.{and_of, or_of, condition_of, value_of}
use Rattle.jm_eval.specs.Views.{view}
use Rattle.jm_eval.proofs.Conditions.{stays, compare-is, between-is, in-is, like-is, null-is, not-is, all-is, any-is}
use Rattle.jm_eval.proofs.Decided.{and_decided, or_decided}
use Rattle.jm_eval.proofs.Chains.{sum_unknown, product_unknown}
use Rattle.jm_eval.proofs.evaluation.+evaluation.Goals as goal

pub all-returns-in-False : goal.all-returns-in-False
all-returns-in-False m c =
    let step : c.and_of-truth.result ≡ and_of c.loop-member.truth (condition_of (value (view c.args.message.now) c.member-item.result)) = cc (c.and_of-truth.ensures, c.condition.ensures) in
    and_decided (value (view c.args.message.now)) c.args.members.now c.loop-member.member-index c.member-item.result c.loop-member.truth c.and_of-truth.result _ (omega arith) c.member-item.is c.loop-member.invariant step (cc)

pub any_of-returns-in-True : goal.any_of-returns-in-True
any_of-returns-in-True m c =
    let step : c.or_of-truth.result ≡ or_of c.loop-member.truth (condition_of (value (view c.args.message.now) c.member-item.result)) = cc (c.or_of-truth.ensures, c.condition.ensures) in
    or_decided (value (view c.args.message.now)) c.args.members.now c.loop-member.member-index c.member-item.result c.loop-member.truth c.or_of-truth.result _ (omega arith) c.member-item.is c.loop-member.invariant step (cc)

-- (a tree that is a condition, form by form)
pub eval-returns-in-Compare : goal.eval-returns-in-Compare
eval-returns-in-Compare t c =
    let of = view c.args.message.now in
    c.value_of.ensures ∙ ap value_of c.condition.ensures ∙ elim c.in-Compare.is [
      | inl h ↦ stays _ _ (ap (value of) h.3 ∙ compare-is of h.0 h.1 h.2)
      | inr (inl h) ↦ stays _ _ (ap (value of) h.4 ∙ between-is of h.0 h.1 h.2 h.3)
      | inr (inr (inl h)) ↦ stays _ _ (ap (value of) h.3 ∙ in-is of h.0 h.1 h.2)
      | inr (inr (inr (inl h))) ↦ stays _ _ (ap (value of) h.4 ∙ like-is of h.0 h.1 h.2 h.3)
      | inr (inr (inr (inr (inl h)))) ↦ stays _ _ (ap (value of) h.2 ∙ null-is of h.0 h.1)
      | inr (inr (inr (inr (inr (inl h))))) ↦ stays _ _ (ap (value of) h.1 ∙ not-is of h.0)
      | inr (inr (inr (inr (inr (inr (inl h)))))) ↦ stays _ _ (ap (value of) h.1 ∙ all-is of h.0)
      | inr (inr (inr (inr (inr (inr (inr h)))))) ↦ stays _ _ (ap (value of) h.1 ∙ any-is of h.0)
    ]

-- (a chain with a step is no truth value)
pub sum_condition-returns : goal.sum_condition-returns
sum_condition-returns t c = sum_unknown (λ p. (p.0, value (view c.args.message.now) p.1)) (value (view c.args.message.now) c.args.first.now) c.args.rest.now (search rules)

pub product_condition-returns : goal.product_condition-returns
product_condition-returns t c = product_unknown (λ p. (p.0, value (view c.args.message.now) p.1)) (value (view c.args.message.now) c.args.first.now) c.args.rest.now (search rules)

-- What stands in a definition is read as what was handed in, and what selects a message by its value.
use Rattle.std.proofs.Common.{◌≡◌, ◌≢◌, ◌∙◌, ℕ, Bool, true, false, List, refl, ap, Option, Some, None, Result, Ok, Err}
use Rattle.std.specs.Prelude.{◌↔◌, IsTrue}
use Rattle.jm_base.specs.declared.refusal.Cause.{Cause}
use Rattle.jm_base.specs.declared.refusal.Cause.TheVariants as causes
use Rattle.jm_base.specs.declared.refusal.Refusal.TheVariants.{Memory}
use Rattle.jm_header.specs.declared.content.Content.{Content}
use Rattle.jm_lexer.specs.declared.fault.SyntaxFault.{SyntaxFault}
use Rattle.jm_tree.specs.declared.tree.Tree.{Tree}
use Rattle.jm_eval.specs.Values.{Value, Unknown, Boolean, Number, Text, condition_of}
use Rattle.jm_eval.specs.Views.{view}
use Rattle.jm_eval.specs.Evaluation.{value, Selects}
use Rattle.jm_selector.specs.Selectors.{selector_read, read_refusal, selector_refusal, standing, holds, selects, matches, refused_for}

-- the selector that stands in a definition is read as the one that was handed in
pub standing_read : (selector : Option (List ℕ)) (tree : Option Tree) → selector_read selector ≡ Ok tree → selector_read (standing selector (selector_read selector)) ≡ Ok tree
standing_read selector None h = ap (λ (r : Result (Option Tree) SyntaxFault). selector_read (standing selector r)) h
standing_read selector (Some tree) h = ap (λ (r : Result (Option Tree) SyntaxFault). selector_read (standing selector r)) h ∙ h

not_true : (b : Bool) → (IsTrue b → ⊥) → b ≡ false
not_true true h = absurd (h refl)
not_true false h = refl

by_value : (b : Bool) (v : Value) → (IsTrue b ↔ (v ≡ Boolean true)) → b ≡ holds (condition_of v)
by_value b (Boolean true) h = h.1 refl
by_value b (Boolean false) h = not_true b (λ e. let k = h.0 e in cc)
by_value b Unknown h = not_true b (λ e. let k = h.0 e in cc)
by_value b (Number n) h = not_true b (λ e. let k = h.0 e in cc)
by_value b (Text cs) h = not_true b (λ e. let k = h.0 e in cc)

-- a test that stands exactly where a selector selects is its selection
pub selects_same : (b : Bool) (tree : Option Tree) (m : Content) → (IsTrue b ↔ Selects (view m) tree) → b ≡ selects tree m
unfolding selects
selects_same b None m h = h.1 tt
selects_same b (Some tree) m h = by_value b (value (view m) tree) h

-- a fault is refused by its cause and offset, unless memory ran out
pub fault_refused : (selector : Option (List ℕ)) (at : ℕ) (cause : Cause) → (cause ≢ causes.Memory → selector_read selector ≡ Err (record { at = at; cause = cause })) →
    refused_for at cause ≢ Memory → selector_refusal selector ≡ Some (refused_for at cause)
unfolding selector_refusal
fault_refused selector at causes.Token h n = ap read_refusal (h (λ e. cc))
fault_refused selector at causes.Expected h n = ap read_refusal (h (λ e. cc))
fault_refused selector at causes.Kind h n = ap read_refusal (h (λ e. cc))
fault_refused selector at causes.Number h n = ap read_refusal (h (λ e. cc))
fault_refused selector at causes.Floating h n = ap read_refusal (h (λ e. cc))
fault_refused selector at causes.TooLong h n = ap read_refusal (h (λ e. cc))
fault_refused selector at causes.TooDeep h n = ap read_refusal (h (λ e. cc))
fault_refused selector at causes.Memory h n = absurd (n refl)

-- a selector that has a tree is not refused
pub not_refused : (selector : Option (List ℕ)) (tree : Option Tree) → selector_read selector ≡ Ok tree → selector_refusal selector ≡ None
unfolding selector_refusal
not_refused selector tree h = ap read_refusal h

-- a subscription's tree selects what its selector selects
pub selects_there : (selector : Option (List ℕ)) (m : Content) (tree : Option Tree) (b : Bool) → selector_read selector ≡ Ok tree → (IsTrue b ↔ Selects (view m) tree) → b ≡ matches selector m
selects_there selector m tree b h e = rw h (selects_same b tree m e)

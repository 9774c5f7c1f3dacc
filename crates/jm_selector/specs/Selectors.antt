-- Selectors of subscriptions: what their texts are read as, why they are refused, and which messages they
-- select (Jakarta Messaging 3.1, section 3.8.1).
use Rattle.std.specs.Prelude.{ℕ, Bool, true, false, List, Option, Some, None, Result, Ok, Err}
use Rattle.jm_base.specs.declared.refusal.Refusal.{Refusal}
use Rattle.jm_base.specs.declared.refusal.Cause.{Cause}
use Rattle.jm_base.specs.declared.refusal.Cause.TheVariants as causes
use Rattle.jm_base.specs.declared.refusal.Refusal.TheVariants.{InvalidSelector, Memory}
use Rattle.jm_header.specs.declared.content.Content.{Content}
use Rattle.jm_lexer.specs.declared.fault.SyntaxFault.{SyntaxFault}
use Rattle.jm_tree.specs.declared.tree.Tree.{Tree}
use Rattle.jm_tree.specs.Parse.{parsed}
use Rattle.jm_eval.specs.declared.truth.Truth.{Truth}
use Rattle.jm_eval.specs.declared.truth.Truth.TheVariants.{True, False, Unknown}
use Rattle.jm_eval.specs.Views.{view}
use Rattle.jm_eval.specs.Evaluation.{condition}

-- what a selector is read as: a tree, or none where it is absent or its text holds no token; or its fault
abbrev pub selector_read : Option (List ℕ) → Result (Option Tree) SyntaxFault
selector_read None = Ok None
selector_read (Some text) = parsed text

-- why a selector is refused that was read so: the cause and the offset of its fault
abbrev pub read_refusal : Result (Option Tree) SyntaxFault → Option Refusal
read_refusal (Ok tree) = None
read_refusal (Err fault) = Some (InvalidSelector fault.at fault.cause)

-- why a selector is refused; none where it is not
unfoldable pub selector_refusal : Option (List ℕ) → Option Refusal
selector_refusal selector = read_refusal (selector_read selector)

-- a selector as it stands in a definition: its text as it was handed in, and none where it was read as none
abbrev pub standing : Option (List ℕ) → Result (Option Tree) SyntaxFault → Option (List ℕ)
standing selector (Ok None) = None
standing selector (Ok (Some tree)) = selector
standing selector (Err fault) = selector

-- TRUE alone
abbrev pub holds : Truth → Bool
holds True = true
holds False = false
holds Unknown = false

-- a tree selects the messages for which it is TRUE, and no tree selects each message
unfoldable pub selects : Option Tree → Content → Bool
selects None m = true
selects (Some tree) m = holds (condition (view m) tree)

-- what was read of a selector selects a message; a refused text, which stands in no definition, selects none
abbrev pub read_selects : Result (Option Tree) SyntaxFault → Content → Bool
read_selects (Ok tree) m = selects tree m
read_selects (Err fault) m = false

-- a selector, as a text, matches a message: it is absent, or TRUE for the message; one that is refused matches none
abbrev pub matches : Option (List ℕ) → Content → Bool
matches selector m = read_selects (selector_read selector) m

-- the refusal for a fault of that cause
abbrev pub refused_for : ℕ → Cause → Refusal
refused_for at causes.Memory = Memory
refused_for at cause = InvalidSelector at cause

-- the refusal for a fault of a selector text, or for a want of memory while it is read
abbrev pub refused : SyntaxFault → Refusal
refused fault = refused_for fault.at fault.cause

-- An empty text holds no selector.
use Rattle.std.proofs.Common.{◌≡◌, [], Option, Some, None, Ok, Result, refl, ap}
use Rattle.jm_lexer.specs.declared.fault.SyntaxFault.{SyntaxFault}
use Rattle.jm_selector.specs.Selectors.{selector_read, standing}
use Rattle.jm_tables.specs.Rows.{selector_in}
use Rattle.jm_tree.specs.declared.tree.Tree.{Tree}
use Rattle.jm_lexer.specs.Lex.{tokens, lex_from}
use Rattle.jm_tree.specs.Parse.{parsed}

pub empty_read : selector_read (Some []) ≡ Ok None
unfolding parsed tokens lex_from
empty_read = refl

pub empty_none : selector_in [] ≡ None
empty_none = ap (λ (r : Result (Option Tree) SyntaxFault). standing (Some []) r) empty_read

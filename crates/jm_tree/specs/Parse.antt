-- What a selector text is answered with.
use Rattle.std.specs.Prelude.{◌≢◌, ℕ, ◌<◌, nat_lt, if◌then◌else◌, List, [], ◌∷◌, length, Option, Some, None, Result, Ok, Err}
use Rattle.jm_base.specs.declared.refusal.Cause.TheVariants as causes
use Rattle.jm_lexer.specs.declared.token.Token.{Token}
use Rattle.jm_lexer.specs.declared.fault.SyntaxFault.{SyntaxFault}
use Rattle.jm_tree.specs.declared.tree.Tree.{Tree}
use Rattle.jm_lexer.specs.Faults.{fault_at}
use Rattle.jm_tree.specs.Spells.{Spells}
use Rattle.jm_tree.specs.Answer.{answer}
use Rattle.jm_lexer.specs.Lex.{tokens}
use Rattle.jm_lexer.specs.Lexes.{Lexes}

-- a tree that was found, or its fault
abbrev pub some_tree : Result Tree SyntaxFault → Result (Option Tree) SyntaxFault
some_tree (Ok tree) = Ok (Some tree)
some_tree (Err e) = Err e

-- a text without tokens is no selector
abbrev pub read : ℕ → Result (List Token) SyntaxFault → Result (Option Tree) SyntaxFault
read end (Err e) = Err e
read end (Ok []) = Ok None
read end (Ok (t ∷ ts)) = some_tree (answer (t ∷ ts) end)

-- the greatest length of a selector text, in bytes (ours)
abbrev pub length_max : ℕ
length_max = 8192

-- the tree of a selector text, None where it has no tokens, or its fault: the length first, then the tokens, then the grammar
unfoldable pub parsed : List ℕ → Result (Option Tree) SyntaxFault
parsed text = if nat_lt length_max (length text) then Err (fault_at length_max causes.TooLong) else read (length text) (tokens text)

-- the fault of an answer, if it is one
abbrev pub fault_of : Result (Option Tree) SyntaxFault → Option SyntaxFault
fault_of (Ok found) = None
fault_of (Err e) = Some e

-- the first fault of a selector text
abbrev pub fault : List ℕ → Option SyntaxFault
fault text = fault_of (parsed text)

-- the text is too long, or has a lexical fault, or its tokens are not empty and no tree spells them
pub data IsFaulty (text : List ℕ) : Type 0 where
  long : length_max < length text → IsFaulty text
  lexical : {e : SyntaxFault} → Lexes text (Err e) → IsFaulty text
  unspelled : {toks : List Token} → Lexes text (Ok toks) → toks ≢ [] → ((tree : Tree) → Spells tree toks → ⊥) → IsFaulty text

-- what is found in a text: nothing where it has no tokens, else the tree that its tokens spell
abbrev pub Finds : List ℕ → Option Tree → Type 0
Finds text None = Lexes text (Ok [])
Finds text (Some tree) = (toks : List Token) × Lexes text (Ok toks) × Spells tree toks

-- what a refusal says of the text: it is faulty, unless memory runs out
abbrev pub Refuses : List ℕ → Result (Option Tree) SyntaxFault → Type 0
Refuses text (Ok found) = Unit {0}
Refuses text (Err e) = e.cause ≢ causes.Memory → IsFaulty text

-- What the rules of the grammar read from, and the steps that each rule is made of.
use Rattle.std.specs.Prelude.{◌≡◌, ◌≢◌, ℕ, Bool, true, false, if◌then◌else◌, List, [], ◌∷◌, length, drop, Option, Some, None, Result, Ok, Err}
use denote.Enum.Bare.{sameb}
use Rattle.jm_lexer.specs.contracts.token.Mark.{the_type}
use Rattle.jm_base.specs.declared.refusal.Cause.{Cause}
use Rattle.jm_base.specs.declared.refusal.Cause.TheVariants as causes
use Rattle.jm_lexer.specs.declared.token.Mark.{Mark}
use Rattle.jm_lexer.specs.declared.token.Kind.{Kind}
use Rattle.jm_lexer.specs.declared.token.Kind.TheVariants as kinds
use Rattle.jm_lexer.specs.declared.token.Token.{Token}
use Rattle.jm_lexer.specs.declared.fault.SyntaxFault.{SyntaxFault}
use Rattle.jm_lexer.specs.Faults.{fault_at}
use Rattle.jm_lexer.specs.Words.{if_some}
use Rattle.jm_tree.specs.Operators.{operator_in}

-- the tokens that are left, the length of the text, and the place of the first operand of a wrong kind
pub record Input : Type 0 where
  pub tokens : List Token
  pub end : ℕ
  pub wrong : Option ℕ

-- where the first token begins; the given end where there is none
abbrev pub first_start : List Token → ℕ → ℕ
first_start [] end = end
first_start (t ∷ ts) end = t.start

-- the kind of the first token, if there is one
abbrev pub first_kind : List Token → Option Kind
first_kind [] = None
first_kind (t ∷ ts) = Some t.kind

-- where the next token begins: at the text's length where none is left
unfoldable pub start : Input → ℕ
start i = first_start i.tokens i.end

-- the next token's kind
unfoldable pub kind : Input → Option Kind
kind i = first_kind i.tokens

-- the input past the next token
unfoldable pub next : Input → Input
next i = record i { tokens = drop 1 i.tokens }

-- how many tokens are left
unfoldable pub left : Input → ℕ
left i = length i.tokens

-- whether two marks are the same
abbrev pub same_mark : Mark → Mark → Bool
same_mark = sameb the_type

-- whether a token of this kind is this mark
abbrev pub is_mark : Mark → Option Kind → Bool
is_mark mark None = false
is_mark mark (Some (kinds.Mark found)) = same_mark found mark
is_mark mark (Some (kinds.Name name)) = false
is_mark mark (Some (kinds.Number number)) = false
is_mark mark (Some (kinds.Text text)) = false

-- ---- rules

-- a value and the input that is left, or a fault
abbrev pub Outcome : Type 0 → Type 0
Outcome A = Result (A × Input) SyntaxFault

-- a rule reads a value from the input, or stops at a fault
abbrev pub Parser : Type 0 → Type 0
Parser A = Input → Outcome A

-- after a value, the rule that it chooses reads on; a fault stays
abbrev pub and_then : {A B : Type 0} → Outcome A → (A → Parser B) → Outcome B
and_then (Ok p) f = f p.0 p.1
and_then (Err e) f = Err e

infixl 10 ◌>>=◌
-- a rule, and then the one that its value chooses
abbrev pub ◌>>=◌ : {A B : Type 0} → Parser A → (A → Parser B) → Parser B
p >>= f = λ i. and_then (p i) f

infixl 10 ◌>>◌
-- a rule, and then another; the value of the first is dropped
abbrev pub ◌>>◌ : {A B : Type 0} → Parser A → Parser B → Parser B
p >> q = p >>= (λ _. q)

-- reads nothing and has this value
abbrev pub pure : {A : Type 0} → A → Parser A
pure a = λ i. Ok (a, i)

-- stops at the next token
abbrev pub stop : {A : Type 0} → Cause → Parser A
stop cause = λ i. Err (fault_at (start i) cause)

-- the grammar cannot go on
abbrev pub refuse : {A : Type 0} → Parser A
refuse = stop causes.Expected

-- where the next token begins; it is not passed
abbrev pub here : Parser ℕ
here = λ i. Ok (start i, i)

-- the next token's kind, if there is one; it is not passed
abbrev pub peek : Parser (Option Kind)
peek = λ i. Ok (kind i, i)

-- passes the next token
abbrev pub pass : Parser (Unit {0})
pass = λ i. Ok (tt, next i)

-- whether the mark stands next
unfoldable pub sees : Mark → Input → Bool
sees mark i = is_mark mark (kind i)

-- the input past the mark, if it stands next
unfoldable pub after : Mark → Input → Input
after mark i = if sees mark i then next i else i

-- whether the mark stands next; if so it is passed
abbrev pub eat : Mark → Parser Bool
eat mark = λ i. Ok (sees mark i, after mark i)

-- passes the mark, which has to stand next
unfoldable pub expect : Mark → Parser (Unit {0})
expect mark = λ i. if sees mark i then Ok (tt, next i) else refuse i

-- which of these operators stands next, if one does
unfoldable pub operator_at : {O : Type 0} → (Mark → Option O) → Input → Option O
operator_at operators i = operator_in operators (kind i)

-- the input past an operator, if one of these stands next
unfoldable pub after_operator : {O : Type 0} → (Mark → Option O) → Input → Input
after_operator operators i = if_some (operator_at operators i) i (λ _. next i)

-- which of these operators stands next, if one does; it is passed
abbrev pub eat_operator : {O : Type 0} → (Mark → Option O) → Parser (Option O)
eat_operator operators = λ i. Ok (operator_at operators i, after_operator operators i)

-- a text that stands next, by the kind of the next token
abbrev pub text_by : Option Kind → Parser (List ℕ)
text_by None = refuse
text_by (Some (kinds.Mark mark)) = refuse
text_by (Some (kinds.Name name)) = refuse
text_by (Some (kinds.Number number)) = refuse
text_by (Some (kinds.Text text)) = pass >> pure text

-- passes a text, which has to stand next, and has its content
unfoldable pub text : Parser (List ℕ)
text = peek >>= text_by

-- ---- kinds

-- the first place, or the second where there is no first
abbrev pub or_else : Option ℕ → Option ℕ → Option ℕ
or_else None late = late
or_else (Some at) late = Some at

-- the place, if the operand does not fit
abbrev pub unless : Bool → ℕ → Option ℕ
unless fits at = if fits then None else Some at

-- the first of the places is kept
unfoldable pub noted : Option ℕ → Input → Input
noted at i = record i { wrong = or_else i.wrong at }

-- keeps the place of an operand that does not fit, and reads nothing
abbrev pub note : Option ℕ → Parser (Unit {0})
note at = λ i. Ok (tt, noted at i)

-- what a function that reads by a rule ensures: only want of memory is left open
abbrev pub Reads : {A : Type 0} → Outcome A → Result A SyntaxFault → Input → Type 0
Reads outcome (Ok a) new = outcome ≡ Ok (a, new)
Reads outcome (Err e) new = e.cause ≢ causes.Memory → outcome ≡ Err e

-- the input before anything is read
abbrev pub start_of : List Token → ℕ → Input
start_of tokens end = record { tokens = tokens; end = end; wrong = None }

-- whether there are no tokens
abbrev pub is_empty : List Token → Bool
is_empty [] = true
is_empty (t ∷ ts) = false

-- whether no token is left
unfoldable pub is_end : Input → Bool
is_end i = is_empty i.tokens

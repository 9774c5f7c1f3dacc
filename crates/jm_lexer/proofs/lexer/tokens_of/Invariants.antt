use Rattle.std.proofs.Common.{◌≡◌, ◌-◌, ◌≤◌, length, drop}
use Rattle.std.specs.Str.{IsUtf8}
use Rattle.jm_lexer.specs.Lex.{tokens, lex_from}
use Rattle.jm_lexer.proofs.lexer.tokens_of.Given as goal

abbrev pub invariant-loop-turn : goal.invariant-loop-turn
invariant-loop-turn l = (tokens l.bytes ≡ lex_from l.bytes (l._turn-end - l._turn) l.at l.found) × (l.at ≤ length l.bytes) × IsUtf8 (drop l.at l.bytes)

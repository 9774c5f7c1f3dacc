use Rattle.std.proofs.Common.{◌≡◌, drop}
use Rattle.jm_lexer.specs.Lex.{content_from, content}
use Rattle.jm_lexer.proofs.lexer.content.Given as goal

abbrev pub invariant-loop-len : goal.invariant-loop-len
invariant-loop-len l = content l.z ≡ content_from l.closed l.found.items l.len (drop l.len l.z)

use Rattle.jm_lexer.proofs.Lexed.{gives_lexed, tokens_lexed, lexed_only}
use Rattle.jm_lexer.proofs.lexer.lex.Goals as goal

pub returns-clause-lexed : goal.returns-clause-lexed
returns-clause-lexed c = gives_lexed c.args.text.now c.tokens_of.result c.tokens_of.ensures

pub returns-clause-some : goal.returns-clause-some
returns-clause-some c = tokens_lexed c.args.text.now

pub returns-clause-only : goal.returns-clause-only
returns-clause-only c = lexed_only c.args.text.now

use Rattle.jm_grammar.proofs.Agreement.{gives_finds, gives_spelled, gives_lexical, gives_faulty}
use Rattle.jm_syntax.proofs.parser.parse.Goals as goal

pub returns-clause-found : goal.returns-clause-found
returns-clause-found c = gives_finds c.args.text.now c.parsed.result c.parsed.ensures

pub returns-clause-only : goal.returns-clause-only
returns-clause-only c = gives_spelled c.args.text.now c.parsed.result c.parsed.ensures

pub returns-clause-lexical : goal.returns-clause-lexical
returns-clause-lexical c = gives_lexical c.args.text.now c.parsed.result c.parsed.ensures

pub returns-clause-refused : goal.returns-clause-refused
returns-clause-refused c = gives_faulty c.args.text.now c.parsed.result c.parsed.ensures

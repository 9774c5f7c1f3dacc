use Rattle.std.proofs.Common.{◌≡◌, ◌∙◌, codes, rules}
use Rattle.std.specs.Str.{bytes_eq}
use Rattle.clap.specs.Words.{found_of}
use Rattle.jm_words.proofs.CommandLine.{threads_some}
use Rattle.jm_words.proofs.words.threads.Goals as goal

pub returns-in-Some : goal.returns-in-Some
returns-in-Some c =
    let given : c.eq.result ≡ bytes_eq c.in-Some.text.now (codes "true") = search rules in
    given ∙ threads_some (found_of c.args.matches.now) c.get_str.result c.in-Some.text c.get_str.ensures c.in-Some.is

use Rattle.std.proofs.Common.{◌≡◌, ◌∙◌, ap, rules, Some}
use Rattle.clap.specs.Words.{found_of}
use Rattle.jm_words.proofs.CommandLine.{db_some}
use Rattle.jm_words.proofs.words.db.Goals as goal

pub returns-in_ok-from_str-in-Some : goal.returns-in_ok-from_str-in-Some
returns-in_ok-from_str-in-Some c =
    let text : c.new.result ≡ c.in-Some.text.now = search rules in
    ap Some text ∙ db_some (found_of c.args.matches.now) c.get_str.result c.in-Some.text c.get_str.ensures c.in-Some.is

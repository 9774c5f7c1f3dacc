use Rattle.std.proofs.Common.{◌≡◌, ◌∙◌, [], ap, rules}
use Rattle.std.specs.Prelude.{unwrap_or}
use Rattle.clap.proofs.WalkLemmas.{first_value-rows}
use Rattle.clap.specs.Words.{found_of}
use Rattle.jm_words.proofs.CommandLine.{unwrap_or-now}
use Rattle.jm_words.proofs.words.value.Goals as goal

pub returns : goal.returns
returns c =
    let text : c.new.result ≡ c.unwrap_or-text.result.now = search rules in
    text ∙ (ap (λ t. t.now) c.unwrap_or-text.ensures ∙ (unwrap_or-now c.get_str.result _
    ∙ ap (λ found. unwrap_or found []) (c.get_str.ensures ∙ first_value-rows (found_of c.args.matches.now) c.args.id.now)))

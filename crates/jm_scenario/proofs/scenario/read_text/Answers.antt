use Rattle.std.proofs.Common.{◌≡◌, ◌∷◌, List, true, false, rules}
use Rattle.std.specs.Prelude.{is_some}
use Rattle.json.specs.Lex.{tokens}
use Rattle.json.specs.Token.{Token}
use Rattle.serde_json.specs.Data.{object}
use Rattle.jm_scenario.proofs.Places.{text_told}
use Rattle.jm_scenario.proofs.Texts.{broken_text, handed_on, more_text, no_object_text, whole_text}
use Rattle.jm_scenario.specs.Calls.{Spells, SpellsNone}
use Rattle.jm_scenario.proofs.scenario.read_text.Goals as goal

pub returns-then-not-takes_brace : goal.returns-then-not-takes_brace
returns-then-not-takes_brace c =
    let never : (rest : List Token) → tokens c.args.text.now ≡ Token.begin_object ∷ rest → ⊥ = search rules in
    λ other. no_object_text c.args.text.now never

pub returns-in_err-outer : goal.returns-in_err-outer
returns-in_err-outer c =
    let text = c.args.text.now in
    let first : tokens text ≡ Token.begin_object ∷ c.takes_brace.new.reader = search rules in
    handed_on c.from_residual-in_err-outer.result c.in_err-outer.field-0.0 (Spells text) (SpellsNone text) c.from_residual-in_err-outer.ensures
    (λ other. broken_text text c.takes_brace.new.reader first (c.in_err-outer.ensures other))

pub returns-then-is_some : goal.returns-then-is_some
returns-then-is_some c =
    let text = c.args.text.now in
    let first : tokens text ≡ Token.begin_object ∷ c.takes_brace.new.reader = search rules in
    let more : is_some c.next.result ≡ true = search rules in
    let read = c.in_ok-outer.ensures in
    λ other. more_text text c.takes_brace.new.reader c.read_outer.new.reader c.next.new.self read.0 c.next.result first read.1 c.next.ensures.value more

pub returns : goal.returns
returns c =
    let text = c.args.text.now in
    let first : tokens text ≡ Token.begin_object ∷ c.takes_brace.new.reader = search rules in
    let none : is_some c.next.result ≡ false = search rules in
    let read = c.in_ok-outer.ensures in
    let whole = whole_text text c.takes_brace.new.reader c.read_outer.new.reader c.next.new.self read.0 c.next.result first read.1 c.next.ensures.value none in
    text_told text (object read.0) c.scenario_of.result whole (c.scenario_of.ensures read.0 read.2)

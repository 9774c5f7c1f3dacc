use Rattle.std.proofs.Common.{◌≡◌, ◌∙◌, ◌∷◌, [], None, option_map, refl, ap, sym, arith, rules}
use Rattle.json.specs.Token.{Token}
use Rattle.json.specs.Json.{value}
use Rattle.json.specs.Reads.{token_of}
use Rattle.json.proofs.Grammar.{value_is}
use Rattle.serde_json.specs.Data.{array, boolean, null, number, object, string}
use Rattle.serde_json.specs.Read.{converted, of_json}
use Rattle.serde_json.specs.View.{number_view}
use Rattle.jm_scenario.proofs.Loops.{array_read, array_refused, number_read, number_refused, object_read, object_refused}
use Rattle.jm_scenario.proofs.outer.calls_member.Goals as goal

pub returns-in_err-read_calls-in-BeginArray-clause-value : goal.returns-in_err-read_calls-in-BeginArray-clause-value
returns-in_err-read_calls-in-BeginArray-clause-value c =
    let first : c.args.reader.now ≡ Token.begin_array ∷ c.next.new.self = grind arith in
    let refused = array_refused 126 c.next.new.self (omega arith) in
    rw first (search (rules, refused))

pub returns-in_err-pass_members-in-BeginObject-clause-value : goal.returns-in_err-pass_members-in-BeginObject-clause-value
returns-in_err-pass_members-in-BeginObject-clause-value c =
    let first : c.args.reader.now ≡ Token.begin_object ∷ c.next.new.self = grind arith in
    let refused = object_refused 126 c.next.new.self (omega arith) in
    rw first (search (rules, refused))

pub returns-in_ok-read_calls-in-BeginArray-clause-value : goal.returns-in_ok-read_calls-in-BeginArray-clause-value
returns-in_ok-read_calls-in-BeginArray-clause-value c =
    let first : c.args.reader.now ≡ Token.begin_array ∷ c.next.new.self = grind arith in
    let read = c.in_ok-read_calls-in-BeginArray.ensures.value in (
      array read.0,
      ap (λ ts. converted of_json (value 126 ts)) first ∙ array_read 126 c.next.new.self c.read_calls.new.reader read.0 (omega arith) read.1,
      (read.0, refl, read.2),
    )

pub returns-in_ok-pass_members-in-BeginObject-clause-value : goal.returns-in_ok-pass_members-in-BeginObject-clause-value
returns-in_ok-pass_members-in-BeginObject-clause-value c =
    let first : c.args.reader.now ≡ Token.begin_object ∷ c.next.new.self = grind arith in
    let read = c.in_ok-pass_members-in-BeginObject.ensures.value in (
      object read.0,
      ap (λ ts. converted of_json (value 126 ts)) first ∙ object_read 126 c.next.new.self c.pass_members.new.reader read.0 (omega arith) read.1,
      refl,
    )

pub returns-in_default-clause-value : goal.returns-in_default-clause-value
returns-in_default-clause-value c never =
    let empty : c.args.reader.now ≡ [] = grind arith in
    ap (converted of_json) (ap (value 126) empty ∙ value_is 126 [])

pub returns-in-None-clause-value : goal.returns-in-None-clause-value
returns-in-None-clause-value c never =
    let first : c.args.reader.now ≡ token_of c.in-Some.token ∷ c.next.new.self = grind arith in
    let is : c.args.reader.now ≡ Token.number c.in-Number.text.now ∷ c.next.new.self = grind (arith, first) in
    ap (λ ts. converted of_json (value 126 ts)) is ∙ number_refused 126 c.in-Number.text.now c.next.new.self (ap (option_map number) (sym c.in-None.ensures))

pub returns-in-Some-number-clause-value : goal.returns-in-Some-number-clause-value
returns-in-Some-number-clause-value c =
    let first : c.args.reader.now ≡ token_of c.in-Some.token ∷ c.next.new.self = grind arith in
    let is : c.args.reader.now ≡ Token.number c.in-Number.text.now ∷ c.next.new.self = grind (arith, first) in
    let one = number (number_view c.in-Some-number.field-0) in
    let read = number_read 126 c.in-Number.text.now c.next.new.self one (ap (option_map number) (sym c.in-Some-number.ensures)) in
    (one, ap (λ ts. converted of_json (value 126 ts)) is ∙ read.0, read.1)

pub returns-in-String-clause-value : goal.returns-in-String-clause-value
returns-in-String-clause-value c =
    let first : c.args.reader.now ≡ token_of c.in-Some.token ∷ c.next.new.self = grind arith in
    let is : c.args.reader.now ≡ Token.string c.in-String.field-0.now ∷ c.next.new.self = grind (arith, first) in
    (string c.in-String.field-0.now, ap (converted of_json) (ap (value 126) is ∙ value_is 126 _), refl)

pub returns-in-Bool-clause-value : goal.returns-in-Bool-clause-value
returns-in-Bool-clause-value c =
    let first : c.args.reader.now ≡ token_of c.in-Some.token ∷ c.next.new.self = grind arith in
    let is : c.args.reader.now ≡ Token.boolean c.in-Bool.field-0 ∷ c.next.new.self = grind (arith, first) in
    (boolean c.in-Bool.field-0, ap (converted of_json) (ap (value 126) is ∙ value_is 126 _), refl)

pub returns-in-Null-clause-value : goal.returns-in-Null-clause-value
returns-in-Null-clause-value c =
    let first : c.args.reader.now ≡ token_of c.in-Some.token ∷ c.next.new.self = grind arith in
    let is : c.args.reader.now ≡ Token.null ∷ c.next.new.self = grind (arith, first) in
    (null, ap (converted of_json) (ap (value 126) is ∙ value_is 126 _), refl)

pub returns-in-EndObject-clause-value : goal.returns-in-EndObject-clause-value
returns-in-EndObject-clause-value c never =
    let first : c.args.reader.now ≡ token_of c.in-Some.token ∷ c.next.new.self = grind arith in
    let none : value 126 c.args.reader.now ≡ None = rw (value_is 126 c.args.reader.now, first) (grind arith) in
    ap (converted of_json) none

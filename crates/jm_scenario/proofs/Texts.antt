-- Values of a JSON text, read one at a time.
use Rattle.std.proofs.Common.{◌≡◌, ◌∙◌, ℕ, List, [], ◌∷◌, length, Option, Some, None, option_map, option_and_then, Result, Ok, Err, true, false, true≢false, refl, sym, ap, subst, arith}
use Rattle.std.specs.Prelude.{◌≢◌, IsErr, IsErrAnd, MatchOption, MatchResult, is_some}
use Rattle.json.specs.Reads.{token_of}
use Rattle.json.specs.declared.token.Token.{Token as Read}
use Rattle.json.specs.Token.{Token}
use Rattle.json.specs.Lex.{tokens}
use Rattle.json.specs.Json as json
use Rattle.json.proofs.Grammar.{value-begin_array, value_is}
use Rattle.serde_json.specs.Data.{Data, Items, Members, Num, array, boolean, no_members, null, number, object, string}
use Rattle.serde_json.specs.Read.{converted, max_depth, number_of, of_items, of_json, of_members, read}
use Rattle.jm_scenario.proofs.Loops.{object_read, object_refused, whole, whole_and_more, whole_read, whole_refused}
use Rattle.jm_scenario.proofs.Places.{none_spelled, text_is_none}
use Rattle.jm_scenario.specs.Calls.{SpellsNone, scenario, scenario_of_text}
use Rattle.jm_scenario.specs.declared.scenario.ScenarioFault.{ScenarioFault}
use Rattle.jm_scenario.specs.declared.scenario.ScenarioFault.TheVariants.{Memory}

-- a text whose first token opens an object, and which ends where that object does
pub object_text : (text : List ℕ) (rest : List Token) (found : Members) → tokens text ≡ Token.begin_object ∷ rest →
    converted (λ ms. of_members ms no_members) (json.members (json.value 126) (length rest) rest) ≡ Some (found, []) → read text ≡ Some (object found)
object_text text rest found first is =
    whole_read (json.value max_depth (tokens text)) (object found) (ap (λ ts. converted of_json (json.value 127 ts)) first ∙ object_read 127 rest [] found (omega arith) is)

-- goes on behind it
pub longer_text : (text : List ℕ) (rest more : List Token) (found : Members) (one : Token) → tokens text ≡ Token.begin_object ∷ rest →
    converted (λ ms. of_members ms no_members) (json.members (json.value 126) (length rest) rest) ≡ Some (found, one ∷ more) → SpellsNone text
longer_text text rest more found one first is =
    text_is_none text (whole_and_more (json.value max_depth (tokens text)) (object found) one more (ap (λ ts. converted of_json (json.value 127 ts)) first ∙ object_read 127 rest (one ∷ more) found (omega arith) is))

-- or has none there
pub broken_text : (text : List ℕ) (rest : List Token) → tokens text ≡ Token.begin_object ∷ rest →
    converted (λ ms. of_members ms no_members) (json.members (json.value 126) (length rest) rest) ≡ None → SpellsNone text
broken_text text rest first none =
    text_is_none text (whole_refused (json.value max_depth (tokens text)) (ap (λ ts. converted of_json (json.value 127 ts)) first ∙ object_refused 127 rest (omega arith) none))

-- where a token follows it, and where none does
pub more_text : (text : List ℕ) (rest old new : List Token) (found : Members) (next : Option Read) → tokens text ≡ Token.begin_object ∷ rest →
    converted (λ ms. of_members ms no_members) (json.members (json.value 126) (length rest) rest) ≡ Some (found, old) →
    MatchOption next ((old ≡ []) × (new ≡ [])) (λ one. old ≡ token_of one ∷ new) → is_some next ≡ true → SpellsNone text
more_text text rest old new found None first is next more = absurd (true≢false (sym more))
more_text text rest old new found (Some one) first is next more = longer_text text rest new found (token_of one) first (is ∙ ap (λ left. Some (found, left)) next)

pub whole_text : (text : List ℕ) (rest old new : List Token) (found : Members) (next : Option Read) → tokens text ≡ Token.begin_object ∷ rest →
    converted (λ ms. of_members ms no_members) (json.members (json.value 126) (length rest) rest) ≡ Some (found, old) →
    MatchOption next ((old ≡ []) × (new ≡ [])) (λ one. old ≡ token_of one ∷ new) → is_some next ≡ false → read text ≡ Some (object found)
whole_text text rest old new found None first is next none = object_text text rest found first (is ∙ ap (λ left. Some (found, left)) next.0)
whole_text text rest old new found (Some one) first is next none = absurd (true≢false none)

-- a fault that is handed on
pub handed_on : {T : Type 0} (told : Result T ScenarioFault) (fault : ScenarioFault) (P : T → Type 0) (Q : Type 0) → IsErr told × IsErrAnd told (λ other. other ≡ fault) → (fault ≢ Memory → Q) →
    MatchResult told P (λ other. other ≢ Memory → Q)
handed_on (Ok one) fault P Q h none = absurd h.1
handed_on (Err same) fault P Q h none = λ other. none (λ e. other (h.1 ∙ e))

no_fields : (one : json.Json) → ((found : json.Members) → one ≡ json.object found → ⊥) → (value : Data) → of_json one ≡ Some value → scenario value ≡ None
no_fields json.null other value e = subst (λ d. scenario d ≡ None) (let same : null ≡ value = cc in same) refl
no_fields (json.boolean b) other value e = subst (λ d. scenario d ≡ None) (let same : boolean b ≡ value = cc in same) refl
no_fields (json.number s) other value e = go (number_of s) e
  where
    go : (n : Option Num) → option_map number n ≡ Some value → scenario value ≡ None
    go None e = absurd (cc)
    go (Some n) e = subst (λ d. scenario d ≡ None) (let same : number n ≡ value = cc in same) refl
no_fields (json.string s) other value e = subst (λ d. scenario d ≡ None) (let same : string s ≡ value = cc in same) refl
no_fields (json.array js) other value e = go (of_items js) e
  where
    go : (values : Option Items) → option_map array values ≡ Some value → scenario value ≡ None
    go None e = absurd (cc)
    go (Some values) e = subst (λ d. scenario d ≡ None) (let same : array values ≡ value = cc in same) refl
no_fields (json.object found) other value e = absurd (other found refl)

module _ (one : json.Json) (other : (found : json.Members) → one ≡ json.object found → ⊥) where
  none_in : (read : Option Data) → of_json one ≡ read → option_and_then scenario read ≡ None
  none_in None e = refl
  none_in (Some value) e = no_fields one other value e

  alone : (rest : List Token) → option_and_then scenario (whole (Some (one, rest))) ≡ None
  alone [] = none_in (of_json one) refl
  alone (t ∷ rest) = refl

of_array : (o : Option (json.Items × List Token)) → option_and_then scenario (whole (json.parse_map json.array o)) ≡ None
of_array None = refl
of_array (Some p) = alone (json.array p.0) (λ found e. cc) p.1

-- a text whose first token opens no object spells no scenario
pub no_object_text : (text : List ℕ) → ((rest : List Token) → tokens text ≡ Token.begin_object ∷ rest → ⊥) → SpellsNone text
no_object_text text other = none_spelled (scenario_of_text text) (go (tokens text) other)
  where
    go : (ts : List Token) → ((rest : List Token) → ts ≡ Token.begin_object ∷ rest → ⊥) → option_and_then scenario (whole (json.value max_depth ts)) ≡ None
    go [] never = ap (λ o. option_and_then scenario (whole o)) (value_is max_depth [])
    go (Token.begin_object ∷ ts) never = absurd (never ts refl)
    go (Token.end_object ∷ ts) never = ap (λ o. option_and_then scenario (whole o)) (value_is max_depth _)
    go (Token.begin_array ∷ ts) never =
        ap (λ o. option_and_then scenario (whole o)) (value-begin_array max_depth ts (omega arith)) ∙ of_array (json.items (json.value 126) (length ts) ts)
    go (Token.end_array ∷ ts) never = ap (λ o. option_and_then scenario (whole o)) (value_is max_depth _)
    go (Token.key s ∷ ts) never = ap (λ o. option_and_then scenario (whole o)) (value_is max_depth _)
    go (Token.string s ∷ ts) never = ap (λ o. option_and_then scenario (whole o)) (value_is max_depth _) ∙ alone (json.string s) (λ found e. cc) ts
    go (Token.number s ∷ ts) never = ap (λ o. option_and_then scenario (whole o)) (value_is max_depth _) ∙ alone (json.number s) (λ found e. cc) ts
    go (Token.boolean b ∷ ts) never = ap (λ o. option_and_then scenario (whole o)) (value_is max_depth _) ∙ alone (json.boolean b) (λ found e. cc) ts
    go (Token.null ∷ ts) never = ap (λ o. option_and_then scenario (whole o)) (value_is max_depth _) ∙ alone json.null (λ found e. cc) ts
    go (Token.bad ∷ ts) never = ap (λ o. option_and_then scenario (whole o)) (value_is max_depth _)

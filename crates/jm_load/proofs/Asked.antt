-- A core of the decoded rows holds messages, and no subscription of it has a selector that is refused.
use Rattle.std.proofs.Common.{◌≡◌, ◌∙◌, inl, inr, ℕ, pos, Bool, true, false, cond, List, [], ◌∷◌, Option, None, Some, IfOk, IfSome, Result, Ok, Err, refl, sym, ap, subst}
use Rattle.std.specs.Prelude.{is_none}
use Rattle.std.specs.List.{AllByRecursion}
use Rattle.std.specs.Ordering.{int_eq}
use Rattle.std.specs.Str.{is_utf8}
use Rattle.std.proofs.lemmas.Bool.{and_parts, or_cases}
use Rattle.sqlite_value.specs.Order.{Row, bytes, column}
use Rattle.sqlite_rules.specs.Edit.{id_in}
use Rattle.jm_dest.specs.declared.key.Key.{Key}
use Rattle.jm_dest.specs.declared.key.Key.TheVariants.{Queue, Durable}
use Rattle.jm_lexer.specs.declared.fault.SyntaxFault.{SyntaxFault}
use Rattle.jm_tree.specs.declared.tree.Tree.{Tree}
use Rattle.jm_selector.specs.Selectors.{read_refusal, selector_read, selector_refusal, standing}
use Rattle.jm_machine.specs.declared.state.Definition.{Definition}
use Rattle.jm_machine.specs.Reopened.{is_durable}
use Rattle.jm_holds.specs.Holds.{HoldsMessages}
use Rattle.jm_plans.specs.Provider.{Provider, state_of}
use Rattle.jm_tables.specs.Keys.{client_in, key_of, queue_in}
use Rattle.jm_tables.specs.Rows.{definition_in, selector_in}
use Rattle.jm_tables.specs.Valid.{is_queue, is_subscription}
use Rattle.jm_opening.specs.declared.judged.OpenFault.{OpenFault}
use Rattle.jm_decoding.specs.declared.station.StationRow.{StationRow}
use Rattle.jm_decoding.specs.declared.message.MessageRow.{MessageRow}
use Rattle.jm_decoding.specs.Decoded.{IsStationOf, IsMessageOf}
use Rattle.jm_decoding.specs.Tables.{StandFor}
use Rattle.jm_loading.specs.Holds.{HasMessage, HasSelector}
use Rattle.jm_load.specs.declared.decoding.Decoded.{Decoded}
use Rattle.jm_load.specs.declared.reading.TableRows.{TableRows}
use Rattle.jm_load.specs.Loaded.{IsDecodedOf}

messages_have : (rows : List Row) (ms : List MessageRow) → StandFor IsMessageOf rows ms → AllByRecursion HasMessage ms
messages_have [] [] h = tt
messages_have [] (m ∷ ms) h = absurd h
messages_have (r ∷ rows) [] h = absurd h
messages_have (r ∷ rows) (m ∷ ms) h = (h.0.record_is.message, messages_have rows ms h.1)

-- a text that is not refused is not refused as it stands
stands : (text : List ℕ) → is_none (selector_refusal (Some text)) ≡ true → selector_refusal (selector_in text) ≡ None
unfolding selector_refusal
stands text h = go (selector_read (Some text)) refl h
  where
    go : (r : Result (Option Tree) SyntaxFault) → selector_read (Some text) ≡ r → is_none (read_refusal r) ≡ true → read_refusal (selector_read (standing (Some text) r)) ≡ None
    go (Ok None) is e = refl
    go (Ok (Some tree)) is e = ap read_refusal is
    go (Err fault) is e = cc

queue_lasts : (c n : List ℕ) (k : Key) → queue_in c n ≡ Some k → is_durable k ≡ true → ⊥
queue_lasts [] n k e durable = let same : Queue n ≡ k = cc in let no : false ≡ true = ap is_durable same ∙ durable in cc
queue_lasts (byte ∷ more) n k e durable = cc

chosen : (r : Row) (k : Key) → is_queue r ≡ true → key_of r ≡ Some k → is_durable k ≡ true → ⊥
chosen r k queue is durable =
    let family : int_eq (id_in (column r 1)) (pos 1) ≡ true = (and_parts _ _ (and_parts _ _ (and_parts _ _ (and_parts _ _ (and_parts _ _ (and_parts _ _ queue).0).0).0).0).0).0 in
    queue_lasts (bytes (column r 2)) (bytes (column r 3)) k
    (sym (ap (λ b. cond b (queue_in (bytes (column r 2)) (bytes (column r 3))) (cond (int_eq (id_in (column r 1)) (pos 2)) (Some (Durable (client_in (bytes (column r 2))) (bytes (column r 3)))) None)) family) ∙ is) durable

text_stands : (r : Row) → is_subscription r ≡ true → selector_refusal (selector_in (bytes (column r 6))) ≡ None
text_stands r h =
    let p6 = and_parts _ _ h in
    let p5 = and_parts _ _ p6.0 in
    stands (bytes (column r 6)) (and_parts (is_utf8 (bytes (column r 6))) (is_none (selector_refusal (Some (bytes (column r 6))))) p5.1).1

has_selector : (r : Row) (x : StationRow) → IsStationOf r x → HasSelector x
has_selector r x is = subst (λ (o : Option Definition). IfSome o (λ d. selector_refusal d.selector ≡ None)) (sym is.definition_is) (go (is_durable x.key) refl)
  where
    go : (b : Bool) → is_durable x.key ≡ b → IfSome (cond b (Some (definition_in r)) None) (λ d. selector_refusal d.selector ≡ None)
    go false e = tt
    go true e = elim (or_cases (is_queue r) (is_subscription r) is.readable.station) [
      | inl queue ↦ absurd (chosen r x.key queue is.key_is e)
      | inr durable ↦ text_stands r durable
    ]

selectors_have : (rows : List Row) (ss : List StationRow) → StandFor IsStationOf rows ss → AllByRecursion HasSelector ss
selectors_have [] [] h = tt
selectors_have [] (s ∷ ss) h = absurd h
selectors_have (r ∷ rows) [] h = absurd h
selectors_have (r ∷ rows) (s ∷ ss) h = (has_selector r s h.0, selectors_have rows ss h.1)

pub holds_ok : (rows : TableRows) (d : Decoded) (r : Result Provider OpenFault) → IsDecodedOf rows d → IfOk r (λ core. AllByRecursion HasMessage d.messages.items → AllByRecursion HasSelector d.stations.items → HoldsMessages (state_of core))
    → IfOk r (λ core. HoldsMessages (state_of core))
holds_ok rows d (Ok core) is h = h (messages_have rows.messages.items d.messages.items is.messages) (selectors_have rows.stations.items d.stations.items is.stations)
holds_ok rows d (Err fault) is h = tt

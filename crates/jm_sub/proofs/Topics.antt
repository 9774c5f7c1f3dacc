-- How many topics the subscriptions have, counted from the last.
use Rattle.std.proofs.Common.{◌≡◌, ◌+◌, ℕ, zero, suc, Bool, true, false, cond, arith, List, [], ◌∷◌, Some, refl, sym, ap, ◌∙◌, add-one, drop}
use Rattle.std.specs.Prelude.{map, slice_get}
use Rattle.std.specs.Set.{distinct_count, is_member}
use Rattle.jm_dest.specs.Names.{text_eq}
use Rattle.jm_dest.specs.declared.key.Key.{Key}
use Rattle.jm_machine.specs.declared.state.Definition.{Definition}
use Rattle.jm_sub.specs.Entries.{subscriptions_of, topics_of}

-- the topics are those of the subscriptions
pub topics_listed : (es : List (Key × Definition)) → topics_of es ≡ map (λ s. s.definition.topic) (subscriptions_of es)
topics_listed [] = refl
topics_listed (e ∷ es) = ap (λ ts. e.1.topic ∷ ts) (topics_listed es)

-- the entry at a place, and those behind it
next_dropped : (es : List (Key × Definition)) (at : ℕ) (e : Key × Definition) → slice_get es at ≡ Some e → drop at es ≡ e ∷ drop (suc at) es
next_dropped [] at e is = cc
next_dropped (x ∷ es) zero e is = let same : x ≡ e = cc in ap (λ y. y ∷ es) same
next_dropped (x ∷ es) (suc at) e is = next_dropped es at e is

pub dropped_next : (es : List (Key × Definition)) (at : ℕ) (e : Key × Definition) → slice_get es at ≡ Some e → drop at es ≡ e ∷ drop (at + 1) es
dropped_next es at e is = next_dropped es at e is ∙ ap (λ n. e ∷ drop n es) (sym (add-one at))

-- the topics from a place on are one more than those behind it, where none behind has its topic
pub count_next : (es : List (Key × Definition)) (at : ℕ) (e : Key × Definition) → slice_get es at ≡ Some e → (b : Bool) → is_member text_eq (topics_of (drop (at + 1) es)) e.1.topic ≡ b →
    distinct_count text_eq (topics_of (drop at es)) ≡ cond b 0 1 + distinct_count text_eq (topics_of (drop (at + 1) es))
count_next es at e is b there = ap (λ xs. distinct_count text_eq (topics_of xs)) (dropped_next es at e is) ∙ by b there
  where
    by : (b : Bool) → is_member text_eq (topics_of (drop (at + 1) es)) e.1.topic ≡ b →
        distinct_count text_eq (e.1.topic ∷ topics_of (drop (at + 1) es)) ≡ cond b 0 1 + distinct_count text_eq (topics_of (drop (at + 1) es))
    by true later = rw later (omega arith)
    by false last = rw last (omega arith)

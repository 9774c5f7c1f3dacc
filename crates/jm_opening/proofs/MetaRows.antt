-- What the query of meta shows, and that it commits nothing.
use Rattle.std.proofs.Common.{◌≡◌, ◌⊎◌, inl, inr, ℕ, Bool, true, false, IsTrue, List, [], ◌∷◌, map, flat_map, codes, Option, None, Some, Result, Ok, Err, IfOk, refl, sym, ap, subst, ◌∙◌}
use Rattle.std.specs.List.Sorted.{IsPermutation}
use Rattle.std.proofs.lemmas.List.Sorted.{IsPermutation-map}
use Rattle.sqlite_value.specs.declared.value.Value.TheVariants.{Null}
use Rattle.sqlite_value.specs.Order.{Row}
use Rattle.sqlite.specs.Term.{Env, eval_all}
use Rattle.sqlite.specs.Query.{IsAnswer, Output, output, matches}
use Rattle.sqlite.specs.Program.{overlay}
use Rattle.sqlite.specs.Command.TheVariants.{Select}
use Rattle.sqlite.specs.Schema.{Schema}
use Rattle.sqlite.specs.State.{State, Shown, ShowsRows, FailsToQuery, FailsToShow, IsNotRun, IsTooLate, KeepsCommit, IsUnchanged, IsRolledBack}
use Rattle.sqlite.specs.Clock.{timed}
use Rattle.sqlite.specs.Listing.{understood, reads_listing}
use Rattle.sqlite.specs.declared.error.Error.{Error}
use Rattle.sqlite.proofs.Callers.{command_of, reads_as, IsPlain}
use Rattle.sqlite_schema.specs.declared.command.Returning.{Returning}
use Rattle.sqlite_trees.proofs.ListLemmas.{map-map}
use Rattle.jm_tables.specs.Schema.{schema, schema_1, schema_1_bare, meta_tree}
use Rattle.jm_opening.specs.Meta.{select_text, meta_shown}
use Rattle.jm_opening.specs.Opened.{IsOfStore}
use Rattle.jm_opening.proofs.Texts.{over, select_shows, select_is, select_plain, select_unlisted, select_1_is, select_1_plain, select_1_unlisted, select_bare_is, select_bare_plain, select_bare_unlisted}

found : (all : List Row) → map (λ (env : Env). eval_all select_shows env) (flat_map (λ r. ([] ∷ r ∷ []) ∷ []) all) ≡ map meta_shown all
found [] = refl
found (r ∷ all) = ap (λ l. meta_shown r ∷ l) (found all)

shown_of : (old new : State) (rows : List Row) (s : Schema) → old.now.schema ≡ s → command_of (understood s select_text) ≡ Select (record { lets = []; body = over 0 [] select_shows }) (codes "id" ∷ codes "version" ∷ codes "opening" ∷ [])
    → IsPlain (understood s select_text) → reads_listing s select_text ≡ false → Shown select_text [] old new rows → IsPermutation (map meta_shown (old.now.trees meta_tree)) rows
shown_of old new rows s has is plain unlisted h =
    let q = over 0 [] select_shows in
    let a : IsAnswer q (overlay old.now.trees []) [] rows =
    (reads_as select_text [] old new s has (Select (record { lets = []; body = q }) (codes "id" ∷ codes "version" ∷ codes "opening" ∷ [])) is plain unlisted rows h).answer Null in
    let kept : a.kept ≡ map (output q) (matches (overlay old.now.trees []) q.filter q.from ([] ∷ [])) = a.distinct ∙ ap (map (output q)) a.grouped in
    let first : map (λ (o : Output). o.1) a.kept ≡ map meta_shown (old.now.trees 0) =
    ap (map (λ (o : Output). o.1)) kept ∙ map-map (λ (o : Output). o.1) (output q) (matches (overlay old.now.trees []) q.filter q.from ([] ∷ [])) ∙ found (old.now.trees 0) in
    let shown : rows ≡ map (λ (o : Output). o.1) a.ordered = a.shown in
    subst (λ l. IsPermutation l rows) first (subst (IsPermutation (map (λ (o : Output). o.1) a.kept)) (sym shown) (IsPermutation-map (λ (o : Output). o.1) a.kept a.ordered a.same))

pub shown_meta : (old new : State) (rows : List Row) → IsOfStore old.now.schema → Shown select_text [] old new rows → IsPermutation (map meta_shown (old.now.trees meta_tree)) rows
shown_meta old new rows (inl has) h = shown_of old new rows schema has select_is select_plain select_unlisted h
shown_meta old new rows (inr (inl has)) h = shown_of old new rows schema_1 has select_1_is select_1_plain select_1_unlisted h
shown_meta old new rows (inr (inr has)) h = shown_of old new rows schema_1_bare has select_bare_is select_bare_plain select_bare_unlisted h

unchanged_keeps : (old new : State) → IsUnchanged old new → KeepsCommit old new
unchanged_keeps old new h = record { was_open = λ _. h.0.was_open; committed = λ _. h.0.committed_is }

back_keeps : (old new : State) → IsRolledBack old new → KeepsCommit old new
back_keeps old new h = record { was_open = h.was_open; committed = λ k. (h.undone k).1 }

pub shown_keeps : (sql : List ℕ) (params : Row) (old new : State) (rows : List Row) → IsTrue old.in_transaction → Shown sql params old new rows → KeepsCommit old new
unfolding Shown
shown_keeps sql params old new rows within h = go h.0.returning h.2
  where
    go : (what : Option Returning) → ShowsRows old new sql h.0 (timed params h.0.formats h.1.now) rows what → KeepsCommit old new
    go None k = unchanged_keeps old new k.3
    go (Some what) k = record { was_open = λ _. k.1.shown.was_open; committed = λ _. rw within at k.1.shown.committed_is }

pub fails_keeps : (sql : List ℕ) (params : Row) (old new : State) (e : Error) → FailsToQuery sql params old new e → KeepsCommit old new
unfolding FailsToQuery IsNotRun
fails_keeps sql params old new e (inl (inl h)) = unchanged_keeps old new h.1
fails_keeps sql params old new e (inl (inr h)) = back_keeps old new h.3
fails_keeps sql params old new e (inr h) = go h.0.returning h.2
  where
    go : (what : Option Returning) → FailsToShow old new sql h.0 (timed params h.0.formats h.1.now) e what → KeepsCommit old new
    go None k = unchanged_keeps old new k.3
    go (Some what) (inl k) = unchanged_keeps old new k.1
    go (Some what) (inr k) = back_keeps old new k.3

pub asks_keeps : {X : Type 0} (shows : X → List Row) (sql : List ℕ) (params : Row) (old new : State) (r : Result X Error) → IsTrue old.in_transaction → IfOk r (λ rows. Shown sql params old new (shows rows))
    → Rattle.std.proofs.Common.IfErr r (λ e. FailsToQuery sql params old new e ⊎ IsTooLate sql params old new e) → KeepsCommit old new
asks_keeps shows sql params old new (Ok x) within h k = shown_keeps sql params old new (shows x) within h
asks_keeps shows sql params old new (Err e) within h (inl k) = fails_keeps sql params old new e k
asks_keeps shows sql params old new (Err e) within h (inr k) = absurd (let in_one = within in let out = k.3 in cc)

pub if_ok_then : {X E : Type 0} (r : Result X E) (P Q : X → Type 0) → IfOk r P → ((x : X) → P x → Q x) → IfOk r Q
if_ok_then (Ok x) P Q p f = f x p
if_ok_then (Err e) P Q p f = tt

pub undone_to : (begun mid new : State) → KeepsCommit begun mid → IsRolledBack mid new → IsTrue new.is_open → (new.now ≡ begun.committed) × (new.committed ≡ begun.committed)
undone_to begun mid new kept back live = ((back.undone live).0 ∙ kept.committed (back.was_open live), (back.undone live).1 ∙ kept.committed (back.was_open live))

-- What a query of one table answers.
use Rattle.std.proofs.Common.{◌≡◌, ℕ, List, [], ◌∷◌, map, flat_map, refl, sym, ap, subst, ◌∙◌, IsPermutation, IsSorted}
use Rattle.std.proofs.lemmas.List.Sorted.{IsPermutation-map}
use Rattle.sqlite_value.specs.Order.{Row}
use Rattle.sqlite_value.specs.declared.keys.Key.{Key}
use Rattle.sqlite.specs.Term.{Term}
use Rattle.sqlite.specs.Query.{Query, IsAnswer, Output, output, output_cmp, matches}
use Rattle.sqlite.specs.Program.{overlay}
use Rattle.sqlite_trees.specs.Tree.{Trees}
use Rattle.sqlite_trees.proofs.ListLemmas.{map-map}
use Rattle.jm_queries.proofs.Texts.{over}

-- what the query makes of a row
abbrev pub out : Query → Row → Output
out q r = output q ([] ∷ r ∷ [])

found : (q : Query) (all : List Row) → map (output q) (flat_map (λ r. ([] ∷ r ∷ []) ∷ []) all) ≡ map (out q) all
found q [] = refl
found q (r ∷ all) = ap (λ l. out q r ∷ l) (found q all)

-- the rows are those of the table, in the order of the query
pub record IsShownBy (q : Query) (all rows : List Row) : Type 0 where
  pub ordered : List Output
  pub same : IsPermutation (map (out q) all) ordered
  pub sorted : IsSorted (output_cmp q) ordered
  pub shown : rows ≡ map (λ (o : Output). o.1) ordered

pub shown_by : (tree : ℕ) (shows : List Term) (order : List (Term × Key)) (db : Trees) (rows : List Row) → overlay db [] tree ≡ db tree → IsAnswer (over tree shows order) (overlay db []) [] rows
    → IsShownBy (over tree shows order) (db tree) rows
shown_by tree shows order db rows here a =
    let q = over tree shows order in
    let kept : a.kept ≡ map (output q) (matches (overlay db []) q.filter q.from ([] ∷ [])) = a.distinct ∙ ap (map (output q)) a.grouped in
    let all : a.kept ≡ map (out q) (db tree) = kept ∙ found q (overlay db [] tree) ∙ ap (map (out q)) here in
    record { ordered = a.ordered; same = subst (λ l. IsPermutation l a.ordered) all a.same; sorted = a.sorted; shown = a.shown }

pub same_rows : (q : Query) (all rows : List Row) → IsShownBy q all rows → IsPermutation (map (λ r. (out q r).1) all) rows
same_rows q all rows a =
    subst (IsPermutation (map (λ r. (out q r).1) all)) (sym a.shown)
    (subst (λ l. IsPermutation l (map (λ (o : Output). o.1) a.ordered)) (map-map (λ (o : Output). o.1) (out q) all) (IsPermutation-map (λ (o : Output). o.1) (map (out q) all) a.ordered a.same))

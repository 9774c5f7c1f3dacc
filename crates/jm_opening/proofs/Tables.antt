-- A store that is not broken has tables.
use Rattle.std.proofs.Common.{◌≡◌, sym, subst, Result, IfOk, IfErr, Ok, Err}
use Rattle.sqlite.specs.Tree.{Trees, rowid}
use Rattle.sqlite.specs.Effect.{Database, IsDatabase}
use Rattle.sqlite_catalog.specs.Listing.{IsSound}
use Rattle.sqlite_catalog.proofs.LayoutLemmas.{laid_out, objects_rise}
use Rattle.sqlite_trees.specs.View.{View, IsOrdered, IsShaped, is_int}
use Rattle.sqlite_trees.specs.Objects.{IsListed, catalog_tree}
use Rattle.sqlite_trees.specs.declared.store.Shape.TheVariants as shape
use Rattle.sqlite_rules.proofs.ListLemmas.{test_from, all_has, all_from}
use Rattle.jm_tables.specs.Sound.{AreRows}
use Rattle.jm_opening.specs.Opened.{AreTables}

pub are_rows : (v : View) (db : Database) → IsDatabase db → db.trees ≡ v.trees → IsListed (v.trees catalog_tree) v.shape v.reals → IsOrdered v.shape v.trees → AreTables db
are_rows v db sound same listed ordered =
    let lists = (subst (IsSound db.schema) same sound).lists.listed in
    let laid = laid_out listed (objects_rise v listed ordered) lists in
    all_from (λ t. AreRows (db.trees t.tree)) db.schema.tables (λ t h.
    let is : IsShaped shape.Table (v.trees t.tree) = subst (λ s. IsShaped s (v.trees t.tree)) (all_has _ db.schema.tables t laid.tables h) (ordered t.tree) in
    subst (λ (x : Trees). AreRows (x t.tree)) (sym same) (record { rise = is.0; numbered = test_from (λ r. is_int (rowid r)) (v.trees t.tree) (λ r k. all_has _ (v.trees t.tree) r is.1 k) }))

pub if_ok : {X E : Type 0} (r : Result X E) (P Q R T : X → Type 0) → IfOk r P → IfOk r Q → IfOk r R → ((x : X) → P x → Q x → R x → T x) → IfOk r T
if_ok (Ok x) P Q R T p q s f = f x p q s
if_ok (Err e) P Q R T p q s f = tt

pub if_err_then : {X E : Type 0} (r : Result X E) (P Q R : E → Type 0) → IfErr r P → IfErr r Q → ((e : E) → P e → Q e → R e) → IfErr r R
if_err_then (Ok x) P Q R p q f = tt
if_err_then (Err e) P Q R p q f = f e p q

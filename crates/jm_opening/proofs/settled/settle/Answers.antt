use Rattle.std.proofs.Common.{◌≡◌, inl, inr, IsTrue, false, ◌∙◌, ap, sym, subst, arith, rules}
use Rattle.std.proofs.lemmas.Bool.{cases_Bool}
use Rattle.sqlite.specs.Effect.{Database}
use Rattle.sqlite.specs.Held.{state}
use Rattle.sqlite_trees.specs.View.{IsClean}
use Rattle.jm_opening.proofs.Tables.{are_rows, if_ok, if_err_then}
use Rattle.jm_opening.proofs.settled.settle.Goals as goal

pub returns-clause-tables : goal.returns-clause-tables
returns-clause-tables g c =
    let store = c.into_store-store.result in
    if_ok c.over.result _ _ _ _ c.over.ensures.opens c.over.ensures.trees c.over.ensures.clean (λ conn opens trees falls clean.
    let was : IsClean (g.S.Store.view store) = omega (arith, falls, clean) in
    let unbroken : (g.S.Store.view store).is_broken ≡ false = search rules in
    let live = opens clean in
    (are_rows (g.S.Store.view store) _ (live.1 live.0.is_open).0 (trees clean) (g.met.S.Alter.listed store unbroken) (g.met.S.Store.ordered store unbroken), (live.1 live.0.is_open).0, live.0))

pub returns-clause-same : goal.returns-clause-same
returns-clause-same g c =
    let store = c.into_store-store.result in
    if_ok c.over.result _ _ _ _ c.over.ensures.opens c.over.ensures.trees c.over.ensures.clean (λ conn opens trees falls clean.
    let was : IsClean (g.S.Store.view store) = omega (arith, falls, clean) in
    let unbroken : (g.S.Store.view store).is_broken ≡ false = search rules in
    let live : IsTrue (g.S.Store.view store).is_open = elim (cases_Bool (g.S.Store.view store).is_open) [ inl h ↦ h | inr h ↦ absurd (let broken = g.met.S.Store.broken_if_shut store h in cc) ] in
    trees clean ∙ (c.into_store-store.ensures.undone.undone live).0)

pub returns-clause-refused : goal.returns-clause-refused
returns-clause-refused g c =
    let store = c.into_store-store.result in
    if_err_then c.over.result _ _ _ c.over.ensures.rows c.over.ensures.unharmed (λ left same quiet clean stays.
    let was : IsClean (g.S.Store.view store) = omega (arith, quiet.clean, clean) in
    let unbroken : (g.S.Store.view store).is_broken ≡ false = search rules in
    let live : IsTrue (g.S.Store.view store).is_open = elim (cases_Bool (g.S.Store.view store).is_open) [ inl h ↦ h | inr h ↦ absurd (let broken = g.met.S.Store.broken_if_shut store h in cc) ] in
    same clean stays ∙ (c.into_store-store.ensures.undone.undone live).0)

pub returns-clause-stop : goal.returns-clause-stop
returns-clause-stop g c =
    let store = c.into_store-store.result in
    let undone = c.into_store-store.ensures.undone in
    if_ok c.over.result _ _ _ _ c.over.ensures.opens c.over.ensures.trees c.over.ensures.clean (λ conn opens trees falls clean db left.
    let was : IsClean (g.S.Store.view store) = omega (arith, falls, clean) in
    let unbroken : (g.S.Store.view store).is_broken ≡ false = search rules in
    let live : IsTrue (g.S.Store.view store).is_open = elim (cases_Bool (g.S.Store.view store).is_open) [ inl h ↦ h | inr h ↦ absurd (let broken = g.met.S.Store.broken_if_shut store h in cc) ] in
    let shows = ap (λ (d : Database). d.trees) (opens clean).0.clean in
    let is = g.met.S.Store.settled conn.store db (opens clean).0.is_open left ∙ sym shows ∙ trees clean ∙ (undone.undone live).0 in
    subst (state g.S.Store c.args.conn).may_leave (sym is) (g.met.S.Store.stays c.args.conn.store ((undone.kept was).was_open live)))

pub returns-clause-unharmed : goal.returns-clause-unharmed
returns-clause-unharmed g c = if_err_then c.over.result _ _ _ c.over.ensures.unharmed c.over.ensures.unharmed (λ left quiet _ db h. c.into_store-store.ensures.quiet.outcomes db (quiet.outcomes db h))

-- One change more, after all before it.
use Rattle.std.proofs.Common.{◌≡◌, ℕ, ◌+◌, ◌<◌, List, [], ◌∷◌, ◌++◌, length, take, get_or, refl, sym, ap, subst, ◌∙◌, add-one}
use Rattle.std.proofs.Math.Seq.{take-suc}
use Rattle.std.proofs.Common.{inl, inr, arith, true, false, Result, Ok, Err, OnOk, IsTrue}
use Rattle.sqlite.specs.Effect.{Database}
use Rattle.sqlite.specs.State.{State, HasCleanDisk, KeepsCommit, KeepsCounts, Shows, Survives}
use Rattle.sqlite.specs.declared.error.Error.{Error}
use Rattle.jm_keep.specs.Stored.{Stored, changed, changed_all}
use Rattle.jm_keep.specs.declared.change.RowChange.{RowChange}
use Rattle.jm_tables.specs.Rows.{stored_in}
use Rattle.jm_tables.specs.Schema.{meta_tree}
use Rattle.sqlite_trees.specs.Tree.{Trees}
use Rattle.jm_tables.specs.Sound.{Serves}
use Rattle.jm_writes.specs.Own.{HasOwnRows}
use Rattle.jm_writes.specs.Steps.{HasChanges, Steps, Walks}

one_more : (s : Stored) (changes : List RowChange) (change : RowChange) → changed_all s (changes ++ change ∷ []) ≡ changed (changed_all s changes) change
one_more s [] change = refl
one_more s (first ∷ changes) change = one_more (changed s first) changes change

pub walked : (old mid new : State) (changes : List RowChange) (change : RowChange) → Walks old mid changes → Steps mid new change → Walks old new (changes ++ change ∷ [])
walked old mid new changes change w st = record {
  serves = st.serves;
  holds = record {
    stored_is = st.holds.stored_is ∙ ap (λ s. changed s change) w.holds.stored_is ∙ sym (one_more (stored_in old.now.trees) changes change);
    opening = st.holds.opening ∙ w.holds.opening;
  };
  own = λ o. st.own (w.own o);
  shown = record { was_open = w.shown.was_open; is_open = st.shown.is_open; now_is = st.shown.now_is; committed_is = st.shown.committed_is ∙ w.shown.committed_is; mode = st.shown.mode };
}

pub walked_next : (old mid new : State) (changes : List RowChange) (i : ℕ) (change : RowChange) → i < length changes → change ≡ get_or changes i change → Walks old mid (take i changes) → Steps mid new change → Walks old new (take (i + 1) changes)
walked_next old mid new changes i change within is w st =
    subst (Walks old new) (sym (ap (λ n. take n changes) (add-one i) ∙ take-suc changes i change within ∙ ap (λ x. take i changes ++ x ∷ []) (sym is))) (walked old mid new (take i changes) change w st)

pub keeps_on : (old mid new : State) → KeepsCommit old mid → KeepsCommit mid new → KeepsCommit old new
keeps_on old mid new p q = record { was_open = λ live. p.was_open (q.was_open live); committed = λ live. q.committed live ∙ p.committed (q.was_open live) }

pub survives_on : (old mid new : State) → Survives old mid (λ _. ⊥) → Survives mid new (λ _. ⊥) → Survives old new (λ _. ⊥)
survives_on old mid new p q = record {
  clean = omega (arith, p.clean, q.clean);
  shield = λ h. q.shield (p.shield h);
  counts = omega (arith, p.counts, q.counts);
  limit = q.limit ∙ p.limit;
  closes = λ clean live. let early : HasCleanDisk mid = omega (arith, q.clean, clean) in elim (p.closes early live) [
    | inl open_still ↦ elim (q.closes clean open_still) [ inl last ↦ inl last | inr more ↦ inr (omega (arith, p.counts, more)) ]
    | inr more ↦ inr (omega (arith, q.counts, more))
  ];
  crash = λ clean db leaves. let early : HasCleanDisk mid = omega (arith, q.clean, clean) in elim (q.crash clean db leaves) [ inl left ↦ p.crash early db left | inr none ↦ absurd none ];
}

-- a transaction begins
abbrev pub begun : State → State
begun old = record old { in_transaction = true }

-- what a commit of the walk may leave has all the changes
left_by : (old mid : State) (changes : List RowChange) (db : Trees) → Walks (begun old) mid changes → db ≡ mid.now.trees → HasChanges changes old.now.trees db
left_by old mid changes db w is = record {
  holds = record { stored_is = ap stored_in is ∙ w.holds.stored_is; opening = ap (λ (t : Trees). t meta_tree) is ∙ w.holds.opening };
  ours = λ own. record { database = mid.now; same = sym is; serves = w.serves; own = subst HasOwnRows (sym is) (w.own own) };
}

-- a walk, and its commit
pub survives_commit : (old mid new : State) (changes : List RowChange) → Survives (begun old) mid (λ _. ⊥) → (HasCleanDisk mid → IsTrue old.is_open → Serves old.now → Walks (begun old) mid changes)
    → Survives mid new (λ db. db ≡ mid.now.trees) → Survives old new (λ db. IsTrue old.is_open → Serves old.now → HasChanges changes old.now.trees db)
survives_commit old mid new changes p walked q = record {
  clean = omega (arith, p.clean, q.clean);
  shield = λ h. q.shield (p.shield h);
  counts = omega (arith, p.counts, q.counts);
  limit = q.limit ∙ p.limit;
  closes = λ clean live. let early : HasCleanDisk mid = omega (arith, q.clean, clean) in elim (p.closes early live) [
    | inl open_still ↦ elim (q.closes clean open_still) [ inl last ↦ inl last | inr more ↦ inr (omega (arith, p.counts, more)) ]
    | inr more ↦ inr (omega (arith, q.counts, more))
  ];
  crash = λ clean db leaves. let early : HasCleanDisk mid = omega (arith, q.clean, clean) in elim (q.crash clean db leaves) [
    | inl left ↦ elim (p.crash early db left) [ inl before ↦ inl before | inr none ↦ absurd none ]
    | inr is ↦ inr (λ live serves. left_by old mid changes db (walked early live serves) is)
  ];
}

-- after a commit nothing else may be left
pub commit_leaves : {X : Type 0} (old mid new : State) (changes : List RowChange) (r : Result X Error) → Walks (begun old) mid changes → ((db : Trees) → IsTrue new.is_open → new.may_leave db → db ≡ new.committed.trees)
    → OnOk r (IsTrue mid.in_transaction × Shows mid new mid.now mid.now false × KeepsCounts mid new × (new.marks ≡ [])) → OnOk r ((db : Trees) → new.may_leave db → HasChanges changes old.now.trees db)
commit_leaves old mid new changes (Ok x) w settled is = λ db left. left_by old mid changes db w (settled db is.1.is_open left ∙ ap (λ (d : Database). d.trees) is.1.committed_is)
commit_leaves old mid new changes (Err e) w settled is = tt

use Rattle.std.proofs.Common.{◌≡◌, ℕ, ◌+◌, ◌<◌, ◌∙◌, sym, ap, refl, subst, arith, List, length, get_or, slice_get, Bool}
use Rattle.std.proofs.lemmas.Option.{slice_get_read, get_or_from_slice_get}
use Rattle.jm_audit.specs.Audit.{Segment, segment, pass_at, Stands}
use Rattle.jm_audit.specs.Marks.{IsGood, IsBad}
use Rattle.jm_audit.specs.Passes.{Calls, no_calls}
use Rattle.jm_audit.specs.declared.pass.PassEntry.{PassEntry}
use Rattle.jm_audit.proofs.Auditing.{Going, over, good, bad, closes_fit, closes_marks}
use Rattle.jm_audit.proofs.audit.first_bad.Goals as goal
use Rattle.jm_audit.proofs.audit.first_bad.Goals.{in-Over, in-Good}

-- the element that was read is the pass
pass_is : (passes : List Calls) (i : ℕ) (x : Calls) → i < length passes → x ≡ get_or passes i x → x.entries ≡ pass_at passes i
pass_is passes i x less is = ap (λ (c : Calls). c.entries) (sym (get_or_from_slice_get passes i x no_calls (slice_get_read passes (length passes) i x refl less is)))

-- the entry that was read stands there
stands_here : (passes : List Calls) (i j : ℕ) (es : List PassEntry) (e : PassEntry) → es ≡ pass_at passes i → j < length es → e ≡ get_or es j e → Stands passes i j e
stands_here passes i j es e is less at = ap (λ x. slice_get x j) (sym is) ∙ slice_get_read es (length es) j e refl less at

moved : (s : Segment) (passes : List Calls) (i j : ℕ) (marks marks' : List Bool) (floor floor' : ℕ) → marks' ≡ marks → floor' ≡ floor → Going s passes i j marks floor → Going s passes i j marks' floor'
moved s passes i j marks marks' floor floor' p q g =
    let A : List Bool → Type 0 = λ x. Going s passes i j x floor' in
    let B : ℕ → Type 0 = λ x. Going s passes i j marks x in
    subst A (sym p) (subst B (sym q) g)

good_marks : (s : Segment) (marks marks' : List Bool) (floor at : ℕ) (e : PassEntry) → marks ≡ marks' → IsGood s marks floor at e → IsGood s marks' floor at e
good_marks s marks marks' floor at e p h = let A : List Bool → Type 0 = λ x. IsGood s x floor at e in subst A p h

bad_marks : (s : Segment) (marks marks' : List Bool) (floor : ℕ) (e : PassEntry) → marks ≡ marks' → IsBad s marks floor e → IsBad s marks' floor e
bad_marks s marks marks' floor e p h = let A : List Bool → Type 0 = λ x. IsBad s x floor e in subst A p h

pub loop-j-preserved : goal.loop-j-preserved
loop-j-preserved g c =
    let s = segment c.args.first c.args.events.now c.args.is_last in
    let passes = c.args.passes.now in
    let es = c.entries-entries.ensures ∙ pass_is passes c.args.i c.index-passes-i.result c.requires.place c.index-passes-i.is in
    let st = stands_here passes c.args.i c.loop-j.j c.entries-entries.result.now c.index-entries-j.result es (omega arith) c.index-entries-j.is in
    let inv = c.loop-j.invariant in
    elim c.match-judge.branch [
      | in-Over w ↦
          (let old = over s passes c.args.i c.loop-j.j c.loop-j.marks.items c.loop-j.floor c.index-entries-j.result inv st w.in-Over.ensures in
          moved s passes c.args.i (c.loop-j.j + 1) _ _ _ _ (ap (λ v. v.items) w.marks-is) w.floor-is old)
      | in-Good w ↦
          (let is_good = good_marks s c.as_slice.result.now c.loop-j.marks.items c.loop-j.floor w.in-Good.at c.index-entries-j.result c.as_slice.ensures.value w.in-Good.ensures in
          let old = good s passes c.args.i c.loop-j.j c.loop-j.marks.items c.loop-j.floor w.in-Good.at c.index-entries-j.result inv st is_good in
          moved s passes c.args.i (c.loop-j.j + 1) _ _ _ _ (ap (λ v. v.items) w.marks-is ∙ w.set_mark.ensures) w.floor-is old)
    ]

pub returns-in-Bad-clause-bad : goal.returns-in-Bad-clause-bad
returns-in-Bad-clause-bad g c =
    let s = segment c.args.first c.args.events.now c.args.is_last in
    let passes = c.args.passes.now in
    let es = c.entries-entries.ensures ∙ pass_is passes c.args.i c.index-passes-i.result c.requires.place c.index-passes-i.is in
    let st = stands_here passes c.args.i c.loop-j.j c.entries-entries.result.now c.index-entries-j.result es (omega arith) c.index-entries-j.is in
    let is_bad = bad_marks s c.as_slice.result.now c.loop-j.marks.items c.loop-j.floor c.index-entries-j.result c.as_slice.ensures.value c.in-Bad.ensures in
    bad s passes c.args.i c.loop-j.j c.loop-j.marks.items c.loop-j.floor c.index-entries-j.result c.loop-j.invariant st is_bad

pub returns-clause-fit : goal.returns-clause-fit
returns-clause-fit g c =
    let s = segment c.args.first c.args.events.now c.args.is_last in
    let passes = c.args.passes.now in
    let es = c.entries-entries.ensures ∙ pass_is passes c.args.i c.index-passes-i.result c.requires.place c.index-passes-i.is in
    let end : c.loop-j.j ≡ length c.entries-entries.result.now = omega arith in
    closes_fit s passes c.args.i c.loop-j.j c.loop-j.marks.items c.loop-j.floor (end ∙ ap length es) c.loop-j.invariant

pub returns-clause-marks : goal.returns-clause-marks
returns-clause-marks g c =
    let s = segment c.args.first c.args.events.now c.args.is_last in
    let passes = c.args.passes.now in
    let es = c.entries-entries.ensures ∙ pass_is passes c.args.i c.index-passes-i.result c.requires.place c.index-passes-i.is in
    let end : c.loop-j.j ≡ length c.entries-entries.result.now = omega arith in
    closes_marks s passes c.args.i c.loop-j.j c.loop-j.marks.items c.loop-j.floor (end ∙ ap length es) c.loop-j.invariant

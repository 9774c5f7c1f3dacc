-- What a whole audit shows.
use Rattle.std.proofs.Common.{◌≡◌, ℕ, ◌+◌, ◌-◌, ◌<◌, ◌≤◌, List, [], length, Bool, true, false, refl, ap, sym, ◌∙◌, subst, arith, inl, inr, None, slice_get}
use Rattle.std.specs.Prelude.{unwrap_or, OnOk, Result, Ok, Err}
use Rattle.std.proofs.lemmas.Bool.{cases_lt, cases_order}
use Rattle.std.proofs.lemmas.Option.{slice_get_past, unwrap_or-slice_get}
use Rattle.jm_audit.specs.declared.pass.PassEntry.{PassEntry}
use Rattle.jm_audit.specs.Passes.{Calls, no_calls}
use Rattle.jm_audit.specs.Audit.{Segment, IsCounted, Stands, Fits, FitsBefore, IsFirstGap, SomeHas, Agree, EachOnce, Rise, pass_at}
use Rattle.jm_audit.specs.Marks.{mark, Seen, MarksFor}

true_not_false : (b : Bool) → b ≡ true → b ≡ false → ⊥
true_not_false b p q = cc

past_is_empty : (passes : List Calls) (i : ℕ) → length passes ≤ i → pass_at passes i ≡ []
past_is_empty passes i le = ap (λ (c : Calls). c.entries) (sym (unwrap_or-slice_get passes i no_calls) ∙ ap (λ o. unwrap_or o no_calls) (slice_get_past passes i le))

-- what stands somewhere stands in a pass
pub pass_of : (passes : List Calls) (i j : ℕ) (e : PassEntry) → Stands passes i j e → i < length passes
pass_of passes i j e st = elim (cases_lt i (length passes)) [
  | inl less ↦ less
  | inr le ↦ (let none : slice_get (pass_at passes i) j ≡ None = ap (λ es. slice_get es j) (past_is_empty passes i le) in absurd (cc (none, st)))
]

counted_at : (s : Segment) (p : ℕ) (e : PassEntry) → e.position ≡ s.first + p → p < length s.events → IsCounted s e
counted_at s p e at less = record { from_first = omega arith; to_end = λ l. omega arith }

some_seen : (passes : List Calls) (i j m : ℕ) → Seen passes i j m → SomeHas passes m
some_seen passes i j m n = record { i = n.h; j = n.k; entry = n.entry; stands = n.stands; at = n.at }

some_at : (passes : List Calls) (m n : ℕ) → m ≡ n → SomeHas passes m → SomeHas passes n
some_at passes m n p h = let P : ℕ → Type 0 = λ x. SomeHas passes x in subst P p h

pub gap : (s : Segment) (passes : List Calls) (i p : ℕ) (marks : List Bool) → i ≡ length passes → FitsBefore s passes i 0 → MarksFor s passes i 0 marks → p < length marks → mark marks p ≡ false → ((q : ℕ) → q < p → mark marks q ≡ true) → IsFirstGap s passes (length passes) (s.first + p)
gap s passes i p marks end f m less free lower =
    let P : ℕ → Type 0 = λ x. FitsBefore s passes x 0 in record {
      after_all = refl;
      fit = subst P end f;
      from_first = omega arith;
      to_end = omega (arith, m.len);
      missing = λ h.
          (let b : h.i < length passes = pass_of passes h.i h.j h.entry h.stands in
          let c = m.complete h.i h.j h.entry (inl (omega arith)) h.stands (counted_at s p h.entry h.at (omega (arith, m.len))) in
          let n : h.entry.position - s.first ≡ p = omega (arith, h.at) in
          true_not_false (mark marks p) (ap (λ x. mark marks x) (sym n) ∙ c) free);
      others = λ n lo hi. some_at passes (s.first + (n - s.first)) n (omega arith) (some_seen passes i 0 _ (m.sound (n - s.first) (lower (n - s.first) (omega arith))));
    }

pub agrees : (s : Segment) (passes : List Calls) (i : ℕ) (marks : List Bool) → i ≡ length passes → FitsBefore s passes i 0 → MarksFor s passes i 0 marks → ((q : ℕ) → q < length marks → mark marks q ≡ true) → Agree s passes
agrees s passes i marks end f m every =
    let P : ℕ → Type 0 = λ x. FitsBefore s passes x 0 in record {
      fit = subst P end f;
      all = λ n lo hi. some_at passes (s.first + (n - s.first)) n (omega arith) (some_seen passes i 0 _ (m.sound (n - s.first) (every (n - s.first) (omega (arith, m.len)))));
    }

fit_at : (s : Segment) (passes : List Calls) → Agree s passes → (i j : ℕ) (e : PassEntry) → Stands passes i j e → IsCounted s e → Fits s passes i j e
fit_at s passes a i j e st c = a.fit i j e (inl (pass_of passes i j e st)) st c

pub rises : (s : Segment) (passes : List Calls) → Agree s passes → Rise s passes
rises s passes a = λ i j k d e less sd se cd ce. (fit_at s passes a i j e se ce).rises k d less sd cd

only_one : (s : Segment) (passes : List Calls) (a : Agree s passes) (i j h k : ℕ) (e d : PassEntry) → Stands passes i j e → IsCounted s e → Stands passes h k d → IsCounted s d → d.position ≡ e.position → (h ≡ i) × (k ≡ j)
only_one s passes a i j h k e d se ce sd cd same =
    let fe = fit_at s passes a i j e se ce in
    let fd = fit_at s passes a h k d sd cd in
    elim (cases_order h i) [
      | inl p ↦
          (let D : ℕ → Type 0 = λ x. Stands passes x k d in
          let E : ℕ → Type 0 = λ x. Stands passes x j e in
          elim (cases_order k j) [
            | inl q ↦ (p, q)
            | inr r ↦ elim r [
              | inl less ↦ (let l = fe.rises k d less (subst D p sd) cd in absurd (omega arith))
              | inr less ↦ (let l = fd.rises j e less (subst E (sym p) se) ce in absurd (omega arith))
            ]
          ])
      | inr r ↦ elim r [ inl less ↦ absurd (fe.alone h k d less sd same) | inr less ↦ absurd (fd.alone i j e less se (sym same)) ]
    ]

pub once : (s : Segment) (passes : List Calls) → Agree s passes → EachOnce s passes
once s passes a = λ m lo hi.
    (let h = a.all m lo hi in
    let c = counted_at s (m - s.first) h.entry (omega (arith, h.at)) (omega arith) in
    let f = fit_at s passes a h.i h.j h.entry h.stands c in record {
      some = h;
      event_is = ap (λ x. slice_get s.events (x - s.first)) (sym h.at) ∙ f.stands;
      only = λ i k d st at. only_one s passes a h.i h.j i k h.entry d h.stands c st (counted_at s (m - s.first) d (omega arith) (omega arith)) (at ∙ sym h.at);
    })

-- what follows from P holds where P does
pub ok_map : {X E : Type 0} (r : Result X E) (P Q : Type 0) → OnOk r P → (P → Q) → OnOk r Q
ok_map (Ok x) P Q h f = f h
ok_map (Err e) P Q h f = tt

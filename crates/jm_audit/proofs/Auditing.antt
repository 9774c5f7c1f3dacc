-- An audit under way.
use Rattle.std.proofs.Common.{◌≡◌, ℕ, ◌+◌, ◌-◌, ◌<◌, List, length, Bool, true, false, refl, ap, sym, ◌∙◌, subst, arith, inl, inr, slice_get, ◌⊎◌}
use Rattle.std.proofs.Math.ListN.{set, length-set}
use Rattle.std.proofs.lemmas.List.{get_or-set_same, get_or-set_other}
use Rattle.std.proofs.lemmas.Bool.{cases_lt, cases_eq}
use Rattle.std.proofs.lemmas.Option.{slice_get_within}
use Rattle.jm_audit.specs.declared.pass.PassEntry.{PassEntry}
use Rattle.jm_audit.specs.Passes.{Calls}
use Rattle.jm_audit.specs.Audit.{Segment, IsCounted, Stands, Before, Fits, FitsBefore, IsFirstFault, pass_at}
use Rattle.jm_audit.specs.Marks.{mark, Seen, MarksFor, IsGood, IsBad}

-- the highest position of the pass so far, which is one below the floor
pub record IsFloor (s : Segment) (passes : List Calls) (i j floor : ℕ) : Type 0 where
  pub k : ℕ
  pub entry : PassEntry
  pub before : k < j
  pub stands : Stands passes i k entry
  pub counted : IsCounted s entry
  pub is : entry.position + 1 ≡ floor

pub record Going (s : Segment) (passes : List Calls) (i j : ℕ) (marks : List Bool) (floor : ℕ) : Type 0 where
  pub fits : FitsBefore s passes i j
  pub marks_are : MarksFor s passes i j marks
  pub above : (k : ℕ) (d : PassEntry) → k < j → Stands passes i k d → IsCounted s d → d.position < floor
  pub below : 0 < floor → IsFloor s passes i j floor

before_more : (i j h k : ℕ) → Before i (j + 1) h k → Before i j h k ⊎ ((h ≡ i) × (k ≡ j))
before_more i j h k (inl p) = inl (inl p)
before_more i j h k (inr q) = elim (cases_lt k j) [ inl less ↦ inl (inr (q.0, less)) | inr le ↦ inr (q.0, omega arith) ]

before_wider : (i j h k : ℕ) → Before i j h k → Before i (j + 1) h k
before_wider i j h k (inl p) = inl p
before_wider i j h k (inr q) = inr (q.0, omega arith)

seen_wider : (passes : List Calls) (i j m : ℕ) → Seen passes i j m → Seen passes i (j + 1) m
seen_wider passes i j m n = record { h = n.h; k = n.k; entry = n.entry; before = before_wider i j n.h n.k n.before; stands = n.stands; at = n.at }

at_here : (passes : List Calls) (i j h k : ℕ) (e d : PassEntry) → Stands passes i j e → h ≡ i → k ≡ j → Stands passes h k d → d ≡ e
at_here passes i j h k e d st p q sd = cc

-- whether an entry is looked at goes by its position
counted_by : (s : Segment) (e d : PassEntry) → d.position ≡ e.position → IsCounted s e → IsCounted s d
counted_by s e d p c = record { from_first = omega (arith, c.from_first); to_end = λ l. (let less = c.to_end l in omega arith) }

pub starts : (s : Segment) (passes : List Calls) (i : ℕ) (marks : List Bool) → FitsBefore s passes i 0 → MarksFor s passes i 0 marks → Going s passes i 0 marks 0
starts s passes i marks f m = record { fits = f; marks_are = m; above = λ k d less st c. absurd (omega arith); below = λ z. absurd (omega arith) }

pub over : (s : Segment) (passes : List Calls) (i j : ℕ) (marks : List Bool) (floor : ℕ) (e : PassEntry) → Going s passes i j marks floor → Stands passes i j e → (IsCounted s e → ⊥) → Going s passes i (j + 1) marks floor
over s passes i j marks floor e g st refuse =
    let P : PassEntry → Type 0 = λ x. IsCounted s x in record {
      fits = λ h k d b sd c. elim (before_more i j h k b) [
        | inl b' ↦ g.fits h k d b' sd c
        | inr q ↦ absurd (refuse (subst P (at_here passes i j h k e d st q.0 q.1 sd) c))
      ];
      marks_are = record {
        len = g.marks_are.len;
        sound = λ p m. seen_wider passes i j _ (g.marks_are.sound p m);
        complete = λ h k d b sd c. elim (before_more i j h k b) [
          | inl b' ↦ g.marks_are.complete h k d b' sd c
          | inr q ↦ absurd (refuse (subst P (at_here passes i j h k e d st q.0 q.1 sd) c))
        ];
      };
      above = λ k d less sd c. elim (cases_lt k j) [
        | inl l ↦ g.above k d l sd c
        | inr le ↦ absurd (refuse (subst P (at_here passes i j i k e d st refl (omega arith) sd) c))
      ];
      below = λ z. (let f = g.below z in record { k = f.k; entry = f.entry; before = omega (arith, f.before); stands = f.stands; counted = f.counted; is = f.is });
    }

true_not_false : (b : Bool) → b ≡ true → b ≡ false → ⊥
true_not_false b p q = cc

fits_here : (s : Segment) (passes : List Calls) (i j : ℕ) (marks : List Bool) (floor at : ℕ) (e : PassEntry) → Going s passes i j marks floor → IsGood s marks floor at e → Fits s passes i j e
fits_here s passes i j marks floor at e g ok =
    let here : e.position - s.first ≡ at = omega (arith, ok.at_is) in record {
      stands = ap (λ n. slice_get s.events n) here ∙ ok.stands;
      rises = λ k d less sd c. (let l = g.above k d less sd c in omega (arith, ok.above));
      alone = λ h k d less sd same.
          (let m = g.marks_are.complete h k d (inl less) sd (counted_by s e d same ok.counted) in
          let n : d.position - s.first ≡ at = omega (arith, ok.at_is) in
          true_not_false (mark marks at) (ap (λ x. mark marks x) (sym n) ∙ m) ok.free);
    }

fits_moved : (s : Segment) (passes : List Calls) (i j h k : ℕ) (e d : PassEntry) → Fits s passes i j e → h ≡ i → k ≡ j → d ≡ e → Fits s passes h k d
fits_moved s passes i j h k e d f p q r =
    let A : ℕ → Type 0 = λ x. Fits s passes x k d in
    let B : ℕ → Type 0 = λ x. Fits s passes i x d in
    let C : PassEntry → Type 0 = λ x. Fits s passes i j x in
    subst A (sym p) (subst B (sym q) (subst C (sym r) f))

mark_kept : (marks : List Bool) (at p : ℕ) → at < length marks → mark marks p ≡ true → mark (set marks at true) p ≡ true
mark_kept marks at p less m = elim (cases_eq p at) [
  | inl same ↦ ap (λ x. mark (set marks at true) x) same ∙ get_or-set_same marks at true false less
  | inr other ↦ get_or-set_other marks at p true false other ∙ m
]

pub good : (s : Segment) (passes : List Calls) (i j : ℕ) (marks : List Bool) (floor at : ℕ) (e : PassEntry) → Going s passes i j marks floor → Stands passes i j e → IsGood s marks floor at e → Going s passes i (j + 1) (set marks at true) (e.position + 1)
good s passes i j marks floor at e g st ok =
    let in_marks : at < length marks = omega (arith, ok.within, g.marks_are.len) in
    let here = fits_here s passes i j marks floor at e g ok in
    let at_e : e.position - s.first ≡ at = omega (arith, ok.at_is) in
    let new = set marks at true in record {
      fits = λ h k d b sd c. elim (before_more i j h k b) [
        | inl b' ↦ g.fits h k d b' sd c
        | inr q ↦ fits_moved s passes i j h k e d here q.0 q.1 (at_here passes i j h k e d st q.0 q.1 sd)
      ];
      marks_are = record {
        len = length-set marks at true ∙ g.marks_are.len;
        sound = λ p m. elim (cases_eq p at) [
          | inl same ↦ record { h = i; k = j; entry = e; before = inr (refl, omega arith); stands = st; at = omega (arith, ok.at_is) }
          | inr other ↦ seen_wider passes i j _ (g.marks_are.sound p (sym (get_or-set_other marks at p true false other) ∙ m))
        ];
        complete = λ h k d b sd c. elim (before_more i j h k b) [
          | inl b' ↦ mark_kept marks at (d.position - s.first) in_marks (g.marks_are.complete h k d b' sd c)
          | inr q ↦ ap (λ (x : PassEntry). mark new (x.position - s.first)) (at_here passes i j h k e d st q.0 q.1 sd) ∙ ap (λ x. mark new x) at_e ∙ get_or-set_same marks at true false in_marks
        ];
      };
      above = λ k d less sd c. elim (cases_lt k j) [
        | inl l ↦ (let m = g.above k d l sd c in omega (arith, ok.above))
        | inr le ↦ (let m : d.position ≡ e.position = ap (λ (x : PassEntry). x.position) (at_here passes i j i k e d st refl (omega arith) sd) in omega arith)
      ];
      below = λ z. record { k = j; entry = e; before = omega arith; stands = st; counted = ok.counted; is = refl };
    }

pub bad : (s : Segment) (passes : List Calls) (i j : ℕ) (marks : List Bool) (floor : ℕ) (e : PassEntry) → Going s passes i j marks floor → Stands passes i j e → IsBad s marks floor e → IsFirstFault s passes i j
bad s passes i j marks floor e g st flaw = record {
  entry = e;
  stands = st;
  counted = flaw.counted;
  bad = λ f. elim (flaw.why) [
    | inl n ↦ n f.stands
    | inr r ↦ elim r [
      | inl low ↦ (let l = g.below (omega arith) in let m = f.rises l.k l.entry l.before l.stands l.counted in absurd (omega (arith, l.is)))
      | inr m ↦ (let n = g.marks_are.sound (e.position - s.first) m in
          let same : n.entry.position ≡ e.position = omega (arith, n.at, flaw.counted.from_first) in
          elim (n.before) [
            | inl p ↦ f.alone n.h n.k n.entry p n.stands same
            | inr q ↦ (let S : ℕ → Type 0 = λ x. Stands passes x n.k n.entry in
                let m' = f.rises n.k n.entry q.1 (subst S q.0 n.stands) (counted_by s e n.entry same flaw.counted) in absurd (omega arith))
          ])
    ]
  ];
  before = g.fits;
}

before_close : (passes : List Calls) (i n h k : ℕ) (d : PassEntry) → n ≡ length (pass_at passes i) → Before (i + 1) 0 h k → Stands passes h k d → Before i n h k
before_close passes i n h k d len (inl p) sd = elim (cases_lt h i) [
  | inl less ↦ inl less
  | inr le ↦ (let same : h ≡ i = omega arith in
      let w = slice_get_within (pass_at passes h) k d sd in
      let l : length (pass_at passes h) ≡ length (pass_at passes i) = ap (λ x. length (pass_at passes x)) same in inr (same, omega arith))
]
before_close passes i n h k d len (inr q) sd = absurd (omega (arith, q.1))

before_open : (i n h k : ℕ) → Before i n h k → Before (i + 1) 0 h k
before_open i n h k (inl p) = inl (omega arith)
before_open i n h k (inr q) = inl (omega (arith, q.0))

pub closes_fit : (s : Segment) (passes : List Calls) (i n : ℕ) (marks : List Bool) (floor : ℕ) → n ≡ length (pass_at passes i) → Going s passes i n marks floor → FitsBefore s passes (i + 1) 0
closes_fit s passes i n marks floor len g = λ h k d b sd c. g.fits h k d (before_close passes i n h k d len b sd) sd c

pub closes_marks : (s : Segment) (passes : List Calls) (i n : ℕ) (marks : List Bool) (floor : ℕ) → n ≡ length (pass_at passes i) → Going s passes i n marks floor → MarksFor s passes (i + 1) 0 marks
closes_marks s passes i n marks floor len g = record {
  len = g.marks_are.len;
  sound = λ p m. (let x = g.marks_are.sound p m in record { h = x.h; k = x.k; entry = x.entry; before = before_open i n x.h x.k x.before; stands = x.stands; at = x.at });
  complete = λ h k d b sd c. g.marks_are.complete h k d (before_close passes i n h k d len b sd) sd c;
}

-- A rule followed by another reads exactly its values, where each of the two does.
use Rattle.std.proofs.Common.{◌≡◌, ℕ, zero, suc, ◌+◌, ◌-◌, ◌≤◌, List, [], ◌++◌, length, take, min, Ok, Err, refl, sym, ◌∙◌, ap, subst, append_assoc, arith, inl, inr}
use Rattle.std.specs.List.{concat}
use Rattle.std.proofs.lemmas.Bool.{cases_lt}
use Rattle.std.proofs.lemmas.List.{append-nil, get_or-append-add, take-append-le, take_min}
use Rattle.std.proofs.lemmas.List.Folds.{concat-append}
use Rattle.std.proofs.Math.Seq.{take-append-add}
use Rattle.jm_format.specs.Messages.{AreBytes}
use Rattle.jm_format.specs.Reading.{Outcome, Rule, ◌>>=◌, and_then, pure}
use Rattle.jm_reading.specs.Exact.{left_of, IsRead}

pub AreBytes-rest : (front rest : List ℕ) → AreBytes (front ++ rest) → AreBytes rest
AreBytes-rest front rest bytes i = rw (← (get_or-append-add front rest i 0)) (bytes (length front + i))

-- ---- outcomes

abbrev read : {A : Type 0} → A × List ℕ → Outcome A
read pair = Ok pair

abbrev stopped : {A : Type 0} → List ℕ → Outcome A
stopped left = Err left

pub same_read : {A : Type 0} (p q : A × List ℕ) → read p ≡ read q → p ≡ q
same_read p q e = cc

pub same_stop : {A : Type 0} (x y : List ℕ) → stopped {A = A} x ≡ stopped {A = A} y → x ≡ y
same_stop x y e = cc

pub read_is_no_stop : {A : Type 0} (p : A × List ℕ) (x : List ℕ) → read p ≡ stopped {A = A} x → ⊥
read_is_no_stop p x e = cc

-- ---- a rule that reads nothing

pub IsRead-pure : {A : Type 0} (Valid : A → Type 0) (fields : A → List (List ℕ)) (only : A) → Valid only → ((value : A) → Valid value → value ≡ only) → ((value : A) → Valid value → fields value ≡ []) → IsRead Valid fields (pure only)
IsRead-pure {A} Valid fields only valid unique none = record {
  takes = λ bytes value rest are e.
      let same = same_read (only, bytes) (value, rest) e in
      let value-is : only ≡ value = ap (λ (p : A × List ℕ). p.0) same in
      let rest-is : bytes ≡ rest = ap (λ (p : A × List ℕ). p.1) same in
      (subst Valid value-is valid, rest-is ∙ sym (ap (λ (xs : List (List ℕ)). concat xs ++ rest) (ap fields (sym value-is) ∙ none only valid)));
  again = λ value rest is.
      ap (λ (xs : List (List ℕ)). read (only, concat xs ++ rest)) (none value is) ∙ ap (λ (v : A). read (v, rest)) (sym (unique value is));
  some = (only, valid);
  stops = λ bytes left are e. absurd (read_is_no_stop (only, bytes) left e);
  longest = λ bytes value count rest are is e.
      let empty : take count (fields value) ≡ [] = ap (take count) (none value is) ∙ take-nil count in
      let whole : bytes ≡ rest = e ∙ ap (λ (xs : List (List ℕ)). concat xs ++ rest) empty in
      omega (arith, ap length whole);
}
  where
    take-nil : (n : ℕ) → take n (let xs : List (List ℕ) = [] in xs) ≡ []
    take-nil zero = refl
    take-nil (suc n) = refl

-- ---- a rule and then the one that its value chooses

module _ {A C : Type 0} (IsPart : A → Type 0) (part_fields : A → List (List ℕ)) (first : Rule A) (part : C → A) (Valid : C → Type 0) (fields later : C → List (List ℕ)) (next : A → Rule C) where
  -- the values of which the part was read
  abbrev Rest : A → C → Type 0
  Rest a value = Valid value × (part value ≡ a)

  pub record Goes : Type 0 where
    pub parts : (value : C) → Valid value → IsPart (part value)
    pub splits : (value : C) → Valid value → fields value ≡ part_fields (part value) ++ later value
    pub first_reads : IsRead IsPart part_fields first
    pub next_reads : (a : A) → IsPart a → IsRead (Rest a) later (next a)

  seam : (xs ys : List (List ℕ)) (rest : List ℕ) → concat (xs ++ ys) ++ rest ≡ concat xs ++ (concat ys ++ rest)
  seam xs ys rest = ap (λ (bytes : List ℕ). bytes ++ rest) (concat-append xs ys) ∙ append_assoc (concat xs) (concat ys) rest

  again : Goes → (value : C) (rest : List ℕ) → Valid value → (first >>= next) (concat (fields value) ++ rest) ≡ Ok (value, rest)
  again goes value rest is =
      let split : concat (fields value) ++ rest ≡ concat (part_fields (part value)) ++ (concat (later value) ++ rest) = ap (λ (xs : List (List ℕ)). concat xs ++ rest) (goes.splits value is) ∙ seam (part_fields (part value)) (later value) rest in
      let one = goes.first_reads.again (part value) (concat (later value) ++ rest) (goes.parts value is) in
      ap (λ (outcome : Outcome A). and_then outcome next) (ap first split ∙ one)
      ∙ (goes.next_reads (part value) (goes.parts value is)).again value rest (is, refl)

  some : Goes → (value : C) × Valid value
  some goes =
      let a = goes.first_reads.some in
      let c = (goes.next_reads a.0 a.1).some in
      (c.0, c.1.0)

  -- what each outcome of the first rule comes to
  takes_by : Goes → (bytes : List ℕ) (outcome : Outcome A) → first bytes ≡ outcome → (value : C) (rest : List ℕ) → AreBytes bytes → and_then outcome next ≡ Ok (value, rest) → Valid value × (bytes ≡ concat (fields value) ++ rest)
  takes_by goes bytes (Ok (a, middle)) is value rest are e =
      let one = goes.first_reads.takes bytes a middle are is in
      let two = (goes.next_reads a one.0).takes middle value rest (AreBytes-rest (concat (part_fields a)) middle (subst AreBytes one.1 are)) e in (
        two.0.0,
        one.1
            ∙ ap (λ (xs : List ℕ). concat (part_fields a) ++ xs) two.1
            ∙ ap (λ (x : A). concat (part_fields x) ++ (concat (later value) ++ rest)) (sym two.0.1)
            ∙ sym (seam (part_fields (part value)) (later value) rest)
            ∙ ap (λ (xs : List (List ℕ)). concat xs ++ rest) (sym (goes.splits value two.0.0)),
      )
  takes_by goes bytes (Err left) is value rest are e = absurd (read_is_no_stop (value, rest) left (sym e))

  stops_by : Goes → (bytes : List ℕ) (outcome : Outcome A) → first bytes ≡ outcome → (left : List ℕ) → AreBytes bytes → and_then outcome next ≡ Err left → (value : C) × (count : ℕ) × Valid value × (bytes ≡ concat (take count (fields value)) ++ left)
  stops_by goes bytes (Ok (a, middle)) is left are e =
      let one = goes.first_reads.takes bytes a middle are is in
      let two = (goes.next_reads a one.0).stops middle left (AreBytes-rest (concat (part_fields a)) middle (subst AreBytes one.1 are)) e in
      let value : C = two.0 in
      let valid : Valid value = two.2.0 in
      let front : List (List ℕ) = part_fields (part value) in
      let front-is : part_fields a ≡ front = ap part_fields (sym two.2.1) in
      let cut : take (length front + two.1) (fields value) ≡ front ++ take two.1 (later value) = ap (take (length front + two.1)) (goes.splits value valid) ∙ take-append-add front (later value) two.1 in (
        value,
        length front + two.1,
        valid,
        one.1
            ∙ ap (λ (xs : List ℕ). concat (part_fields a) ++ xs) two.3
            ∙ ap (λ (xs : List (List ℕ)). concat xs ++ (concat (take two.1 (later value)) ++ left)) front-is
            ∙ sym (seam front (take two.1 (later value)) left)
            ∙ ap (λ (xs : List (List ℕ)). concat xs ++ left) (sym cut),
      )
  stops_by goes bytes (Err found) is left are e =
      let one = goes.first_reads.stops bytes found are is in
      let a : A = one.0 in
      let two = (goes.next_reads a one.2).some in
      let value : C = two.0 in
      let valid : Valid value = two.1.0 in
      let front : List (List ℕ) = part_fields (part value) in
      let front-is : part_fields a ≡ front = ap part_fields (sym two.1.1) in
      let count : ℕ = min one.1 (length front) in
      let cut : take count (fields value) ≡ take one.1 front = ap (take count) (goes.splits value valid) ∙ take-append-le count front (later value) (omega arith) ∙ take_min one.1 front in (
        value,
        count,
        valid,
        one.3
            ∙ ap (λ (xs : List (List ℕ)). concat (take one.1 xs) ++ found) front-is
            ∙ ap (λ (xs : List (List ℕ)). concat xs ++ found) (sym cut)
            ∙ ap (λ (xs : List ℕ). concat (take count (fields value)) ++ xs) (same_stop {A = C} found left e),
      )

  -- the next rule leaves no more than it was given
  shrinks : Goes → (bytes : List ℕ) (outcome : Outcome A) → first bytes ≡ outcome → AreBytes bytes → length (left_of (and_then outcome next)) ≤ length (left_of outcome)
  shrinks goes bytes (Ok (a, middle)) is are =
      let one = goes.first_reads.takes bytes a middle are is in
      let reads = goes.next_reads a one.0 in
      let c = reads.some in
      reads.longest middle c.0 0 middle (AreBytes-rest (concat (part_fields a)) middle (subst AreBytes one.1 are)) c.1 refl
  shrinks goes bytes (Err left) is are = omega arith

  longest : Goes → (bytes : List ℕ) (value : C) (count : ℕ) (rest : List ℕ) → AreBytes bytes → Valid value → bytes ≡ concat (take count (fields value)) ++ rest → length (left_of ((first >>= next) bytes)) ≤ length rest
  longest goes bytes value count rest are is e =
      elim (cases_lt (length front) count) [
        | inl past ↦
            let more : ℕ = count - length front in
            let cut : take count (fields value) ≡ front ++ take more (later value) = ap (λ (n : ℕ). take n (fields value)) (let n : count ≡ length front + more = omega arith in n) ∙ ap (take (length front + more)) split ∙ take-append-add front (later value) more in
            let middle : List ℕ = concat (take more (later value)) ++ rest in
            let parts : bytes ≡ concat front ++ middle = e ∙ ap (λ (xs : List (List ℕ)). concat xs ++ rest) cut ∙ seam front (take more (later value)) rest in
            let one : first bytes ≡ Ok (part value, middle) = ap first parts ∙ goes.first_reads.again (part value) middle valid in
            let two = (goes.next_reads (part value) valid).longest middle value more rest (AreBytes-rest (concat front) middle (subst AreBytes parts are)) (is, refl) refl in
            subst (λ (outcome : Outcome A). length (left_of (and_then outcome next)) ≤ length rest) (sym one) two
        | inr within ↦
            let cut : take count (fields value) ≡ take count front = ap (take count) split ∙ take-append-le count front (later value) within in
            let one = goes.first_reads.longest bytes (part value) count rest are valid (e ∙ ap (λ (xs : List (List ℕ)). concat xs ++ rest) cut) in
            let two = shrinks goes bytes (first bytes) refl are in
            omega (arith, one, two)
      ]
    where
      front : List (List ℕ)
      front = part_fields (part value)

      split : fields value ≡ front ++ later value
      split = goes.splits value is

      valid : IsPart (part value)
      valid = goes.parts value is

  pub IsRead-then : Goes → IsRead Valid fields (first >>= next)
  IsRead-then goes = record {
    takes = λ bytes value rest are e. takes_by goes bytes (first bytes) refl value rest are e;
    again = again goes;
    some = some goes;
    stops = λ bytes left are e. stops_by goes bytes (first bytes) refl left are e;
    longest = longest goes;
  }

-- the same, where what is read and spelled is known from the goal
pub reads_then : {A C : Type 0} {IsPart : A → Type 0} {part_fields : A → List (List ℕ)} {first : Rule A} {Valid : C → Type 0} {fields : C → List (List ℕ)} {next : A → Rule C} (part : C → A) (later : C → List (List ℕ)) → ((value : C) → Valid value → IsPart (part value)) → ((value : C) → Valid value → fields value ≡ part_fields (part value) ++ later value) → IsRead IsPart part_fields first → ((a : A) → IsPart a → IsRead (λ value. Valid value × (part value ≡ a)) later (next a)) → IsRead Valid fields (first >>= next)
reads_then {IsPart = IsPart} {part_fields = part_fields} {first = first} {Valid = Valid} {fields = fields} {next = next} part later parts splits first_reads next_reads =
    IsRead-then IsPart part_fields first part Valid fields later next
    (record { parts = parts; splits = splits; first_reads = first_reads; next_reads = next_reads })

-- a rule whose value is made into another
pub reads_map : {A C : Type 0} {IsPart : A → Type 0} {part_fields : A → List (List ℕ)} {first : Rule A} {Valid : C → Type 0} {fields : C → List (List ℕ)} (f : A → C) (part : C → A) → ((value : C) → Valid value → IsPart (part value)) → ((value : C) → Valid value → fields value ≡ part_fields (part value)) → ((value : C) → Valid value → f (part value) ≡ value) → ((a : A) → IsPart a → Valid (f a)) → ((a : A) → IsPart a → part (f a) ≡ a) → IsRead IsPart part_fields first → IsRead Valid fields (first >>= λ a. pure (f a))
reads_map {A = A} {C = C} {IsPart = IsPart} {part_fields = part_fields} {Valid = Valid} f part parts same there valid back first_reads =
    reads_then part (λ _. []) parts (λ value is. same value is ∙ sym (append-nil (part_fields (part value)))) first_reads
    (λ a is. IsRead-pure (λ value. Valid value × (part value ≡ a)) (λ _. []) (f a) (valid a is, back a is)
    (λ value r. sym (there value r.0) ∙ ap f r.1) (λ value r. refl))

-- the same rule, of the same values said otherwise
pub reads_same : {A : Type 0} {Valid : A → Type 0} {fields : A → List (List ℕ)} {rule : Rule A} (Other : A → Type 0) (others : A → List (List ℕ)) → ((value : A) → Valid value → Other value) → ((value : A) → Other value → Valid value) → ((value : A) → Valid value → fields value ≡ others value) → IsRead Valid fields rule → IsRead Other others rule
reads_same {A = A} {Valid = Valid} {fields = fields} {rule = rule} Other others to from same reads = record {
  takes = λ bytes value rest are e.
      let one = reads.takes bytes value rest are e in
      (to value one.0, one.1 ∙ ap (λ (xs : List (List ℕ)). concat xs ++ rest) (same value one.0));
  again = λ value rest is.
      ap (λ (xs : List (List ℕ)). rule (concat xs ++ rest)) (sym (same value (from value is))) ∙ reads.again value rest (from value is);
  some = (reads.some.0, to reads.some.0 reads.some.1);
  stops = λ bytes left are e.
      let one = reads.stops bytes left are e in
      (one.0, one.1, to one.0 one.2, one.3 ∙ ap (λ (xs : List (List ℕ)). concat (take one.1 xs) ++ left) (same one.0 one.2));
  longest = λ bytes value count rest are is e.
      reads.longest bytes value count rest are (from value is) (e ∙ ap (λ (xs : List (List ℕ)). concat (take count xs) ++ rest) (sym (same value (from value is))));
}

-- What is written piece by piece is the record, and it is as long as was reckoned.
use Rattle.std.proofs.Common.{◌≡◌, ℕ, zero, suc, ◌+◌, ◌<◌, List, [], ◌∷◌, ◌++◌, length, take, slice_get, Some, None, sym, ◌∙◌, ap, append_assoc, add-one, arith}
use Rattle.std.specs.List.{concat, flat_map, AllByRecursion}
use Rattle.std.proofs.lemmas.List.{append-nil, length-append}
use Rattle.std.proofs.lemmas.List.Concat.{flat_map-append}
use Rattle.std.proofs.lemmas.List.Folds.{concat-append}
use Rattle.jm_header.specs.declared.content.Content.{Content}
use Rattle.jm_property.specs.declared.property.Property.{Property}
use Rattle.jm_property.specs.Properties.{Table}
use Rattle.jm_format.specs.Format as format
use Rattle.jm_format.specs.Format.{«record»}
use Rattle.jm_format.specs.Messages.{IsProperty}

-- ---- pieces one after another

pub three : (start a b c out0 out1 out2 : List ℕ) → out0 ≡ start ++ a → out1 ≡ out0 ++ b → out2 ≡ out1 ++ c → out2 ≡ start ++ (a ++ (b ++ (c ++ [])))
three start a b c out0 out1 out2 e0 e1 e2 =
    e2 ∙ ap (λ (xs : List ℕ). xs ++ c) (e1 ∙ ap (λ (xs : List ℕ). xs ++ b) e0)
    ∙ append_assoc (start ++ a) b c ∙ append_assoc start a (b ++ c)
    ∙ ap (λ (xs : List ℕ). start ++ (a ++ (b ++ xs))) (sym (append-nil c))

-- ---- properties

take_more : (t : Table) (i : ℕ) (p : List ℕ × Property) → Some p ≡ slice_get t i → take (suc i) t ≡ take i t ++ p ∷ []
take_more [] i p e = absurd cc
take_more (q ∷ qs) zero p e = let same : p ≡ q = cc in ap (λ (r : List ℕ × Property). r ∷ []) (sym same)
take_more (q ∷ qs) (suc i) p e = ap (λ (t : Table). q ∷ t) (take_more qs i p e)

pub not_past : (t : Table) (i : ℕ) → None ≡ slice_get t i → i < length t → ⊥
not_past [] i e lt = omega arith
not_past (q ∷ qs) zero e lt = cc
not_past (q ∷ qs) (suc i) e lt = not_past qs i e (omega arith)

abbrev pub written : ℕ → Table → List ℕ
written i t = concat (flat_map format.property_fields (take i t))

written-more : (t : Table) (i : ℕ) (p : List ℕ × Property) → Some p ≡ slice_get t i → written (i + 1) t ≡ written i t ++ concat (format.property_fields p)
written-more t i p e =
    let more : take (i + 1) t ≡ take i t ++ p ∷ [] = rw add-one (take_more t i p e) in
    ap (λ (u : Table). concat (flat_map format.property_fields u)) more
    ∙ ap concat (flat_map-append format.property_fields (take i t) (p ∷ []))
    ∙ concat-append (flat_map format.property_fields (take i t)) (format.property_fields p ++ [])
    ∙ ap (λ (xs : List (List ℕ)). written i t ++ concat xs) (append-nil (format.property_fields p))

pub one_more : (t : Table) (i : ℕ) (p : List ℕ × Property) (start head out0 out1 out2 : List ℕ) → Some p ≡ slice_get t i → out0 ≡ start ++ (head ++ written i t) → out1 ≡ out0 ++ format.block p.0 → out2 ≡ out1 ++ (format.byte (format.property_tag p.1) ++ format.property_value p.1) → out2 ≡ start ++ (head ++ written (i + 1) t)
one_more t i p start head out0 out1 out2 e e0 e1 e2 =
    e2 ∙ ap (λ (xs : List ℕ). xs ++ tagged) (e1 ∙ ap (λ (xs : List ℕ). xs ++ name) e0)
    ∙ append_assoc (start ++ (head ++ written i t)) name tagged
    ∙ append_assoc start (head ++ written i t) (name ++ tagged)
    ∙ ap (λ (xs : List ℕ). start ++ xs) (append_assoc head (written i t) (name ++ tagged))
    ∙ ap (λ (xs : List ℕ). start ++ (head ++ (written i t ++ (name ++ (tag ∷ xs))))) (sym (append-nil (format.property_value p.1)))
    ∙ ap (λ (xs : List ℕ). start ++ (head ++ xs)) (sym (written-more t i p e))
  where
    tag : ℕ
    tag = format.property_tag p.1

    name : List ℕ
    name = format.block p.0

    tagged : List ℕ
    tagged = format.byte tag ++ format.property_value p.1

each-push : (t : Table) (p : List ℕ × Property) → AllByRecursion IsProperty t → IsProperty p → AllByRecursion IsProperty (t ++ p ∷ [])
each-push [] p each is = (is, tt)
each-push (q ∷ qs) p each is = (each.0, each-push qs p each.1 is)

pub each_more : (t : Table) (i : ℕ) (p : List ℕ × Property) → Some p ≡ slice_get t i → AllByRecursion IsProperty (take i t) → IsProperty p → AllByRecursion IsProperty (take (i + 1) t)
each_more t i p e each is =
    let more : take (i + 1) t ≡ take i t ++ p ∷ [] = rw add-one (take_more t i p e) in
    rw more (each-push (take i t) p each is)

-- ---- lengths

pub length-more : (t : Table) (i : ℕ) (p : List ℕ × Property) → Some p ≡ slice_get t i → length (written (i + 1) t) ≡ length (written i t) + (8 + length p.0) + 1 + length (format.property_value p.1)
length-more t i p e =
    let fields : length (concat (format.property_fields p)) ≡ 9 + length p.0 + length (format.property_value p.1) = omega (arith, length-append p.0 (format.property_tag p.1 ∷ (format.property_value p.1 ++ [])), length-append (format.property_value p.1) []) in
    omega (arith, ap length (written-more t i p e), length-append (written i t) (concat (format.property_fields p)), fields)

-- the fields from the correlation on
abbrev from_correlation : Content → List (List ℕ)
from_correlation m = format.correlation m ++ (format.message_type m ++ (format.body m ++ format.property_count m ∷ format.properties m))

pub length-record : (m : Content) → length (format.record m) ≡ 40 + length (concat (format.delivery_time m)) + length (format.block (format.name_of m.destination)) + length (concat (format.correlation m)) + length (concat (format.message_type m)) + length (concat (format.body m)) + (8 + length (concat (format.properties m)))
unfolding «record»
length-record m =
    omega (
      arith,
      ap length (concat-append (format.delivery_time m) (format.mode m ∷ format.priority m ∷ format.destination_kind m ∷ format.destination_name m ∷ from_correlation m)),
      length-append (concat (format.delivery_time m)) (concat (format.mode m ∷ format.priority m ∷ format.destination_kind m ∷ format.destination_name m ∷ from_correlation m)),
      length-append (format.name_of m.destination) (concat (format.correlation m ++ (format.message_type m ++ (format.body m ++ format.property_count m ∷ format.properties m)))),
      ap length (concat-append (format.correlation m) (format.message_type m ++ (format.body m ++ format.property_count m ∷ format.properties m))),
      length-append (concat (format.correlation m)) (concat (format.message_type m ++ (format.body m ++ format.property_count m ∷ format.properties m))),
      ap length (concat-append (format.message_type m) (format.body m ++ format.property_count m ∷ format.properties m)),
      length-append (concat (format.message_type m)) (concat (format.body m ++ format.property_count m ∷ format.properties m)),
      ap length (concat-append (format.body m) (format.property_count m ∷ format.properties m)),
      length-append (concat (format.body m)) (concat (format.property_count m ∷ format.properties m)),
    )

-- ---- the whole record

-- what was written is the fields so far
abbrev pub IsWritten : List ℕ → List (List ℕ) → Type 0
IsWritten out fields = out ≡ concat fields

pub then_field : (out old piece : List ℕ) (fields : List (List ℕ)) → IsWritten old fields → out ≡ old ++ piece → IsWritten out (fields ++ piece ∷ [])
then_field out old piece fields so_far e =
    e ∙ (λ i. so_far i ++ sym (append-nil piece) i) ∙ sym (concat-append fields (piece ∷ []))

pub then_fields : (out old : List ℕ) (fields more : List (List ℕ)) → IsWritten old fields → out ≡ old ++ concat more → IsWritten out (fields ++ more)
then_fields out old fields more so_far e =
    e ∙ ap (λ (xs : List ℕ). xs ++ concat more) so_far ∙ sym (concat-append fields more)

-- fields, two more and then others
pub then_two : (out0 out1 out2 out3 a b : List ℕ) (fields more : List (List ℕ)) → IsWritten out0 fields → out1 ≡ out0 ++ a → out2 ≡ out1 ++ b → out3 ≡ out2 ++ concat more → IsWritten out3 (fields ++ a ∷ b ∷ more)
then_two out0 out1 out2 out3 a b fields more so_far e1 e2 e3 =
    then_fields out3 out2 ((fields ++ a ∷ []) ++ b ∷ []) more (then_field out2 out1 b (fields ++ a ∷ []) (then_field out1 out0 a fields so_far e1) e2) e3
    ∙ ap (λ (xs : List (List ℕ)). concat (xs ++ more)) (append_assoc fields (a ∷ []) (b ∷ []))
    ∙ ap concat (append_assoc fields (a ∷ b ∷ []) more)

-- the fields in the order of writing are the fields of the record
all_fields : (head c y b r : List (List ℕ)) → (((head ++ c) ++ y) ++ b) ++ r ≡ head ++ (c ++ (y ++ (b ++ r)))
all_fields head c y b r =
    append_assoc ((head ++ c) ++ y) b r ∙ append_assoc (head ++ c) y (b ++ r) ∙ append_assoc head c (y ++ (b ++ r))

-- the fields up to the delivery time
abbrev pub up_to_delivery_time : Content → List (List ℕ)
up_to_delivery_time m = take 7 (format.fields m) ++ format.delivery_time m

-- the fields from the delivery mode to the destination
abbrev pub up_to_destination : Content → List (List ℕ)
up_to_destination m = format.mode m ∷ format.priority m ∷ format.destination_kind m ∷ format.destination_name m ∷ []

pub is_record : (m : Content) (o8 o9 o10 o11 o12 : List ℕ) → IsWritten o8 (up_to_delivery_time m ++ up_to_destination m) → o9 ≡ o8 ++ concat (format.correlation m) → o10 ≡ o9 ++ concat (format.message_type m) → o11 ≡ o10 ++ concat (format.body m) → o12 ≡ o11 ++ concat (format.table_fields m.properties) → o12 ≡ format.record m
unfolding «record»
is_record m o8 o9 o10 o11 o12 e8 e9 e10 e11 e12 =
    then_fields o12 o11 (((head ++ c) ++ y) ++ b) r (then_fields o11 o10 ((head ++ c) ++ y) b (then_fields o10 o9 (head ++ c) y (then_fields o9 o8 head c e8 e9) e10) e11) e12
    ∙ ap concat (all_fields head c y b r)
    ∙ ap concat (append_assoc (up_to_delivery_time m) (up_to_destination m) (c ++ (y ++ (b ++ r))))
    ∙ ap concat (append_assoc (take 7 (format.fields m)) (format.delivery_time m) (up_to_destination m ++ (c ++ (y ++ (b ++ r)))))
  where
    head : List (List ℕ)
    head = up_to_delivery_time m ++ up_to_destination m

    c : List (List ℕ)
    c = format.correlation m

    y : List (List ℕ)
    y = format.message_type m

    b : List (List ℕ)
    b = format.body m

    r : List (List ℕ)
    r = format.table_fields m.properties

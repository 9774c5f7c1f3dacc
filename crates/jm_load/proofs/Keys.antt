-- The columns of a key, and rows of one key.
use Rattle.std.proofs.Common.{◌≡◌, ℕ, ℤ, pos, inl, inr, true, cond, List, [], ◌∷◌, Option, Some, None, refl, sym, ap, ap₂, ◌∙◌, subst, Equal, nat_cmp, eqb}
use Rattle.std.specs.Cmp.Lexicographic.{slice_cmp}
use Rattle.std.specs.Ordering.{int_cmp, int_eq, ordering_then}
use Rattle.std.proofs.lemmas.Bool.{and_parts, cases_Bool}
use Rattle.std.proofs.lemmas.Bool.Decides.{same_from_decides, Decides-int_eq, Decides-eqb}
use Rattle.std.proofs.lemmas.Cmp.{tied_itself}
use Rattle.sqlite_value.specs.declared.value.Value.TheVariants.{Int, Text}
use Rattle.sqlite_value.specs.Order.{Row, bytes, column, value_cmp}
use Rattle.sqlite_value.proofs.OrderLemmas.{value_cmp-Int, value_cmp-Text, value_cmp_total}
use Rattle.sqlite_rules.specs.Edit.{id_in}
use Rattle.jm_dest.specs.declared.key.Key.{Key}
use Rattle.jm_dest.specs.declared.key.Key.TheVariants.{Queue, Durable}
use Rattle.jm_machine.proofs.Keys.{key_same}
use Rattle.jm_machine.specs.Under.{is_key}
use Rattle.jm_tables.specs.Keys.{client_in, key_in, key_of, queue_in}
use Rattle.jm_tables.specs.Rows.{is_under, is_under_at}
use Rattle.jm_queries.specs.Shown.{held_cmp, key_cmp}
use Rattle.jm_loading.specs.Order.{client, family, name}

-- two places are the same as numbers of rows
pub same_place : (a b : ℕ) → int_eq (pos a) (pos b) ≡ eqb a b
same_place a b = same_from_decides (int_eq (pos a) (pos b)) (eqb a b) (let d = Decides-int_eq (pos a) (pos b) in ((λ h. let e : pos a ≡ pos b = d.0 h in cc), λ e. d.1 (ap pos e))) (Decides-eqb a b)

-- ---- the columns of a key

-- they are those of the key
pub record AreColumns (f : ℤ) (c n : List ℕ) (k : Key) : Type 0 where
  pub family_is : f ≡ pos (family k)
  pub client_is : c ≡ client k
  pub name_is : n ≡ name k

queue_columns : (f : ℤ) (c n : List ℕ) (k : Key) → f ≡ pos 1 → queue_in c n ≡ Some k → AreColumns f c n k
queue_columns f [] n k one h = let same : Queue n ≡ k = cc in subst (λ x. AreColumns f [] n x) same (record { family_is = one; client_is = refl; name_is = refl })
queue_columns f (byte ∷ more) n k one h = absurd (cc)

durable_columns : (f : ℤ) (c n : List ℕ) (k : Key) → f ≡ pos 2 → Some (Durable (client_in c) n) ≡ Some k → AreColumns f c n k
durable_columns f [] n k two h = let same : Durable None n ≡ k = cc in subst (λ x. AreColumns f [] n x) same (record { family_is = two; client_is = refl; name_is = refl })
durable_columns f (byte ∷ more) n k two h = let same : Durable (Some (byte ∷ more)) n ≡ k = cc in subst (λ x. AreColumns f (byte ∷ more) n x) same (record { family_is = two; client_is = refl; name_is = refl })

pub columns_of : (f : ℤ) (c n : List ℕ) (k : Key) → key_in f c n ≡ Some k → AreColumns f c n k
columns_of f c n k h = elim (cases_Bool (int_eq f (pos 1))) [
  | inl one ↦ queue_columns f c n k ((Decides-int_eq f (pos 1)).0 one) (rw one at h)
  | inr not_one ↦
      let rest : cond (int_eq f (pos 2)) (Some (Durable (client_in c) n)) None ≡ Some k = rw not_one at h in
      elim (cases_Bool (int_eq f (pos 2))) [
        | inl two ↦ durable_columns f c n k ((Decides-int_eq f (pos 2)).0 two) (rw two at rest)
        | inr neither ↦ absurd (let no : ◌≡◌ {A = Option Key} None (Some k) = rw neither at rest in cc)
      ]
]

-- ---- rows of one key

is_that : (key : Key) (o : Option Key) → is_key key o ≡ true → o ≡ Some key
is_that key None h = absurd (cc)
is_that key (Some k) h = ap Some (key_same k key h)

ints_tied : (m n : ℤ) → m ≡ n → int_cmp m n ≡ Equal
ints_tied m n e = sym (value_cmp-Int m n) ∙ ap (λ x. value_cmp (Int m) (Int x)) (sym e) ∙ tied_itself value_cmp_total (Int m)

texts_tied : (s t : List ℕ) → s ≡ t → slice_cmp nat_cmp s t ≡ Equal
texts_tied s t e = sym (value_cmp-Text s t) ∙ ap (λ x. value_cmp (Text s) (Text x)) (sym e) ∙ tied_itself value_cmp_total (Text s)

-- rows of one key stand at one place of the order
pub key_tied : (key : Key) (a b : Row) → is_under key a ≡ true → is_under key b ≡ true → key_cmp a b ≡ Equal
key_tied key a b h k =
    let x = columns_of (id_in (column a 1)) (bytes (column a 2)) (bytes (column a 3)) key (is_that key (key_of a) h) in
    let y = columns_of (id_in (column b 1)) (bytes (column b 2)) (bytes (column b 3)) key (is_that key (key_of b) k) in
    ap₂ ordering_then (ints_tied _ _ (x.family_is ∙ sym y.family_is)) (ap₂ ordering_then (texts_tied _ _ (x.client_is ∙ sym y.client_is)) (texts_tied _ _ (x.name_is ∙ sym y.name_is)))

-- so do rows of one key at one place
pub held_tied : (key : Key) (place : ℕ) (a b : Row) → is_under_at key place a ≡ true → is_under_at key place b ≡ true → held_cmp a b ≡ Equal
held_tied key place a b h k =
    let x = and_parts (is_under key a) (int_eq (id_in (column a 4)) (pos place)) h in
    let y = and_parts (is_under key b) (int_eq (id_in (column b 4)) (pos place)) k in
    ap₂ ordering_then (key_tied key a b x.0 y.0) (ints_tied _ _ ((Decides-int_eq (id_in (column a 4)) (pos place)).0 x.1 ∙ sym ((Decides-int_eq (id_in (column b 4)) (pos place)).0 y.1)))

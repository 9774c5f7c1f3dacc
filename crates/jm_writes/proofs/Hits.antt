-- A row is found by the columns of its key.
use Rattle.std.proofs.Common.{◌≡◌, ◌⊎◌, inl, inr, ℕ, ℤ, pos, Bool, true, false, ◌&&◌, List, [], ◌∷◌, Option, Some, None, refl, sym, ap, ap₂, ◌∙◌, bytes_eq, eqb}
use Rattle.std.specs.Ordering.{int_eq}
use Rattle.std.proofs.lemmas.Bool.{cases_Bool, and_parts}
use Rattle.std.proofs.lemmas.Bool.Decides.{same_from_decides, Decides-int_eq}
use Rattle.std.proofs.lemmas.Slice.Eq.{bytes_eq-Decides}
use Rattle.jm_dest.specs.declared.key.Key.{Key}
use Rattle.jm_dest.specs.declared.key.Key.TheVariants.{Queue, Own, SharedOwn, Durable}
use Rattle.jm_dest.specs.Keys.{key_eq}
use Rattle.jm_dest.specs.Names.{text_eq, client_eq}
use Rattle.jm_machine.proofs.Keys.{key_refl, key_same, key_sym, text_same}
use Rattle.jm_machine.specs.Under.{is_key}
use Rattle.jm_keep.specs.Stored as stored
use Rattle.sqlite_value.specs.declared.value.Value.TheVariants.{Int, Text}
use Rattle.sqlite_value.specs.declared.keys.Collation.TheVariants.{Binary}
use Rattle.sqlite_value.specs.Order.{Row, column, bytes}
use Rattle.sqlite_sql.specs.declared.ops.BinaryOp.TheVariants.{Compare}
use Rattle.sqlite_sql.specs.declared.ops.CompareOp.TheVariants.{Eq}
use Rattle.sqlite_sql.specs.Ops.{binary, is_true}
use Rattle.sqlite_rules.specs.Edit.{id_in}
use Rattle.sqlite_trees.specs.Tree.{rowid}
use Rattle.jm_tables.specs.Keys.{client_in, queue_in, key_in, key_of}
use Rattle.jm_tables.specs.Rows.{is_under, is_under_at, is_at}
use Rattle.jm_writes.specs.Columns.{durable_family, family_of, text_of, client_of, name_of}
use Rattle.jm_writes.proofs.Edits.{hits}
use Rattle.jm_writes.proofs.Found.{same_place_back}
use Rattle.jm_writes.proofs.Said.{by_key, by_key_and_place, by_place}
use Rattle.jm_writes.proofs.Values.{eq_int, eq_text, IsKeyed, IsHeld}

text_bytes : (a b : List ℕ) → text_eq a b ≡ bytes_eq a b
text_bytes a b = same_from_decides (text_eq a b) (bytes_eq a b) (text_same a b, λ e. ap (text_eq a) (sym e) ∙ key_refl (Queue a)) (bytes_eq-Decides a b)

client_same : (t : List ℕ) (client : Option (List ℕ)) (family : ℤ) → durable_family client ≡ Some family → client_eq (client_in t) client ≡ bytes_eq t (text_of client)
client_same [] None family h = refl
client_same (x ∷ t) None family h = refl
client_same t (Some []) family h = absurd (cc)
client_same [] (Some (b ∷ more)) family h = refl
client_same (x ∷ t) (Some (b ∷ more)) family h = text_bytes (x ∷ t) (b ∷ more)

durable_is : (client : Option (List ℕ)) (family : ℤ) → durable_family client ≡ Some family → family ≡ pos 2
durable_is None family h = cc
durable_is (Some []) family h = absurd (cc)
durable_is (Some (b ∷ more)) family h = cc

queue_found : (c n q : List ℕ) → (bytes_eq c [] && bytes_eq n q) ≡ is_key (Queue q) (queue_in c n)
queue_found [] n q = sym (text_bytes n q)
queue_found (x ∷ c) n q = refl

queue_other : (client : Option (List ℕ)) (q c n : List ℕ) → false ≡ is_key (Durable client q) (queue_in c n)
queue_other client q [] n = refl
queue_other client q (x ∷ c) n = refl

columns_found : (key : Key) (family : ℤ) → family_of key ≡ Some family → (f : ℤ) (c n : List ℕ) → (int_eq f family && (bytes_eq c (client_of key) && bytes_eq n (name_of key))) ≡ is_key key (key_in f c n)
columns_found (Queue q) family h f c n =
    let is : family ≡ pos 1 = cc in
    rw is (elim (cases_Bool (int_eq f (pos 1))) [
      | inl one ↦ rw one (queue_found c n q)
      | inr not_one ↦ rw not_one (elim (int_eq f (pos 2)) as (λ b. false ≡ is_key (Queue q) (Rattle.std.proofs.Common.cond b (Some (Durable (client_in c) n)) None)) [ true ↦ refl | false ↦ refl ])
    ])
columns_found (Own s k) family h f c n = absurd (cc)
columns_found (SharedOwn client q) family h f c n = absurd (cc)
columns_found (Durable client q) family h f c n =
    let is = durable_is client family h in
    rw is (elim (cases_Bool (int_eq f (pos 1))) [
      | inl one ↦
          let apart : int_eq f (pos 2) ≡ false = ap (λ x. int_eq x (pos 2)) ((Decides-int_eq f (pos 1)).0 one) in
          rw (one, apart) (queue_other client q c n)
      | inr not_one ↦ rw not_one (elim (int_eq f (pos 2)) as (λ b. (b && (bytes_eq c (text_of client) && bytes_eq n q)) ≡ is_key (Durable client q) (Rattle.std.proofs.Common.cond b (Some (Durable (client_in c) n)) None)) [
        | true ↦ ap₂ ◌&&◌ (sym (client_same c client family h)) (sym (text_bytes n q))
        | false ↦ refl
      ])
    ])

and_true : (b : Bool) → (b && true) ≡ b
and_true true = refl
and_true false = refl

regroup : (a b c d : Bool) → (a && (b && (c && d))) ≡ ((a && (b && c)) && d)
regroup true true c d = refl
regroup true false c d = refl
regroup false b c d = refl

module _ (key : Key) (family : ℤ) (stands : family_of key ≡ Some family) (more : Row) (r : Row) where
  -- by its key
  pub hit_key : IsKeyed r → hits by_key (Int family ∷ Text (client_of key) ∷ Text (name_of key) ∷ more) r ≡ is_under key r
  hit_key is =
      ap₂ ◌&&◌ (ap (λ v. is_true (binary (Compare Eq Binary) v (Int family))) is.family ∙ eq_int (id_in (column r 1)) family)
      (ap₂ ◌&&◌ (ap (λ v. is_true (binary (Compare Eq Binary) v (Text (client_of key)))) is.client ∙ eq_text (bytes (column r 2)) (client_of key))
      (and_true _ ∙ ap (λ v. is_true (binary (Compare Eq Binary) v (Text (name_of key)))) is.name ∙ eq_text (bytes (column r 3)) (name_of key)))
      ∙ columns_found key family stands (id_in (column r 1)) (bytes (column r 2)) (bytes (column r 3))

  -- by its key and its place
  pub hit_held : (place : ℕ) → IsHeld r → hits by_key_and_place (Int family ∷ Text (client_of key) ∷ Text (name_of key) ∷ Int (pos place) ∷ more) r ≡ is_under_at key place r
  hit_held place is =
      ap₂ ◌&&◌ (ap (λ v. is_true (binary (Compare Eq Binary) v (Int family))) is.key.family ∙ eq_int (id_in (column r 1)) family)
      (ap₂ ◌&&◌ (ap (λ v. is_true (binary (Compare Eq Binary) v (Text (client_of key)))) is.key.client ∙ eq_text (bytes (column r 2)) (client_of key))
      (ap₂ ◌&&◌ (ap (λ v. is_true (binary (Compare Eq Binary) v (Text (name_of key)))) is.key.name ∙ eq_text (bytes (column r 3)) (name_of key))
      (and_true _ ∙ ap (λ v. is_true (binary (Compare Eq Binary) v (Int (pos place)))) is.place ∙ eq_int (id_in (column r 4)) (pos place))))
      ∙ regroup (int_eq (id_in (column r 1)) family) (bytes_eq (bytes (column r 2)) (client_of key)) (bytes_eq (bytes (column r 3)) (name_of key)) (int_eq (id_in (column r 4)) (pos place))
      ∙ ap (λ b. b && int_eq (id_in (column r 4)) (pos place)) (columns_found key family stands (id_in (column r 1)) (bytes (column r 2)) (bytes (column r 3)))

-- by its rowid
pub hit_place : (place : ℕ) (r : Row) → rowid r ≡ Int (id_in (rowid r)) → hits by_place (Int (pos place) ∷ []) r ≡ is_at place r
hit_place place r key = and_true _ ∙ ap (λ v. is_true (binary (Compare Eq Binary) v (Int (pos place)))) key ∙ eq_int (id_in (rowid r)) (pos place)

key_other : (k key : Key) (o : Option Key) → is_key k o ≡ true → is_key key o ≡ key_eq key k
key_other k key None h = absurd (cc)
key_other k key (Some x) h = ap (λ y. key_eq y key) (key_same x k h) ∙ key_sym k key

-- a row of one key is of the other where they are the same
pub under_other : (k key : Key) (r : Row) → is_under k r ≡ true → is_under key r ≡ key_eq key k
under_other k key r h = key_other k key (key_of r) h

pub under_at_other : (k key : Key) (p place : ℕ) (r : Row) → is_under_at k p r ≡ true → is_under_at key place r ≡ stored.is_at key place k p
under_at_other k key p place r h =
    let parts = and_parts (is_under k r) _ h in
    ap₂ ◌&&◌ (under_other k key r parts.0) (ap (λ n. int_eq n (pos place)) ((Decides-int_eq (id_in (column r 4)) (pos p)).0 parts.1) ∙ same_place_back p place)

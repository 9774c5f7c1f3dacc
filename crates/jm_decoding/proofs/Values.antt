-- What a value is by its kind, and how a fault of one part is one of the whole.
use Rattle.std.specs.Prelude.{◌≡◌, ℕ, true, List, [], ◌∷◌, Result, Ok, Err, IfErr, refl}
use Rattle.std.specs.Str.{is_utf8}
use Rattle.std.proofs.lemmas.Bool.{and_parts}
use Rattle.std.proofs.lemmas.Str.{is_utf8-from_IsUtf8, IsUtf8-nil}
use Rattle.jm_dest.specs.Names.{is_name, text_eq}
use Rattle.sqlite.specs.Kind.TheVariants.{Integer, Text as text}
use Rattle.sqlite_schema.specs.Rules.{kind_of}
use Rattle.sqlite_value.specs.declared.value.Value.{Value}
use Rattle.sqlite_value.specs.declared.value.Value.TheVariants.{Null, Int, Real, Text, Blob}
use Rattle.sqlite_value.specs.Order.{bytes}
use Rattle.sqlite_rules.specs.Edit.{id_in}
use Rattle.jm_tables.specs.Valid.{is_stored_client, is_stored_name}
use Rattle.jm_decoding.specs.declared.fault.RowFault.{RowFault}
use Rattle.jm_decoding.specs.declared.fault.RowFault.TheVariants.{Damaged, Memory}
use Rattle.jm_decoding.specs.Decoded.{IsFaultOfRow}

-- a value of the kind of numbers is its number
pub number_value : (v : Value) → kind_of v ≡ Integer → v ≡ Int (id_in v)
number_value Null h = cc
number_value (Int n) h = refl
number_value (Real x) h = cc
number_value (Text t) h = cc
number_value (Blob b) h = cc

-- a value of the kind of texts is its text
pub text_value : (v : Value) → kind_of v ≡ text → v ≡ Text (bytes v)
text_value Null h = cc
text_value (Int n) h = cc
text_value (Real x) h = cc
text_value (Text t) h = refl
text_value (Blob b) h = cc

-- only the empty text is the same as the empty one
pub empty_text : (t : List ℕ) → text_eq t [] ≡ true → t ≡ []
empty_text [] h = refl
empty_text (byte ∷ more) h = cc

-- the empty text is one of UTF-8
pub utf8_empty : is_utf8 [] ≡ true
utf8_empty = is_utf8-from_IsUtf8 [] IsUtf8-nil

-- a name is a text of UTF-8
pub utf8_name : (t : List ℕ) → is_stored_name t ≡ true → is_utf8 t ≡ true
utf8_name t h = (and_parts (is_utf8 t) (is_name t) h).0

-- a client is one
pub utf8_client : (t : List ℕ) → is_stored_client t ≡ true → is_utf8 t ≡ true
utf8_client [] h = utf8_empty
utf8_client (byte ∷ more) h = utf8_name (byte ∷ more) h

-- what is damaged in a part is damaged in the whole
pub fault_of_part : (Part Whole : Type 0) (fault : RowFault) → (Whole → Part) → IsFaultOfRow Part fault → IsFaultOfRow Whole fault
fault_of_part Part Whole Damaged part h = λ whole. h (part whole)
fault_of_part Part Whole Memory part h = tt

pub fault_of_whole : {A : Type 0} (Part Whole : Type 0) (result : Result A RowFault) → (Whole → Part) → IfErr result (IsFaultOfRow Part) → IfErr result (IsFaultOfRow Whole)
fault_of_whole Part Whole (Ok x) part h = tt
fault_of_whole Part Whole (Err fault) part h = fault_of_part Part Whole fault part h

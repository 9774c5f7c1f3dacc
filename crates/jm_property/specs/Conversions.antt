-- How a property is read as another type (Jakarta Messaging 3.1, section 3.5.4).
use Rattle.std.specs.Prelude.{ℕ, ◌+◌, ◌-◌, ◌^◌, ℤ, Bool, ◌&&◌, ◌==◌, not, nat_lt, if◌then◌else◌, List, length, Option, Some, None, codes}
use Rattle.std.specs.Fmt.{signed_decimal}
use Rattle.std.specs.Str.{all_ascii_digits, str_eq_ignore_ascii_case}
use Rattle.std.specs.Str.Parse.{digits_value, signed_digits_value, starts_with_minus, without_leading_sign}
use Rattle.jm_property.specs.declared.property.Property.{Property}
use Rattle.jm_property.specs.declared.property.Property.TheVariants.{Bool as Truth, Byte, Short, Int, Long, Text}

-- at least one decimal digit, and nothing else
abbrev pub is_numeral : List ℕ → Bool
is_numeral text = not (length text == 0) && all_ascii_digits text

-- the integer of so many bits that the text writes: an optional `+` or `-`, then a numeral in range
abbrev pub integer_of : ℕ → List ℕ → Option ℤ
integer_of bits text =
    let numeral = without_leading_sign text in
    let below = 2 ^ (bits - 1) + (if starts_with_minus text then 1 else 0) in
    if is_numeral numeral && nat_lt (digits_value 10 numeral) below then Some (signed_digits_value 10 text) else None

-- read as a boolean: a boolean itself, and of a text whether it is `true` in any ASCII case
abbrev pub as_boolean : Property → Option Bool
as_boolean (Truth value) = Some value
as_boolean (Byte _) = None
as_boolean (Short _) = None
as_boolean (Int _) = None
as_boolean (Long _) = None
as_boolean (Text text) = Some (str_eq_ignore_ascii_case text (codes "true"))

-- read as a byte: a byte, and a text that writes one
abbrev pub as_byte : Property → Option ℤ
as_byte (Truth _) = None
as_byte (Byte value) = Some value
as_byte (Short _) = None
as_byte (Int _) = None
as_byte (Long _) = None
as_byte (Text text) = integer_of 8 text

-- read as a short: a byte or a short, and a text that writes a short
abbrev pub as_short : Property → Option ℤ
as_short (Truth _) = None
as_short (Byte value) = Some value
as_short (Short value) = Some value
as_short (Int _) = None
as_short (Long _) = None
as_short (Text text) = integer_of 16 text

-- read as an int: a byte, a short or an int, and a text that writes an int
abbrev pub as_int : Property → Option ℤ
as_int (Truth _) = None
as_int (Byte value) = Some value
as_int (Short value) = Some value
as_int (Int value) = Some value
as_int (Long _) = None
as_int (Text text) = integer_of 32 text

-- read as a long: a byte, a short, an int or a long, and a text that writes a long
abbrev pub as_long : Property → Option ℤ
as_long (Truth _) = None
as_long (Byte value) = Some value
as_long (Short value) = Some value
as_long (Int value) = Some value
as_long (Long value) = Some value
as_long (Text text) = integer_of 64 text

-- read as a text: `true` or `false`, a number in plain decimal, and a text itself
abbrev pub as_text : Property → List ℕ
as_text (Truth value) = if value then codes "true" else codes "false"
as_text (Byte value) = signed_decimal value
as_text (Short value) = signed_decimal value
as_text (Int value) = signed_decimal value
as_text (Long value) = signed_decimal value
as_text (Text text) = text

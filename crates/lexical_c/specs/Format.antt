-- The format that a C caller passes.
use Rattle.std.specs.Prelude.{◌≡◌, ◌≢◌, ℕ, Option, None, Some, List, not, if◌then◌else◌, ◌==◌}
use Rattle.lexical_num.specs.Format.{Format, IsValid, standard}
use Rattle.lexical_write_integer.specs.Lowercase.{IsLowercase}
use Rattle.lexical_c.specs.declared.format.CFormat.{CFormat}

-- groups of this size with this separator between them, or no groups if the size is 0
abbrev pub grouping_of : ℕ → ℕ → Option (ℕ × ℕ)
grouping_of size mark = if size == 0 then None else Some (size, mark)

-- the format with these fields, which may be invalid; a `+` is required if `required_sign` is not 0
abbrev pub format_of : CFormat → Format
format_of format = record standard {
  mantissa_radix = format.radix;
  required_mantissa_sign = not (format.required_sign == 0);
  digit_grouping = grouping_of format.group_size format.mark;
}

-- the reserved fields are 0
pub record IsUnreserved (format : CFormat) : Type 0 where
  pub first : format.reserved_1 ≡ 0
  pub second : format.reserved_2 ≡ 0

-- every field except the radix, the mark and lowercase is 0
pub record HasOnlyRadixAndCase (format : CFormat) : Type 0 where
  pub sign : format.required_sign ≡ 0
  pub groups : format.group_size ≡ 0
  pub unreserved : IsUnreserved format

-- every field has a meaning
pub record IsAccepted (format : CFormat) : Type 0 where
  pub valid : IsValid (format_of format)
  pub unreserved : IsUnreserved format

-- a text of this kind if `lowercase` is 0, and otherwise such a text in lowercase
pub record InCase (lowercase : ℕ) (Is : List ℕ → Type 0) (text : List ℕ) : Type 0 where
  pub upper : lowercase ≡ 0 → Is text
  pub lower : lowercase ≢ 0 → IsLowercase Is text

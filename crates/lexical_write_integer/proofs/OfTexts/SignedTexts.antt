-- A sign, and the digits after it.
use Rattle.std.proofs.lemmas.Grind.{common_steps}
use Rattle.std.proofs.Common.{◌≡◌, Option, ℕ, ◌+◌, ◌-◌, ◌≤◌, List, ◌++◌, length, take, drop, ap, arith, ℤ, unsigned_abs}
use Rattle.std.proofs.lemmas.List.{length-take, take-append-drop}
use Rattle.std.proofs.lemmas.Slice.{drop-append-drop}
use Rattle.lexical_num.specs.Format.{Format}
use Rattle.lexical_num.specs.Sign.{sign_of}
use Rattle.lexical_write_integer.specs.Buffer.{Front, Writes, WritesDigits, WritesText}
use Rattle.lexical_write_integer.specs.Groups.{grouped}
use Rattle.lexical_write_integer.proofs.OfTexts.Grouping.Digits.{length-grouped_ge}
use borrow.Rule.Slice.PartMut.{put_mid}
use Rattle.lexical_write_integer.proofs.Buffers.Prefixes.{Writes-after, Writes-over}

-- ---- digits in groups, after the sign

-- a text of some kind, in groups
record IsGrouped (grouping : Option (ℕ × ℕ)) (Is : List ℕ → Type 0) (text : List ℕ) : Type 0 where
  pub digits : List ℕ
  pub is : Is digits
  pub whole : text ≡ grouped grouping digits

-- a text is written, and then put into groups
Writes-grouped : {Is : List ℕ → Type 0} (grouping : Option (ℕ × ℕ)) {before between after : List ℕ} {count total : ℕ}
    → Writes Is before between count → Front between after (grouped grouping (take count between))
    → total ≡ length (grouped grouping (take count between)) → Writes (IsGrouped grouping Is) before after total
Writes-grouped grouping {before} {between} {after} {count} w front long =
    grind (arith, common_steps, length-grouped_ge, drop-append-drop)

-- after the first `sign` bytes the digits of the magnitude are written, and then put into the groups of the format
pub record IsAfterSign (x : ℤ) (format : Format) (between written after : List ℕ) (sign digits total : ℕ) : Type 0 where
  pub sign_count : sign ≡ length (sign_of x format.required_mantissa_sign)
  pub magnitude : WritesDigits format.mantissa_radix (unsigned_abs x) (take (length between - sign) (drop sign between))
      written digits
  pub groups : Front written after (grouped format.digit_grouping (take digits written))
  pub total_count : total ≡ length (grouped format.digit_grouping (take digits written))

-- such digits, with the sign before them, are the text of the number
WritesText-after : {x : ℤ} {format : Format} {before between written after : List ℕ} {sign digits total : ℕ}
    → Front before between (sign_of x format.required_mantissa_sign)
    → IsAfterSign x format between written after sign digits total
    → WritesText x format before (put_mid sign (length between - sign) between after) (sign + total)
WritesText-after {x} {format} {before} {between} {written} {after} {sign} {digits} {total} front w =
    let sign_text = sign_of x format.required_mantissa_sign in
    Writes-after sign_text before between after sign (length between - sign) total w.sign_count front
    (λ text is. record {
      digits = is.digits;
      magnitude = is.is;
      whole = ap (λ following. sign_text ++ following) is.whole;
    })
    (Writes-grouped format.digit_grouping w.magnitude.writes w.groups w.total_count)

-- ---- a sign that may be empty, and a first byte that is written even then

-- such a sign and the digits after it are the text: without a sign, the first digit replaces that byte
pub WritesText-over : {x : ℤ} {format : Format} {before between written after : List ℕ} {sign digits total : ℕ}
    → take sign between ≡ sign_of x format.required_mantissa_sign → length between ≡ length before
    → drop 1 between ≡ drop 1 before
    → 1 ≤ digits → IsAfterSign x format between written after sign digits total
    → WritesText x format before (put_mid sign (length between - sign) between after) (sign + total)
WritesText-over {x} {format} {before} {between} {written} {sign = sign} {digits} is_sign same rest some w =
    grind (arith, length-take, take-append-drop, Writes-over, WritesText-after)

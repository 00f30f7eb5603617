-- Texts in formats without groups and required signs.
use mir.Val.{bool_byte}
use Rattle.std.proofs.lemmas.Grind.{common_steps}
use Rattle.std.proofs.Math.Nat.{div-lt_iff_lt-mul}
use Rattle.std.proofs.Common.{◌≡◌, None, Bool, ℕ, ◌-◌, ◌+◌, ◌*◌, ◌/◌, ◌<◌, ◌≤◌, ◌≤ℤ◌, ℤ, unsigned_abs, List, length}
use Rattle.std.proofs.Common.{take, drop, false, set, refl, sym, ap, ◌∙◌, arith}
use Rattle.lexical_num.specs.Format.{Format, IsRadix, IsValid, standard}
use Rattle.lexical_num.specs.Range.{least_of}
use Rattle.lexical_num.specs.Sign.{sign_of}
use Rattle.lexical_write_integer.specs.Buffer.{Front, Writes, WritesDigits, WritesText}
use Rattle.lexical_write_integer.specs.DigitCount.{digit_count}
use Rattle.lexical_write_integer.specs.Logarithm.{IsLog2}
use Rattle.lexical_write_integer.specs.Text.{need}
use Rattle.std.specs.Prelude.{◌≢◌}
use Rattle.lexical_c.specs.Format.{HasOnlyRadixAndCase, IsAccepted, format_of}
use Rattle.lexical_c.specs.declared.format.CFormat.{CFormat}
use Rattle.lexical_write_integer.proofs.Buffers.Prefixes.{take-Writes}
use Rattle.lexical_write_integer.proofs.OfDigits.Count.Logarithms.{IsLog2-lt, IsLog2-some, digit_count-le_log2}
use Rattle.lexical_write_integer.proofs.OfTexts.SignedTexts.{WritesText-over}
use borrow.Rule.Slice.PartMut.{put_mid}

-- a format that has only a radix and a case
pub only_radix : (format : CFormat) → HasOnlyRadixAndCase format
    → format_of format ≡ record standard { mantissa_radix = format.radix }
only_radix format only = rw (only.sign, only.groups) refl

-- the standard format in another radix is valid if the radix is
pub plain_valid : (radix : ℕ) → IsRadix radix → IsValid (record standard { mantissa_radix = radix })
plain_valid radix is = grind arith

-- a C format with nothing but a valid radix and a case is accepted
pub accepted : (format : CFormat) → HasOnlyRadixAndCase format → IsRadix format.radix → IsAccepted format
accepted format only radix = record {
  valid = rw (only_radix format only) (plain_valid format.radix radix);
  unreserved = only.unreserved;
}

-- without groups and a required sign a radix other than 10 needs the sign and the digits
pub need_plain : (x : ℤ) (r width : ℕ) → r ≢ 10
    → need x width (record standard { mantissa_radix = r }) ≡ length (sign_of x false) + digit_count r (unsigned_abs x)
need_plain x r width other = grind arith

-- a byte for each bit of a type, and one for the sign of a signed type, are enough for the sign and the digits
pub text_fits : (bits : ℕ) (is_signed : Bool) (x : ℤ) (r room : ℕ) → least_of bits is_signed ≤ℤ x
    → bits + bool_byte is_signed ≤ room → digit_count r (unsigned_abs x) ≤ bits
    → length (sign_of x false) + digit_count r (unsigned_abs x) ≤ room
text_fits bits is_signed x r room low enough few = grind arith

-- a number has at most as many digits as have its bits, if a digit has at least as many bits as the logarithm of the
-- radix
pub digits_of_bits : (r n log highest digits : ℕ) → 2 ≤ r → IsLog2 r log → IsLog2 n highest → highest < digits * log
    → digit_count r n ≤ digits
digits_of_bits r n log highest digits two of_radix of_number enough =
    let few = digit_count-le_log2 r n (highest + 1) log two of_radix (omega arith) (IsLog2-lt n highest of_number) in
    let less : highest / log < digits = (div-lt_iff_lt-mul (IsLog2-some r log two of_radix)).1 enough in
    grind (arith, few, less)

-- a buffer that begins with written bytes is unchanged if the same bytes are written again
own_front : {Is : List ℕ → Type 0} (before written : List ℕ) (count : ℕ) →
    Writes Is before written count → Front written written (take count written)
own_front before written count w = grind (arith, common_steps)

-- the character of a sign is the sign of a number that has one
pub take-sign : {sign : ℕ} (x : ℤ) (bytes : List ℕ) → sign ≡ length (sign_of x false) → 1 ≤ length bytes
    → take sign (set bytes 0 45) ≡ sign_of x false
take-sign x bytes is some = grind (arith, common_steps)

-- the digits of the magnitude after the sign are the text
pub after_sign : (x : ℤ) (format : Format) (before between written : List ℕ) (count digits : ℕ)
    → format.digit_grouping ≡ None →
    count ≡ length (sign_of x format.required_mantissa_sign)
    → take count between ≡ sign_of x format.required_mantissa_sign →
    length between ≡ length before → drop 1 between ≡ drop 1 before → 1 ≤ digits →
    WritesDigits format.mantissa_radix (unsigned_abs x) (take (length between - count) (drop count between))
    written digits →
    WritesText x format before (put_mid count (length between - count) between written) (count + digits)
after_sign x format before between written count digits none long sign same rest some w =
    WritesText-over sign same rest some record {
      sign_count = long;
      magnitude = w;
      groups = rw none (own_front _ written digits w.writes);
      total_count = rw none (w.writes.count ∙ sym (ap length (take-Writes _ written digits w.writes)));
    }

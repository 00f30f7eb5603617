-- What a function that writes promises, from what it knows of the text.
use Rattle.std.proofs.lemmas.Grind.{common_steps}
use Rattle.std.proofs.Common.{◌≡◌, Option, ℕ, ◌^◌, ◌<◌, ◌≤◌, ℤ, unsigned_abs, List, ◌++◌, length, map, take, drop}
use Rattle.std.proofs.Common.{length-append, refl, sym, ap, ◌∙◌, arith}
use Rattle.std.specs.Prelude.{◌≢◌}
use Rattle.std.specs.Char.{to_ascii_lowercase}
use Rattle.lexical_num.specs.Format.{Format, IsValid, grouped_length}
use Rattle.lexical_write_integer.specs.Buffer.{Front, Writes, WritesText}
use Rattle.lexical_write_integer.specs.Computed.{text_of}
use Rattle.lexical_write_integer.specs.Text.{IsText}
use Rattle.lexical_write_integer.proofs.Buffers.Lowercases.{written_lower}
use Rattle.lexical_write_integer.proofs.Buffers.Prefixes.{take-Writes, Writes-is}
use Rattle.lexical_write_integer.proofs.OfTexts.ComputedTexts.{text_computed}
use Rattle.lexical_c.specs.Buffer.{IsWritable, WritesIf, WritesOrRefuses}
use Rattle.lexical_c.specs.Format.{HasOnlyRadixAndCase, IsAccepted, format_of}
use Rattle.lexical_c.specs.declared.format.CFormat.{CFormat}
use Rattle.lexical_c.specs.declared.format.TheConstants.{DECIMAL}
use Rattle.lexical_c.proofs.Letters.{lowercase-IsText}
use Rattle.lexical_c.proofs.PlainTexts.{accepted}

-- the length of the written text is that of the computed text
pub length-written : (x : ℤ) (format : Format) (before after : List ℕ) (count : ℕ) → 2 ≤ format.mantissa_radix →
    unsigned_abs x < 2 ^ 64 → WritesText x format before after count → count ≡ length (text_of x format)
length-written x format before after count two small w =
    let computed = text_computed x format (take count after) two small in
    w.count ∙ ap length (sym (take-Writes before after count w) ∙ computed.0 (Writes-is before after count w))

-- the written bytes are in the buffer
pub count-le : {Is : List ℕ → Type 0} (before after : List ℕ) (count : ℕ) → Writes Is before after count
    → count ≤ length after
count-le before after count w = omega (
  arith,
  w.count,
  ap length w.front.written,
  length-append w.text (drop (length w.text) before),
)

-- as many as the result says can be taken from its start
pub count-length : {Is : List ℕ → Type 0} (before after : List ℕ) (count : ℕ) → Writes Is before after count
    → count ≡ length (take count after)
count-length before after count w = w.count ∙ ap length (sym (take-Writes before after count w))

-- digits in groups take at least one byte, if there is a digit
pub grouped_length-pos : (grouping : Option (ℕ × ℕ)) (count : ℕ) → 1 ≤ count → 1 ≤ grouped_length grouping count
grouped_length-pos grouping count some = grind arith

-- the text of a number is not empty
pub some-written : (x : ℤ) (format : Format) (before after : List ℕ) (count : ℕ) → IsValid format
    → WritesText x format before after count → 1 ≤ count
some-written x format before after count valid w = grind (arith, common_steps)

-- the text of a number in a format that is accepted is the result
pub written : (x : ℤ) (format : CFormat) (before after : List ℕ) (count : ℕ) → IsAccepted format
    → unsigned_abs x < 2 ^ 64 →
    WritesText x (format_of format) before after count
    → WritesIf x format (IsText x (format_of format)) before after count
written x format before after count accepted small w =
    let computed = length-written x (format_of format)
    before after count accepted.valid.mantissa.at_least_two small w in
    let some = some-written x (format_of format) before after count accepted.valid w in
    grind arith

-- the text is written to an array, and copied from there to the start of the buffer
pub written_by_copy : (x : ℤ) (format : CFormat) (array with_text before after : List ℕ) (count copy : ℕ)
    → IsAccepted format →
    unsigned_abs x < 2 ^ 64 → WritesText x (format_of format) array with_text count
    → Front before after (take count with_text) →
    copy ≡ length (take count with_text) → WritesIf x format (IsText x (format_of format)) before after copy
written_by_copy x format array with_text before after count copy accepted small w front long =
    written x format before after copy accepted small
    record { text = take count with_text; is = Writes-is array with_text count w; front = front; count = long }

-- the number cannot be written, so the result is 0 and the buffer is unchanged
pub refused : (x : ℤ) (format : CFormat) (Is : List ℕ → Type 0) (buffer : List ℕ)
    → ¬ IsWritable x format (length buffer) →
    WritesIf x format Is buffer buffer 0
refused x format Is buffer cannot = grind arith

-- what writes texts of one kind writes texts of another, if each of the first kind is also of the second
WritesIf-as : {x : ℤ} {format : CFormat} {Is Also : List ℕ → Type 0} {before after : List ℕ} {count : ℕ}
    → ((text : List ℕ) → Is text → Also text) →
    WritesIf x format Is before after count → WritesIf x format Also before after count
WritesIf-as also w = grind arith

-- without groups, in radix 10 or below if lowercase is requested, the text is in the requested case
pub in_either_case : (x : ℤ) (format : CFormat) (before after : List ℕ) (count : ℕ) → format.group_size ≡ 0 →
    (format.lowercase ≢ 0 → format.radix ≤ 10) → WritesIf x format (IsText x (format_of format)) before after count →
    WritesOrRefuses x format before after count
in_either_case x format before after count none few w = WritesIf-as (λ text is. record {
  upper = λ _. is;
  lower = λ other. record {
    original = text;
    is = is;
    whole = lowercase-IsText x (format_of format) text (few other) (rw none refl) is;
  };
}) w

-- the standard format is accepted
pub decimal_accepted : IsAccepted DECIMAL
decimal_accepted = grind arith

-- its text is in the requested case
pub in_decimal : (x : ℤ) (before after : List ℕ) (count : ℕ)
    → WritesIf x DECIMAL (IsText x (format_of DECIMAL)) before after count →
    WritesOrRefuses x DECIMAL before after count
in_decimal x before after count = in_either_case x DECIMAL before after count refl (λ other. absurd (other refl))

-- in radix 10 a format with only a radix and a case is like the standard format
pub as_decimal : (x : ℤ) (format : CFormat) (before after : List ℕ) (count : ℕ) → HasOnlyRadixAndCase format
    → format.radix ≡ 10 →
    WritesOrRefuses x DECIMAL before after count → WritesOrRefuses x format before after count
as_decimal x format before after count only ten w = grind (arith, in_either_case)

-- without lowercase, the text is in the requested case
pub in_uppercase : (x : ℤ) (format : CFormat) (before after : List ℕ) (count : ℕ) → format.lowercase ≡ 0 →
    WritesIf x format (IsText x (format_of format)) before after count → WritesOrRefuses x format before after count
in_uppercase x format before after count upper w = grind arith

-- with lowercase, the letters of the written text are changed where they are
pub in_lowercase : (x : ℤ) (format : CFormat) (before between lower : List ℕ) (count : ℕ) → format.lowercase ≢ 0 →
    WritesIf x format (IsText x (format_of format)) before between count
    → lower ≡ map to_ascii_lowercase (take count between) →
    WritesOrRefuses x format before (lower ++ drop count between) count
in_lowercase x format before between lower count other w is =
    WritesIf-as (λ text lowered. record { upper = λ none. absurd (other none); lower = λ _. lowered })
    record {
      accepts = w.accepts;
      text = λ some. written_lower (w.text some) is;
      refused = λ none. rw (is, none) (w.refused none);
    }

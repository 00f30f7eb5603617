-- The parts of a line.
use Rattle.std.proofs.Common.{◌≡◌, ◌≢◌, ℕ, List, [], ◌∷◌, ◌++◌, Bool, true, sym, ◌∙◌, ℤ, arith, Some, length}
use Rattle.std.proofs.lemmas.List.{append-nil}
use Rattle.std.proofs.lemmas.Option.{cond_some}
use Rattle.std.specs.Prelude.{nat_le}
use Rattle.std.specs.Io.{StartsWith}
use Rattle.std.specs.List.{All}
use Rattle.std.proofs.lemmas.List.Elements.{All-weaker}
use Rattle.lexical_lines.specs.declared.request.integer_type.IntegerType.{IntegerType}
use Rattle.lexical_lines.specs.Decimal.{IsDecimalNumeral, IsDigitByte}
use Rattle.lexical_lines.specs.IntegerType.{name_of}
use Rattle.lexical_lines.specs.Line.{short_line}
use Rattle.lexical_lines.specs.Request.{IsRequest, IsValue}
use Rattle.lexical_lines.specs.Split.{Lacks, optional_sign}
use Rattle.lexical_lines.proofs.Decimals.{IsDecimalNumeral-from_digits}
use Rattle.lexical_lines.proofs.IntegerTypes.{name_unique}
use Rattle.lexical_lines.proofs.Signs.{stripped_unique, digits-unsigned, digits-stripped}
use Rattle.lexical_lines.proofs.Splits.{cut_unique}

-- a line that was kept is the whole line
pub short_line-is : {line bytes : List ℕ} → Some line ≡ short_line bytes → bytes ≡ line
short_line-is {line} {bytes} is = (cond_some (nat_le (length bytes) 64) bytes line (sym is)).1

-- a text of decimal digits has no space
no_space : (text : List ℕ) → All IsDigitByte text → Lacks 32 text
no_space text h = All-weaker IsDigitByte (λ byte. byte ≢ 32) (λ byte digit e. omega arith) text h

-- ---- the parts of a valid line are unique

module _ {kind : IntegerType} {plus : Bool} {radix : ℕ} {number : ℤ} {line : List ℕ}
    (h : IsRequest kind plus radix number line) where
  -- the text of the radix is a decimal numeral of it
  pub radix_decimal : IsDecimalNumeral radix h.radix_text
  radix_decimal = IsDecimalNumeral-from_digits radix h.radix_text h.radix_digits

  -- what follows the optional sign of the radix
  abbrev pub radix_value : List ℕ
  radix_value = h.radix_text ++ 32 ∷ h.value_text

  -- if what follows the type and a space begins with `+`, the line has the `+`
  pub radix-stripped : StartsWith (optional_sign plus 43 ++ radix_value) (43 ∷ []) → plus ≡ true
  radix-stripped = digits-stripped 43 plus h.radix_text (32 ∷ h.value_text) (omega arith)
      radix_decimal.nonempty radix_decimal.bytes

  -- there is one way to read a valid line as a type, an optional `+` and what follows it
  pub IsRequest-front : (found : IntegerType) (rest text : List ℕ) (add : Bool) → line ≡ name_of found ++ 32 ∷ rest
      → rest ≡ optional_sign add 43 ++ text
      → (StartsWith rest (43 ∷ []) → add ≡ true) → (found ≡ kind) × (add ≡ plus) × (text ≡ radix_value)
  IsRequest-front found rest text add named e stripped =
      let name = name_unique found kind rest (optional_sign plus 43 ++ radix_value) (sym named ∙ h.whole) in
      let parts = stripped_unique 43 rest text radix_value add plus e stripped name.1
      (digits-unsigned 43 h.radix_text (32 ∷ h.value_text) (omega arith) radix_decimal.nonempty radix_decimal.bytes) in
      (name.0, parts.0, parts.1)

  -- there is one way to read what follows the type as digits, a space and a value
  pub IsRequest-value : (digits value : List ℕ) → radix_value ≡ digits ++ 32 ∷ value → All IsDigitByte digits
      → (digits ≡ h.radix_text) × (value ≡ h.value_text)
  IsRequest-value digits value e bytes =
      cut_unique 32 digits value h.radix_text h.value_text (no_space digits bytes)
      (no_space h.radix_text radix_decimal.bytes) (sym e)

module _ {kind : IntegerType} {number : ℤ} {text : List ℕ} (h : IsValue kind number text) where
  -- the sign of a value and its digits
  pub IsValue-parts : (digits : List ℕ) (minus : Bool) → text ≡ optional_sign minus 45 ++ digits
      → (StartsWith text (45 ∷ []) → minus ≡ true)
      → (minus ≡ h.minus) × (digits ≡ h.digits)
  IsValue-parts digits minus e stripped = stripped_unique 45 text digits h.digits minus h.minus e stripped h.whole
      (λ begins. digits-unsigned 45 h.digits [] (omega arith) h.decimal.nonempty h.decimal.bytes (rw append-nil begins))

  -- if the text begins with `-`, the value has the `-`
  pub value-stripped : StartsWith text (45 ∷ []) → h.minus ≡ true
  value-stripped begins = digits-stripped 45 h.minus h.digits [] (omega arith) h.decimal.nonempty h.decimal.bytes
      (rw append-nil (rw h.whole at begins))

-- What `{}` of a part writes, of which the contract says the kind of text.
use Rattle.std.specs.Prelude.{ℕ, ◌<◌, List, Option, None, Result, IsOk, if◌then◌else◌, nat_lt}
use Rattle.std.specs.Fmt.{HasWrittenStyled, IsFlush, WritesInCalls, formatter_spec, styled_text}
use Rattle.std.specs.Option.{option_map}
use Rattle.std.specs.declared.fmt.Formatter.{Formatter}
use Rattle.std.specs.declared.fmt.Error.{Error}

-- a text of the kind is written to the writer w, which is v afterwards
pub record WritesSome {W : Type 0} (took : W → List ℕ → W → Type 0) (IsOf : List ℕ → Type 0) (w v : W) : Type 0 where
  pub text : List ℕ
  pub is : IsOf text
  pub wrote : WritesInCalls took w text v

-- a text of the kind is written to the formatter f, as `{}` writes a `&str`: with the width and the precision of f
pub record ShowsSome {W : Type 0} (took : W → List ℕ → W → Type 0) (IsOf : List ℕ → Type 0) (f g : Formatter W)
    : Type 0 where
  pub text : List ℕ
  pub is : IsOf text
  pub wrote : HasWrittenStyled took f (styled_text (formatter_spec f) text) g

-- the formatter has one of the alignments that a format string can have, or no width
abbrev pub IsAligned : {W : Type 0} → Formatter W → Type 0
IsAligned f = 0 < (formatter_spec f).width → (formatter_spec f).align < 4

-- a text is shown if the result is `Ok` and f indents nothing
abbrev pub ShowsSomeOnOk : {W : Type 0} → (W → List ℕ → W → Type 0) → Formatter W → Result (Unit {0}) Error
    → (List ℕ → Type 0) → Formatter W → Type 0
ShowsSomeOnOk took f result IsOf g = IsFlush f → IsAligned f → IsOk result → ShowsSome took IsOf f g

-- what is written of a text, if it is known, with options that have this alignment
abbrev pub aligned_text : ℕ → (List ℕ → List ℕ) → Option (List ℕ) → Option (List ℕ)
aligned_text align change text = if nat_lt align 4 then option_map change text else None

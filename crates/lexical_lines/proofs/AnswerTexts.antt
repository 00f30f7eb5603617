-- The texts that make an answer.
use Rattle.std.proofs.Common.{ℕ, ◌+◌, ◌<◌, List, [], ◌∷◌, ◌++◌, length, set, refl, sym, ap, ◌∙◌, length-append}
use Rattle.std.specs.Prelude.{codes, pos}
use Rattle.lexical_num.specs.Format.{standard}
use Rattle.lexical_write_integer.specs.Buffer.{Writes}
use Rattle.lexical_write_integer.specs.Text.{IsText}
use Rattle.lexical_lines.specs.Answer.{WithNewline, IsBadLine}
use Rattle.lexical_lines.proofs.Buffers.{Front-push}

-- a newline after a text
pub Writes-newline : {Is : List ℕ → Type 0} (before after : List ℕ) (count : ℕ) → Writes Is before after count
    → count < length before → Writes (WithNewline Is) before (set after count 10) (count + 1)
Writes-newline before after count w room = record {
  text = w.text ++ 10 ∷ [];
  is = (w.text, w.is, refl);
  front = Front-push before after w.text count 10 w.count w.front room;
  count = ap (λ k. k + 1) w.count ∙ sym (length-append w.text (10 ∷ []));
}

-- `bad line ` before a decimal number
pub IsBadLine-from : (n : ℕ) (line : List ℕ) → WithNewline (IsText (pos n) standard) line
    → WithNewline (IsBadLine n) (codes "bad line " ++ line)
IsBadLine-from n line (text, is, whole) = (
  codes "bad line " ++ text,
  (is.digits, is.magnitude, ap (λ digits. codes "bad line " ++ digits) is.whole),
  ap (λ bytes. codes "bad line " ++ bytes) whole,
)

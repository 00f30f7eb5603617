-- Texts of one kind that are also of another kind.
use Rattle.std.proofs.Common.{ℕ, List, refl, true, ℤ, pos, unsigned_abs, arith}
use Rattle.lexical_num.specs.Format.{standard}
use Rattle.lexical_num.specs.Sign.{sign_of}
use Rattle.lexical_write_integer.specs.Buffer.{Writes}
use Rattle.lexical_write_integer.specs.Sequence.{IsExactly, Then}
use Rattle.lexical_write_integer.specs.Text.{IsDigits, IsText}
use Rattle.lexical_parts.specs.Plus.{IsPlus}

-- what was written as a text of the one kind was written as one of the other
pub written_as : {A B : List ℕ → Type 0} {before after : List ℕ} {count : ℕ} → ((text : List ℕ) → A text → B text)
    → Writes A before after count → Writes B before after count
written_as change w = record { text = w.text; is = change w.text w.is; front = w.front; count = w.count }

-- two texts in a row are of two other kinds if each of them is of the other kind
pub then_as : {A B C D : List ℕ → Type 0} → ((text : List ℕ) → A text → C text) → ((text : List ℕ) → B text → D text)
    → (text : List ℕ) → Then A B text → Then C D text
then_as first second text is = grind arith

-- a sign and digits
pub IsPlus-from_then : {number : ℤ} (text : List ℕ)
    → Then (IsExactly (sign_of number true)) (IsDigits 10 (unsigned_abs number)) text → IsPlus number text
IsPlus-from_then text is = record { digits = is.second; magnitude = is.is_second; whole = rw is.is_first at is.whole }

-- the text of a number without a sign and groups
pub IsDigits-from_text : {number : ℕ} (text : List ℕ) → IsText (pos number) standard text → IsDigits 10 number text
IsDigits-from_text text is = rw is.whole is.magnitude

-- the digits of a number are its text in the standard format
pub IsDigits-as_text : {number : ℕ} (text : List ℕ) → IsDigits 10 number text → IsText (pos number) standard text
IsDigits-as_text text is = record { digits = text; magnitude = is; whole = refl }

use Rattle.std.proofs.Common.{◌≤◌, List, length, take, drop, set, ◌++◌, ◌≡◌, ℕ, ◌*◌, ◌/◌, ◌%◌, ◌<◌, [], ◌∷◌, map, refl}
use Rattle.std.proofs.Common.{arith, rules}
use Rattle.std.proofs.lemmas.List.Elements.{All-nil, All-cons}
use Rattle.lexical_num.specs.Digit.{digit_char}
use Rattle.lexical_parts.proofs.texts.hex_bytes.HexBytePart.write_to.Goals as goal

-- the second digit, and then the first
stores : (buffer : List ℕ) (x y : ℕ) → 2 ≤ length buffer
    → set (set (take 2 buffer) 1 y) 0 x ++ drop 2 buffer ≡ x ∷ y ∷ drop 2 buffer
stores [] x y room = absurd (omega arith)
stores (a ∷ []) x y room = absurd (omega arith)
stores (a ∷ b ∷ buffer) x y room = refl

pub returns-clause-text : goal.returns-clause-text
returns-clause-text c =
    let byte = c.args.self.0 in
    let digits = byte / 16 ∷ byte % 16 ∷ [] in
    let within : byte < 16 * 16 = search rules in
    let is_digit : ℕ → Type 0 = λ d. d < 16 in
    let last = All-cons is_digit (byte % 16) [] (omega arith) (All-nil is_digit) in
    let below = All-cons is_digit (byte / 16) (byte % 16 ∷ []) (omega arith) last in
    rw (c.from-index.ensures, c.get_table-table.ensures.first byte within, c.get_table-table.ensures.second byte within)
    (record {
      text = map digit_char digits;
      is = record {
        digits = digits;
        block = record { counted = refl; below_radix = below; value = omega arith };
        characters = refl;
      };
      front = record {
        fits = c.requires.room;
        written = stores c.args.buffer.now (digit_char (byte / 16))
            (digit_char (byte % 16)) c.requires.room;
      };
      count = refl;
    })

use Rattle.std.proofs.Common.{ℤ, ℕ, List, [], ◌∷◌}
use Rattle.std.specs.Prelude.{◌≢◌}
use Rattle.std.specs.List.{All}
use Rattle.lexical_write_integer.specs.Text.{IsText}
use Rattle.lexical_write_integer.proofs.OfTexts.Orders.{equal_from_IsText}
use Rattle.lexical_write_integer.proofs.OfTexts.Rows.{has_one, rows, split, text_none, text_some}
use Rattle.lexical_write_integer.proofs.laws.rows.equal_rows.Goals as goal

pub returns : goal.returns
returns g c =
    let number = g.T.LexicalInteger.number in
    let f = c.args.format.now in
    let p = c.args.separator in
    let none : (n : ℤ) (text : List ℕ) → IsText n f text → All (λ b. b ≢ p) text = λ n text.
    text_none p n f text c.requires.groups c.requires.other c.requires.plus c.requires.minus
    c.in_range.ensures.mantissa.at_most_36 in
    rows (λ x. IsText (number x) f) (p ∷ []) (λ x text. text_some (number x) f text c.requires.groups)
    (λ x y text is also. g.met.T.LexicalInteger.equal_by_number x y
    (equal_from_IsText (number x) (number y) f text is also))
    (λ x y a b r q is also. split p a b r q (none (number x) a is) (none (number y) b also))
    (λ x y a b r is also some whole. has_one p b r (rw whole at (none (number x) a is))) _ _

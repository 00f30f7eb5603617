use Rattle.std.proofs.Common.{◌≡◌, ◌+◌, arith}
use Rattle.lexical_write_integer.specs.Text.{need}
use Rattle.lexical_write_integer.proofs.texts.to_lexical.ToLexicalWithOptions.required_len.Goals as goal
use Rattle.lexical_write_integer.proofs.texts.to_lexical.ToLexicalWithOptions.required_len.Goals.{After-grouped_len}
use Rattle.lexical_write_integer.proofs.texts.to_lexical.ToLexicalWithOptions.required_len.Goals.{then-radix-eq10}
use Rattle.lexical_write_integer.proofs.texts.to_lexical.ToLexicalWithOptions.required_len.Goals.{else-radix-eq10}

-- the sum is the required length, in each case of the radix
need_is : (g : _) (c : After-grouped_len g)
    → c.sign_len.result + c.grouped_len.result ≡ need (g.Self.LexicalInteger.number c.args.self)
    g.Self.LexicalInteger.DECIMAL_WIDTH c.args.format.now
need_is g c = grind arith

-- the check finds this proof by itself, but with an answer the refusal of a mistake says what is wrong
pub returns-clause-need : goal.returns-clause-need
returns-clause-need g c = need_is g c

pub returns-clause-at_most : goal.returns-clause-at_most
returns-clause-at_most g c = omega (arith, need_is g c, c.size_suffices.ensures)

use Rattle.std.proofs.Common.{◌*◌, ap}
use Rattle.std.proofs.lemmas.Nat.{and_mask}
use Rattle.lexical_write_integer.proofs.OfDigits.Decimal.Fractions.{Carries-first, Carries-next}
use Rattle.lexical_write_integer.proofs.digits.decimal.kernels.next2.Goals as goal

-- the check finds this proof by itself, but with an answer the refusal of a mistake says what is wrong
pub returns-clause-product : goal.returns-clause-product
returns-clause-product c = ap (λ k. k * 100) (and_mask c.args.prod.now 32)

pub returns-clause-carries : goal.returns-clause-carries
returns-clause-carries c = λ n k some carries. rw (and_mask c.args.prod.now 32) (Carries-next some carries)

pub returns-clause-next_pair : goal.returns-clause-next_pair
returns-clause-next_pair c = λ n k some carries. rw (and_mask c.args.prod.now 32)
    (Carries-first (Carries-next some carries))

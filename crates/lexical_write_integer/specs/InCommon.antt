-- Kinds of texts that have a text in common.
use Rattle.std.specs.Prelude.{ℕ, List}

-- a text that is of both kinds
pub record HaveInCommon (Is Also : List ℕ → Type 0) : Type 0 where
  pub text : List ℕ
  pub is : Is text
  pub also : Also text

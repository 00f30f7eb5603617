-- The text of an IPv6 address.
use Rattle.std.specs.Prelude.{ℕ, List, codes}
use Rattle.lexical_write_integer.specs.Sequence.{AreJoined}
use Rattle.lexical_write_integer.specs.Text.{IsDigits}
use Rattle.lexical_write_integer.specs.Lowercase.{IsLowercase}

-- groups in radix 16 and in lowercase, with colons between them: `2001:db8:0:0:8:800:200c:417a`
abbrev pub IsAddress : List ℕ → List ℕ → Type 0
IsAddress = AreJoined (λ group. IsLowercase (IsDigits 16 group)) (codes ":")

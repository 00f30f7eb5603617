-- Tables of powers of ten.
use Rattle.std.specs.Prelude.{◌≡◌, ℕ, ◌+◌, ◌^◌, ◌<◌, ◌≤◌, List, length, map}
use Rattle.std.specs.List.{range_with_len}

-- the powers of ten from 10 upwards, in rising order: all that are below the limit, and nothing else
pub record IsPowersOfTen (limit : ℕ) (powers : List ℕ) : Type 0 where
  pub rising : powers ≡ map (λ e. 10 ^ e) (range_with_len 1 (length powers))
  pub below : 10 ^ length powers < limit
  pub all : limit ≤ 10 ^ (length powers + 1)

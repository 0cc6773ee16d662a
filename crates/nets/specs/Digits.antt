-- Binary digits.
use Rattle.std.specs.Prelude.{ℕ, zero, suc, ◌+◌, ◌*◌, ◌/◌, ◌%◌, ◌^◌, ◌<◌, ◌≤◌}

-- the binary digit of n with weight 2^r
abbrev pub digit : (n r : ℕ) → ℕ
digit n r = n / 2 ^ r % 2

-- the number whose n binary digits, from the top, are b 0, b 1, .., b (n - 1)
abbrev pub word : ℕ → (ℕ → ℕ) → ℕ
word zero b = 0
word (suc n) b = word n b * 2 + b n

-- n is the bit length of i, the number of its binary digits up to the highest that is 1: i reaches each power of two
-- below the n-th, and not the n-th itself. That of 0 is 0
pub record IsBitLength (i n : ℕ) : Type 0 where
  pub reaches : (k : ℕ) → k < n → 2 ^ k ≤ i
  pub below : i < 2 ^ n

-- What a refusal tells.
use Rattle.std.specs.Prelude.{ℕ, List}

-- a refusal by its number and its values, or want of memory, which has no number
pub data Told : Type 0 where
  refused : (number : ℕ) (values : List ℕ) → Told
  no_memory : Told

-- the number that is told; want of memory has none, and stands as 0
abbrev pub number_of : Told → ℕ
number_of (refused number _) = number
number_of no_memory = 0

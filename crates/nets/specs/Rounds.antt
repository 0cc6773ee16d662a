-- The rounds in which a plan makes a place.
use Rattle.std.specs.Prelude.{ℕ, Bool, true, false, Some, None, ⊤, Option}
use Rattle.nets.specs.Digits.{IsBitLength}

-- what is told of the rounds in which the place at index i is made: if the plan counts them, one for each binary digit
-- of i up to the highest that is 1, and else nothing
abbrev pub TellsRounds : (counts : Bool) (i : ℕ) → Option ℕ → Type 0
TellsRounds true i (Some n) = IsBitLength i n
TellsRounds false i None = ⊤
TellsRounds _ i _ = ⊥

-- A table of checks. They run from the top, and the first that is not passed refuses.
use Rattle.std.specs.Prelude.{List, [], ◌∷◌, ◌⊎◌, ⊤}
use Rattle.refusals.specs.Told.{Told}

-- when it is passed, and what may be told where it is not
pub record Check : Type 1 where
  pub Passed : Type 0
  pub Tells : Told → Type 0

abbrev pub Passes : List Check → Type 0
Passes [] = ⊤
Passes (c ∷ cs) = c.Passed × Passes cs

-- what the first check tells that is not passed
abbrev pub FirstTells : List Check → Told → Type 0
FirstTells [] t = ⊥
FirstTells (c ∷ cs) t = ((c.Passed → ⊥) × c.Tells t) ⊎ (c.Passed × FirstTells cs t)

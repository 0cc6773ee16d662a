-- What replacing steps answers, and what the map then holds.
use Rattle.std.specs.Prelude.{◌≡◌, ◌≤◌, List, ◌++◌, length, Ok, Err, Result}
use Rattle.coats.specs.declared.faults.MapFault.{MapFault}
use Rattle.coats.specs.Refusals.{IsGood, RefusesRows, map_told}
use Rattle.steps.specs.declared.steps.TheConstants.{MOST_STEPS}
use Rattle.steps.specs.declared.steps.Steps.{Steps}
use Rattle.steps.specs.declared.steps.TheConstants.{MOST_STEPS}
use Rattle.steps.specs.declared.step.Step.{Step}
use Rattle.steps.specs.Rows.{HasStepBounds, steps_terms}

-- at most MOST_STEPS steps along each axis
abbrev pub AreFew : (xs ys : List Step) → Type 0
AreFew xs ys = (length xs ≤ MOST_STEPS) × (length ys ≤ MOST_STEPS)

-- the steps along y are numbered after those along x
abbrev pub ReplacesSteps : (xs ys : List Step) (old new : Steps) → {X : Type 0} → Result X MapFault → Type 0
ReplacesSteps xs ys old new (Ok _) =
    IsGood (AreFew xs ys) HasStepBounds (xs ++ ys) (steps_terms xs ys)
    × (new.x.items ≡ xs) × (new.y.items ≡ ys)
ReplacesSteps xs ys old new (Err e) =
    RefusesRows (AreFew xs ys) HasStepBounds (xs ++ ys) (steps_terms xs ys) (map_told e) × (new ≡ old)

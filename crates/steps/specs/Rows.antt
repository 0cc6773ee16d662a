-- Steps: the bounds of a row, and the terms that rows mean.
use Rattle.std.specs.Prelude.{ℕ, if◌then◌else◌, List, map, ℤ, pos, ◌*ℤ◌, nat_lt}
use Rattle.std.specs.List.{flat_map}
use Rattle.coats.specs.declared.term.Term.{Term}
use Rattle.coats.specs.Terms.{IsSide, term}
use Rattle.steps.specs.declared.step.Step.{Step}

abbrev pub HasStepBounds : Step → Type 0
HasStepBounds s = IsSide s.bound

-- the pairing of a step (g, u) of x and a step (h, v) of y
abbrev pub pairing : (a b : Step) → Term
pairing a b = term (a.value *ℤ b.value) a.bound b.bound

-- each step of x paired with each step of y
abbrev pub steps_terms : (xs ys : List Step) → List Term
steps_terms xs ys = flat_map (λ a. map (pairing a) ys) xs

-- what a step adds at a coordinate
abbrev pub rise_of : ℕ → Step → ℤ
rise_of a s = if nat_lt a s.bound then s.value else pos 0

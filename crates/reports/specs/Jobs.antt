-- What is said of a job.
use Rattle.std.specs.Prelude.{ℕ, List, Ok, Err, Result}
use Rattle.layers.specs.LayerNumbers.{layers_of}
use Rattle.plans.specs.Plans.{level_of, places_of}
use Rattle.maps.specs.Kinds.{terms_of}
use Rattle.survey.specs.Setups.{Setup}
use Rattle.jobs.specs.declared.recipe.Recipe.{Recipe}
use Rattle.jobs.specs.Checks.{NeedsMemory, checks}
use Rattle.refusals.specs.Checks.{FirstTells}
use Rattle.jobs.specs.Jobs.{IsJob}
use Rattle.jobs.specs.Refusals.{refusal_told}
use Rattle.reports.specs.Measures.{Measures}
use Rattle.reports.specs.declared.outcome.Outcome.{Outcome}
use Rattle.reports.specs.declared.outcome.Outcome.TheVariants.{Measured, Refused}

-- a recipe by its plan, with the layers on it, and the terms of its map
abbrev pub meaning : Recipe → Setup
meaning r = record {
  plan = record { level = level_of r.plan; places = layers_of r.layers (places_of r.plan) };
  map = record { terms = terms_of r.map };
}

-- a job that is read is measured, and any other is refused by the first check that it does not pass
abbrev pub Says : (job : List ℕ) → Outcome → Type 0
Says job (Measured x) = (r : Recipe) × IsJob job r × Measures (meaning r) x
Says job (Refused e) = FirstTells (checks job) (refusal_told e)

-- it is said, unless memory is wanting
abbrev pub Examines : (job : List ℕ) → {X : Type 0} → Result Outcome X → Type 0
Examines job (Ok o) = Says job o
Examines job (Err _) = NeedsMemory job

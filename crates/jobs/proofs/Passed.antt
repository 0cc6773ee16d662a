-- The checks of a whole job, from those of its sections.
use Rattle.std.proofs.Common.{ℕ, List, ◌++◌, inl, inr, Ok, Err, Result}
use Rattle.refusals.specs.Told.{Told}
use Rattle.refusals.specs.Checks.{Check, Passes, FirstTells}
use Rattle.refusals.proofs.Checks.{passes_append, tells_before, tells_after, not_refused}
use Rattle.jobs.specs.declared.job_fault.JobFault.{JobFault}
use Rattle.jobs.specs.declared.recipe.Recipe.{Recipe}
use Rattle.jobs.specs.Jobs.{Parses, Accepts}
use Rattle.jobs.specs.Checks.{directory_checks, plan_checks_of, layer_checks_of, map_checks_of, checks}

module _ (job : List ℕ) where
  abbrev after_layers : List Check
  after_layers = map_checks_of job

  abbrev after_plan : List Check
  after_plan = layer_checks_of job ++ after_layers

  abbrev after_directory : List Check
  after_directory = plan_checks_of job ++ after_plan

  pub all_pass : Passes (directory_checks job) → Passes (plan_checks_of job) → Passes (layer_checks_of job) → Passes (map_checks_of job) → Passes (checks job)
  unfolding checks
  all_pass d p l m = passes_append (directory_checks job) after_directory d (passes_append (plan_checks_of job) after_plan p (passes_append (layer_checks_of job) after_layers l m))

  module _ (t : Told) where
    pub directory_refused : FirstTells (directory_checks job) t → FirstTells (checks job) t
    unfolding checks
    directory_refused f = tells_before (directory_checks job) after_directory t f

    past_directory : Passes (directory_checks job) → FirstTells after_directory t → FirstTells (checks job) t
    unfolding checks
    past_directory d f = tells_after (directory_checks job) after_directory t d f

    pub plan_refused : Passes (directory_checks job) → FirstTells (plan_checks_of job) t → FirstTells (checks job) t
    plan_refused d f = past_directory d (tells_before (plan_checks_of job) after_plan t f)

    past_plan : Passes (directory_checks job) → Passes (plan_checks_of job) → FirstTells after_plan t → FirstTells (checks job) t
    past_plan d p f = past_directory d (tells_after (plan_checks_of job) after_plan t p f)

    pub layers_refused : Passes (directory_checks job) → Passes (plan_checks_of job) → FirstTells (layer_checks_of job) t → FirstTells (checks job) t
    layers_refused d p f = past_plan d p (tells_before (layer_checks_of job) after_layers t f)

    pub map_refused : Passes (directory_checks job) → Passes (plan_checks_of job) → Passes (layer_checks_of job) → FirstTells (map_checks_of job) t → FirstTells (checks job) t
    map_refused d p l f = past_plan d p (tells_after (layer_checks_of job) after_layers t l f)

-- of a job that passes all checks only want of memory is told
pub accepts : (job : List ℕ) (r : Result Recipe JobFault) → Parses job r → Accepts job r
accepts job (Ok r) h = tt
accepts job (Err e) (inl f) = λ p. absurd (not_refused (checks job) _ p f)
accepts job (Err e) (inr w) = λ p. w.1

pub ruleset passed = (all_pass, directory_refused, plan_refused, layers_refused, map_refused)

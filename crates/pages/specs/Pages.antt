-- What is read of the files that words name.
use Rattle.std.specs.Prelude.{◌≡◌, ℕ, ◌*◌, ◌^◌, List, length, Ok, Err, Result, vec_items}
use Rattle.refusals.specs.Told.{no_memory}
use Rattle.audit.specs.Audits.{RefusesBytes}
use Rattle.audit.specs.Bytes.{places_in}
use Rattle.audit.specs.Loads.{WantsMemory}
use Rattle.audit.specs.Refusals.{audit_told}
use Rattle.jobs.specs.Checks.{IsRefused}
use Rattle.jobs.specs.Jobs.{IsJob}
use Rattle.jobs.specs.Refusals.{job_told}
use Rattle.jobs.specs.declared.job_fault.JobFault.{JobFault}
use Rattle.jobs.specs.declared.recipe.Recipe.{Recipe}
use Rattle.plans.specs.declared.plan.Plan.{Plan}
use Rattle.plans.specs.declared.plan.Plan.TheVariants as plan
use Rattle.pages.specs.Faults.{fault_of_job}
use Rattle.pages.specs.declared.fault.PageFault.{PageFault}
use Rattle.pages.specs.declared.fault.PageFault.TheVariants.{Memory, Points}

-- the recipe that a job lays down, or what the job is refused with
abbrev pub ReadsJob : (job : List ℕ) → Result Recipe PageFault → Type 0
ReadsJob job (Ok r) = IsJob job r
ReadsJob job (Err e) = (fault : JobFault) × IsRefused job (job_told fault) × (e ≡ fault_of_job fault)

-- the list of the places that all of the bytes lay down, or what their audit tells; memory is wanting of nets alone
abbrev pub ReadsPoints : (bytes : List ℕ) → Result Plan PageFault → Type 0
ReadsPoints bytes (Ok (plan.Points list)) =
    (length bytes ≡ 4 * 2 ^ list.level.m) × (vec_items list.places ≡ places_in bytes)
ReadsPoints bytes (Err (Points e)) = RefusesBytes bytes (audit_told e)
ReadsPoints bytes (Err Memory) = WantsMemory bytes no_memory
ReadsPoints bytes _ = ⊥

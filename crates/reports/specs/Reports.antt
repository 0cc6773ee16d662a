-- What writing the text of a job answers, and what the place for it then holds.
use Rattle.std.specs.Prelude.{◌≡◌, ℕ, ◌≤◌, ◌<◌, ◌⊎◌, List, [], ◌∷◌, ◌++◌, length, drop, Ok, Err, Result}
use Rattle.refusals.specs.Told.{Told, refused, no_memory}
use Rattle.jobs.specs.Checks.{NeedsMemory}
use Rattle.reports.specs.Jobs.{Says}
use Rattle.reports.specs.Outcomes.{outcome_text}
use Rattle.reports.specs.Refusals.{text_told}
use Rattle.reports.specs.declared.text_fault.TextFault.{TextFault}
use Rattle.reports.specs.declared.examination.TheConstants.{ROOM}
use Rattle.reports.specs.declared.outcome.Outcome.{Outcome}

-- a text stands at the start of a place, of which the rest is kept
pub record Stands (text old new : List ℕ) (n : ℕ) : Type 0 where
  pub room : ROOM ≤ length old
  pub count : n ≡ length text
  pub place : new ≡ text ++ drop n old

-- for any job, a place of n bytes is refused with 31 if it is too short; for some jobs, memory may be wanting
abbrev pub Unwritten : (job : List ℕ) (n : ℕ) → Told → Type 0
Unwritten job n t = ((n < ROOM) × (t ≡ refused 31 (n ∷ []))) ⊎ ((ROOM ≤ n) × NeedsMemory job × (t ≡ no_memory))

-- the text of what is said of a job is written, or else the place is left as it was
abbrev pub Writes : (job old new : List ℕ) → Result ℕ TextFault → Type 0
Writes job old new (Ok n) = (o : Outcome) × Says job o × Stands (outcome_text o) old new n
Writes job old new (Err e) = Unwritten job (length old) (text_told e) × (new ≡ old)

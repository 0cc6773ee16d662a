-- The text of what is said of a job.
use Rattle.std.specs.Prelude.{ℕ, List, ◌++◌, codes}
use Rattle.jobs.specs.Refusals.{refusal_told, told_text}
use Rattle.reports.specs.Texts.{measured_text}
use Rattle.reports.specs.declared.outcome.Outcome.{Outcome}
use Rattle.reports.specs.declared.outcome.Outcome.TheVariants.{Measured, Refused}

abbrev pub outcome_text : Outcome → List ℕ
outcome_text (Measured x) = measured_text x
outcome_text (Refused e) = told_text (refusal_told e) ++ codes "\n"

-- What is read of a file of places.
use Rattle.std.specs.Prelude.{ℕ, ◌<◌, ◌≤◌, List, length, Ok, Err, Result}
use Rattle.plans.specs.declared.plan.Plan.{Plan}
use Rattle.pages.specs.Pages.{ReadsPoints}
use Rattle.netplan.specs.declared.fault.PlanFault.{PlanFault}
use Rattle.netplan.specs.declared.fault.PlanFault.TheVariants.{Page, TooLong, NoRounds}
use Rattle.netplan.specs.declared.plan_words.TheConstants.{LONGEST_LIST}

-- too many bytes, or the plan of the places that they lay down
abbrev pub ReadsList : (bytes : List ℕ) → Result Plan PlanFault → Type 0
ReadsList bytes (Ok plan) = (length bytes ≤ LONGEST_LIST) × ReadsPoints bytes (Ok plan)
ReadsList bytes (Err (Page e)) = (length bytes ≤ LONGEST_LIST) × ReadsPoints bytes (Err e)
ReadsList bytes (Err TooLong) = LONGEST_LIST < length bytes
ReadsList bytes (Err NoRounds) = ⊥

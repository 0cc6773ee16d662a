-- Why words are no plan: the texts of it, and the status that the program ends with.
use Rattle.std.specs.Prelude.{ℕ, List, codes}
use Rattle.pages.specs.Faults.{fault_text}
use Rattle.pages.specs.declared.fault.PageFault.TheVariants.{Words}
use Rattle.netplan.specs.declared.fault.PlanFault.{PlanFault}
use Rattle.netplan.specs.declared.fault.PlanFault.TheVariants.{Page, TooLong, NoRounds}

abbrev pub plan_fault_text : PlanFault → List ℕ
plan_fault_text (Page e) = fault_text e
plan_fault_text TooLong = codes "refused 12 more than 16384 bytes"
plan_fault_text NoRounds = codes "the plan counts no rounds"

-- 2 where the words are wrong, and 1 else
abbrev pub status_of : PlanFault → ℕ
status_of (Page Words) = 2
status_of _ = 1

-- What a verdict says of the bytes that were vetted.
use Rattle.std.specs.Prelude.{ℕ, ◌<◌, ◌≤◌, List, length, Ok, Err}
use Rattle.audit.specs.Audits.{AuditsBytes}
use Rattle.netaudit.specs.declared.verdict.TheConstants.{LONGEST_LIST}
use Rattle.netaudit.specs.declared.verdict.Verdict.{Verdict}
use Rattle.netaudit.specs.declared.verdict.Verdict.TheVariants.{Net, Refused, TooLong}

-- what the audit of the bytes answers, unless there are more than the longest list has
abbrev pub Vets : List ℕ → Verdict → Type 0
Vets bytes (Net a) = AuditsBytes bytes (Ok a)
Vets bytes (Refused e) = (length bytes ≤ LONGEST_LIST) × AuditsBytes bytes (Err e)
Vets bytes TooLong = LONGEST_LIST < length bytes

-- the status that tells it: 0 for a net, 1 for a list that is none
abbrev pub status_of : Verdict → ℕ
status_of (Net _) = 0
status_of _ = 1

-- What the refusals of a survey's calls tell: their numbers, values and texts; and the calls' answers
-- in a life.
use Rattle.std.specs.Prelude.{ℕ, List, [], ◌∷◌, ◌++◌, Ok, Err, Result, codes, decimal}
use Rattle.refusals.specs.Told.{Told, refused, number_of}
use Rattle.survey.specs.Life.{Answer, counted, limited, committed, refusal}
use Rattle.survey.specs.declared.faults.TakeFault.{TakeFault}
use Rattle.survey.specs.declared.faults.TakeFault.TheVariants.{Nothing, TooMany}
use Rattle.survey.specs.declared.faults.LimitFault.{LimitFault}
use Rattle.survey.specs.declared.faults.CommitFault.{CommitFault}

-- 21: nothing is to be taken; 0. 22: more than is left; what is left
abbrev pub take_told : TakeFault → Told
take_told Nothing = refused 21 (0 ∷ [])
take_told (TooMany left) = refused 22 (left ∷ [])

abbrev pub take_text : TakeFault → List ℕ
take_text Nothing = codes "refused 21 place 0"
take_text (TooMany left) = codes "refused 22 place " ++ decimal left

-- 23: the depths cost more than the limit; what they cost
abbrev pub limit_told : LimitFault → Told
limit_told e = refused 23 (e.0 ∷ [])

abbrev pub limit_text : LimitFault → List ℕ
limit_text e = codes "refused 23 place " ++ decimal e.0

-- 24: the depths of the new recipe cost more than the limit; what they cost
abbrev pub commit_told : CommitFault → Told
commit_told e = refused 24 (e.0 ∷ [])

abbrev pub commit_text : CommitFault → List ℕ
commit_text e = codes "refused 24 place " ++ decimal e.0

-- the number that a commit answers: 0 if the new recipe holds
abbrev pub commit_number : {X : Type 0} → Result X CommitFault → ℕ
commit_number (Ok _) = 0
commit_number (Err e) = number_of (commit_told e)

abbrev pub take_answer : Result ℕ TakeFault → Answer
take_answer (Ok n) = counted n
take_answer (Err e) = refusal (take_told e)

abbrev pub limit_answer : {X : Type 0} → Result X LimitFault → Answer
limit_answer (Ok _) = limited
limit_answer (Err e) = refusal (limit_told e)

abbrev pub commit_answer : {X : Type 0} → Result X CommitFault → Answer
commit_answer (Ok _) = committed
commit_answer (Err e) = refusal (commit_told e)

-- What each call of a survey answers, and what the survey then is.
use Rattle.std.specs.Prelude.{◌≡◌, ℕ, Result, IfOk, MatchResult, ◌+ℤ◌}
use Rattle.std.specs.List.Sorted.{IsPermutation}
use Rattle.nets.specs.declared.net.Net.{Ghosts as Nets}
use Rattle.coats.specs.declared.coat_map.CoatMap.{Ghosts as Maps}
use Rattle.radius.specs.Radius.{Near, Agree}
use Rattle.survey.specs.Setups.{Setup, IsSetup, setup_of, coats_of, radius_of}
use Rattle.survey.specs.Life.{take_next, report, set_limit, survey, State, opening, IsStep}
use Rattle.survey.specs.Refusals.{take_answer, limit_answer}
use Rattle.survey.specs.Reports.{report_answer}
use Rattle.survey.specs.declared.faults.TakeFault.{TakeFault}
use Rattle.survey.specs.declared.faults.LimitFault.{LimitFault}
use Rattle.survey.specs.declared.report.Report.{Report}
use Rattle.survey.specs.declared.survey.Survey.{Survey}

module _ {P M : Type 0} {nets : Nets P} {maps : Maps M} where
  -- the recipe that a survey holds
  abbrev pub setup : Survey P M nets maps → Setup
  setup s = setup_of nets maps s.plan s.map

  -- n, as contracts say it
  abbrev pub count_of : Survey P M nets maps → ℕ
  count_of s = s.count

  -- R
  abbrev pub survey_radius : Survey P M nets maps → ℕ
  survey_radius s = radius_of (setup s) (count_of s)

  -- the state of a life that has come to this survey
  abbrev pub survey_state : Survey P M nets maps → State
  survey_state s = record { stage = survey; held = setup s; limit = s.limit; taken = count_of s }

  -- a survey of these very pages
  pub record HasPages (p : P) (m : M) (s : Survey P M nets maps) : Type 0 where
    pub plan : s.plan ≡ p
    pub map : s.map ≡ m

  -- a survey as it is opened
  pub record Opens (p : P) (m : M) (s : Survey P M nets maps) : Type 0 where
    pub is_setup : IsSetup (setup_of nets maps p m)
    pub state : survey_state s ≡ opening (setup_of nets maps p m)
    pub pages : HasPages p m s

  -- where a call was accepted, the plan and the map are kept; where it was refused, the survey is as
  -- it was
  abbrev pub Keeps : {X E : Type 0} (old new : Survey P M nets maps) → Result X E → Type 0
  Keeps old new r = MatchResult r (λ _. HasPages old.plan old.map new) (λ _. new ≡ old)

  -- accepted, a take adds the coat at the next k places
  pub record Takes (k : ℕ) (old new : Survey P M nets maps) (r : Result ℕ TakeFault) : Type 0 where
    pub keeps : Keeps old new r
    pub adds : IfOk r (λ _. new.sum ≡ old.sum +ℤ coats_of (setup old) (count_of old) k)

  abbrev pub TakeSteps : (k : ℕ) (old new : Survey P M nets maps) → Result ℕ TakeFault → Type 0
  TakeSteps k old new r =
      IsStep (take_next k) (take_answer r) (survey_state old) (survey_state new)

  -- a report tells m, n, S and R
  abbrev pub ReportSteps : Survey P M nets maps → Report → Type 0
  ReportSteps s r = IsStep report (report_answer r) (survey_state s) (survey_state s)

  -- and S is within R of the truth
  abbrev pub ReportIsNear : Survey P M nets maps → Report → Type 0
  ReportIsNear s r = Near r.level (setup s).map.terms r.sum r.radius

  abbrev pub LimitSteps :
      {X : Type 0} (l : ℕ) (old new : Survey P M nets maps) → Result X LimitFault → Type 0
  LimitSteps l old new r =
      IsStep (set_limit l) (limit_answer r) (survey_state old) (survey_state new)

  -- its sum is within its radius of the truth
  abbrev pub IsNear : Survey P M nets maps → Type 0
  IsNear s = Near (setup s).plan.level (setup s).map.terms s.sum (survey_radius s)

-- two surveys of any types agree within their radii where their maps have the same terms up to order
abbrev pub SurveysAgree :
    {P M Q K : Type 0} {nets : Nets P} {maps : Maps M} {nets' : Nets Q} {maps' : Maps K} →
    Survey P M nets maps → Survey Q K nets' maps' → Type 0
SurveysAgree s t =
    IsPermutation (setup s).map.terms (setup t).map.terms →
    Agree (setup s).plan.level (setup t).plan.level s.sum t.sum (survey_radius s) (survey_radius t)

-- What a call as a value does to a gauge, and to the lives that have come to it.
use Rattle.std.specs.Prelude.{◌≡◌, IfSome, MatchOption}
use Rattle.nets.specs.declared.net.Net.{Ghosts as Nets}
use Rattle.coats.specs.declared.coat_map.CoatMap.{Ghosts as Maps}
use Rattle.survey.specs.Setups.{plan_of, map_of}
use Rattle.survey.specs.Life as life
use Rattle.survey.specs.Life.{take_next, report, set_limit, begin, map_page, commit, abandon, begun, paged, abandoned, State, Allowed, IsStep}
use Rattle.survey.specs.Promise.{Continues}
use Rattle.survey.specs.Refusals.{take_answer, limit_answer, commit_answer}
use Rattle.survey.specs.Reports.{report_answer, IsBounded}
use Rattle.survey.specs.Surveys.{survey_state, Takes, Keeps, ReportIsNear}
use Rattle.survey.specs.Changes.{half_state, full_state, Begins, Pages, Commits}
use Rattle.survey.specs.declared.call.Call.{Call}
use Rattle.survey.specs.declared.call.Call.TheVariants.{Take, Report, Limit, Begin, MapPage, Commit, Abandon}
use Rattle.survey.specs.declared.call.Answer.{Answer}
use Rattle.survey.specs.declared.call.Answer.TheVariants.{Taken, Reported, Limited, Begun, Paged, Committed, Abandoned}
use Rattle.survey.specs.declared.gauge.Gauge.{Gauge}
use Rattle.survey.specs.declared.gauge.Gauge.TheVariants.{Survey, Half, Full}
use Rattle.survey.specs.declared.gauge.After.{After}

-- what an answer is in a life
abbrev pub answer_of : Answer → life.Answer
answer_of (Taken r) = take_answer r
answer_of (Reported r) = report_answer r
answer_of (Limited r) = limit_answer r
answer_of Begun = begun
answer_of Paged = paged
answer_of (Committed r) = commit_answer r
answer_of Abandoned = abandoned

-- what a call is in a life
abbrev pub call_of : {P M : Type 0} → Nets P → Maps M → Call P M → life.Call
call_of nets maps (Take k) = take_next k
call_of nets maps Report = report
call_of nets maps (Limit l) = set_limit l
call_of nets maps (Begin p) = begin (plan_of nets p)
call_of nets maps (MapPage m) = map_page (map_of maps m)
call_of nets maps Commit = commit
call_of nets maps Abandon = abandon

module _ {P M : Type 0} {nets : Nets P} {maps : Maps M} where
  -- the state of a life that has come to this gauge
  abbrev pub gauge_state : Gauge P M nets maps → State
  gauge_state (Survey s) = survey_state s
  gauge_state (Half c) = half_state c
  gauge_state (Full c) = full_state c

  -- the call is not allowed where the gauge is
  abbrev pub Bars : Gauge P M nets maps → Call P M → Type 0
  Bars g c = Allowed (gauge_state g).stage (call_of nets maps c) → ⊥

  -- an allowed call does what the call of the survey or the change does
  abbrev pub Does : Gauge P M nets maps → Call P M → Gauge P M nets maps → Answer → Type 0
  Does (Survey old) (Take k) (Survey new) (Taken r) = Takes k old new r
  Does (Survey old) Report (Survey new) (Reported r) =
      (new ≡ old) × ReportIsNear old r × IsBounded r
  Does (Survey old) (Limit l) (Survey new) (Limited r) = Keeps old new r
  Does (Survey s) (Begin p) (Half c) Begun = Begins p s c
  Does (Half c) (MapPage m) (Full d) Paged = Pages m c d
  Does (Half c) Abandon (Survey s) Abandoned = s ≡ c.old
  Does (Full c) Commit (Survey s) (Committed r) = Commits c (record { survey = s; outcome = r })
  Does (Full c) Abandon (Survey s) Abandoned = s ≡ c.old
  Does _ _ _ _ = ⊥

  -- any other does nothing, and has no answer
  abbrev pub Asks : Gauge P M nets maps → Call P M → After P M nets maps → Type 0
  Asks g c r = MatchOption r.answer (r.gauge ≡ g) (λ a. Does g c r.gauge a)

  -- an allowed call is a step; any other is barred
  abbrev pub AskSteps : Gauge P M nets maps → Call P M → After P M nets maps → Type 0
  AskSteps g c r =
      MatchOption r.answer (Bars g c)
      (λ a. IsStep (call_of nets maps c) (answer_of a) (gauge_state g) (gauge_state r.gauge))

  -- an allowed call carries on each life that has come to the gauge, with the promise whole
  abbrev pub AskLives : Gauge P M nets maps → Call P M → After P M nets maps → Type 0
  AskLives g c r =
      IfSome r.answer
      (λ a. Continues (call_of nets maps c) (answer_of a) (gauge_state g) (gauge_state r.gauge))

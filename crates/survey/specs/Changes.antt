-- What each call of a change of recipe gives.
use Rattle.std.specs.Prelude.{◌≡◌, ◌≤◌, ◌↔◌, MatchResult}
use Rattle.nets.specs.declared.net.Net.{Ghosts as Nets}
use Rattle.coats.specs.declared.coat_map.CoatMap.{Ghosts as Maps}
use Rattle.survey.specs.Setups.{plan_of, map_of, setup_of, cost_of}
use Rattle.survey.specs.Life.{begin, map_page, commit, abandon, begun, paged, abandoned, half, full, State, IsStep}
use Rattle.survey.specs.Refusals.{commit_answer, commit_number}
use Rattle.survey.specs.Surveys.{survey_state, HasPages}
use Rattle.survey.specs.declared.survey.Survey.{Survey}
use Rattle.survey.specs.declared.half_change.HalfChange.{HalfChange}
use Rattle.survey.specs.declared.full_change.FullChange.{FullChange}
use Rattle.survey.specs.declared.full_change.Committed.{Committed}

module _ {P M : Type 0} {nets : Nets P} {maps : Maps M} where
  -- the states of lives that have come to these changes
  abbrev pub half_state : HalfChange P M nets maps → State
  half_state c = record (survey_state c.old) { stage = half (plan_of nets c.plan) }

  abbrev pub full_state : FullChange P M nets maps → State
  full_state c =
      record (survey_state c.old) { stage = full (plan_of nets c.plan) (map_of maps c.map) }

  -- a change begins with its new plan
  pub record Begins (p : P) (s : Survey P M nets maps) (c : HalfChange P M nets maps) : Type 0 where
    pub old : c.old ≡ s
    pub plan : c.plan ≡ p

  abbrev pub BeginSteps : P → Survey P M nets maps → HalfChange P M nets maps → Type 0
  BeginSteps p s c = IsStep (begin (plan_of nets p)) begun (survey_state s) (half_state c)

  -- its new map is added
  pub record Pages (m : M) (c : HalfChange P M nets maps) (d : FullChange P M nets maps) : Type 0 where
    pub old : d.old ≡ c.old
    pub plan : d.plan ≡ c.plan
    pub map : d.map ≡ m

  abbrev pub PageSteps : M → HalfChange P M nets maps → FullChange P M nets maps → Type 0
  PageSteps m c d =
      IsStep (map_page (map_of maps m)) paged (half_state c) (full_state d)

  -- accepted, with the number 0, a commit gives a survey of the new recipe; refused, the old one, entire
  pub record Commits (c : FullChange P M nets maps) (r : Committed P M nets maps) : Type 0 where
    pub number :
        (commit_number r.outcome ≡ 0) ↔ (cost_of (setup_of nets maps c.plan c.map) ≤ c.old.limit)
    pub after :
        MatchResult r.outcome (λ _. HasPages c.plan c.map r.survey) (λ _. r.survey ≡ c.old)

  abbrev pub CommitSteps : FullChange P M nets maps → Committed P M nets maps → Type 0
  CommitSteps c r =
      IsStep commit (commit_answer r.outcome) (full_state c) (survey_state r.survey)

  -- a change that is abandoned, half or full
  abbrev pub AbandonSteps : (from : State) → Survey P M nets maps → Type 0
  AbandonSteps from s = IsStep abandon abandoned from (survey_state s)

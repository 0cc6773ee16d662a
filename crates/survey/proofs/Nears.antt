-- What a survey adds up, and what a report tells, is near the truth.
use Rattle.std.proofs.Common.{◌≡◌, ℕ, ℤ, sym, subst, subst₂}
use Rattle.std.specs.List.Sorted.{IsPermutation}
use Rattle.nets.specs.declared.net.Net.{Ghosts as Nets}
use Rattle.coats.specs.declared.coat_map.CoatMap.{Ghosts as Maps}
use Rattle.radius.specs.Radius.{Near, Agree}
use Rattle.radius.proofs.Sums.{sums_near, sums_agree}
use Rattle.survey.specs.Setups.{Setup, IsSetup, coat_sum, radius_of}
use Rattle.survey.specs.Life.{reported, report, answer, State}
use Rattle.survey.specs.Surveys.{setup, count_of, survey_radius, survey_state, ReportSteps, ReportIsNear, IsNear, SurveysAgree}
use Rattle.survey.specs.declared.report.Report.{Report}
use Rattle.survey.specs.declared.survey.Survey.{Survey}

-- the sum of a recipe is near the truth, and the sums of two are near each other
pub setup_near : (q : Setup) → IsSetup q → (n : ℕ) → Near q.plan.level q.map.terms (coat_sum q n) (radius_of q n)
setup_near q is n = sums_near q.plan.level n q.plan.places q.map.terms is.plan is.map

pub setups_agree : (q p : Setup) → IsSetup q → IsSetup p → (n k : ℕ) → IsPermutation q.map.terms p.map.terms →
    Agree q.plan.level p.plan.level (coat_sum q n) (coat_sum p k) (radius_of q n) (radius_of p k)
setups_agree q p is ip n k =
    sums_agree q.plan.level n q.plan.places q.map.terms p.plan.level k p.plan.places p.map.terms is.plan is.map ip.plan ip.map

-- what an answer to a report tells, if it is that of the rules
pub told : (s : State) (m n : ℕ) (z : ℤ) (r : ℕ) → reported m n z r ≡ answer s report → (m ≡ s.held.plan.level) × (z ≡ coat_sum s.held s.taken) × (r ≡ radius_of s.held s.taken)
told s m n z r e = (cc, cc, cc)

pub told_near : (s : State) → IsSetup s.held → (m n : ℕ) (z : ℤ) (r : ℕ) → reported m n z r ≡ answer s report → Near m s.held.map.terms z r
told_near s is m n z r e = let t = told s m n z r e in rw (t.0, t.1, t.2) (setup_near s.held is s.taken)

held : {P M : Type 0} {nets : Nets P} {maps : Maps M} (s : Survey P M nets maps) → IsSetup (setup s)
held s = record { plan = s.is_net; map = s.is_map }

module _ {P M : Type 0} {nets : Nets P} {maps : Maps M} (s : Survey P M nets maps) where
  pub report_near : (r : Report) → ReportSteps s r → ReportIsNear s r
  report_near r step = told_near (survey_state s) (held s) r.level r.count r.sum r.radius step.answers

  pub survey_near : IsNear s
  survey_near =
      let q = setup s in
      subst (λ (z : ℤ). Near q.plan.level q.map.terms z (survey_radius s)) (sym s.sums) (setup_near q (held s) (count_of s))

  pub surveys_agree : {Q K : Type 0} {nets' : Nets Q} {maps' : Maps K} (t : Survey Q K nets' maps') → SurveysAgree s t
  surveys_agree t same =
      let q = setup s in
      let p = setup t in
      subst₂ (λ (y z : ℤ). Agree q.plan.level p.plan.level y z (survey_radius s) (survey_radius t)) (sym s.sums) (sym t.sums)
      (setups_agree q p (held s) (held t) (count_of s) (count_of t) same)

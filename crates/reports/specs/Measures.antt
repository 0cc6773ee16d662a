-- What is measured of a whole panel.
use Rattle.std.specs.Prelude.{◌≡◌, ◌^◌, [], ◌∷◌}
use Rattle.audit.specs.Audits.{IsExamined}
use Rattle.radius.specs.Radius.{Near}
use Rattle.survey.specs.Setups.{Setup}
use Rattle.survey.specs.Life.{take_next, report, counted, Lived}
use Rattle.survey.specs.Reports.{report_answer}
use Rattle.reports.specs.declared.measured.Measured.{Measured}

-- what is measured of a recipe, by the life of a survey that is opened on it, takes every place and
-- reports. A life's answers are those of the rules, so n is N, and S and R are those after N places
pub record Measures (q : Setup) (x : Measured) : Type 0 where
  pub points : x.points ≡ 2 ^ q.plan.level
  pub life : Lived q ((report, report_answer x.report) ∷ (take_next x.points, counted x.points) ∷ [])
  pub near : Near x.report.level q.map.terms x.report.sum x.report.radius
  pub audit : IsExamined q.plan.level q.plan.places x.audit

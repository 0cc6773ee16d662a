-- What a report tells, and how large its numbers are.
use Rattle.std.specs.Prelude.{◌*◌, ◌^◌, ◌≤◌, unsigned_abs}
use Rattle.coats.specs.declared.checks.TheConstants.{HEAVIEST}
use Rattle.survey.specs.declared.costs.TheConstants.{WIDEST_RADIUS}
use Rattle.survey.specs.Life.{Answer, reported}
use Rattle.survey.specs.declared.report.Report.{Report}

abbrev pub report_answer : Report → Answer
report_answer r = reported r.level r.count r.sum r.radius

pub record IsBounded (r : Report) : Type 0 where
  pub low : r.level ≤ 12
  pub few : r.count ≤ 2 ^ r.level
  pub small : unsigned_abs r.sum ≤ HEAVIEST * r.count
  pub near : r.radius ≤ WIDEST_RADIUS

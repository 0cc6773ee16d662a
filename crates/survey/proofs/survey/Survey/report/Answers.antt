use Rattle.std.proofs.Common.{w64, to_z, of_z, rules}
use Rattle.survey.proofs.Nears.{report_near}
use Rattle.survey.proofs.survey.Survey.report.Goals as goal

pub returns-clause-near : goal.returns-clause-near
returns-clause-near g c =
    let s = c.args.self.now in
    report_near s (record { level = c.get.result; count = s.count; sum = to_z w64 (of_z w64 s.sum); radius = c.radius.result }) (search rules)

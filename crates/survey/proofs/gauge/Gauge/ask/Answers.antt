use Rattle.survey.proofs.Runs.{ask_lives}
use Rattle.survey.proofs.gauge.Gauge.ask.Goals as goal

pub returns-clause-life : goal.returns-clause-life
returns-clause-life g c = ask_lives c.args.self c.args.call c.step.result c.step.ensures.step

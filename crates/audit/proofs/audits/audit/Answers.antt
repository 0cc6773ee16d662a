use Rattle.std.proofs.Common.{rules, Ok}
use Rattle.audit.specs.Audits.{Audits}
use Rattle.audit.proofs.Accepts.{accepted}
use Rattle.audit.proofs.audits.audit.Goals as goal

pub returns-in_err-run-clause-accepts : goal.returns-in_err-run-clause-accepts
returns-in_err-run-clause-accepts c = let cases : Audits c.args.places.now c.from_residual-in_err-run.result = search rules in accepted _ _ cases

pub returns-clause-accepts : goal.returns-clause-accepts
returns-clause-accepts c = let cases : Audits c.args.places.now (Ok c.in_ok-run.field-0) = search rules in accepted _ _ cases

use Rattle.std.proofs.Common.{arith, rules}
use Rattle.std.proofs.lemmas.Grind.{common_steps}
use Rattle.survey.proofs.Runs.{run_none, run_more}
use Rattle.survey.proofs.log.run_log.Goals as goal

pub loop-call-preserved : goal.loop-call-preserved
loop-call-preserved g c = record {
  calls = grind (arith, common_steps);
  room = search rules;
  run = run_more c.args.plan c.args.map _ _ _ _ _ _ c.loop-call.invariant.run c.ask-after.ensures.rule c.ask-after.ensures.step c.ask-after.ensures.life c.push_reserved.ensures.items;
}

pub loop-call-init : goal.loop-call-init
loop-call-init g c = record {
  calls = search rules;
  room = search rules;
  run = rw c.in_ok-answers.ensures.items (run_none c.args.plan c.args.map c.open.result c.open.ensures);
}

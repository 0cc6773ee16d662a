use Rattle.std.proofs.Common.{rules}
use Rattle.jobs.specs.Layout.{section}
use Rattle.jobs.proofs.Passed.{all_pass}
use Rattle.jobs.proofs.recipe.Recipe.of.Goals as goal

pub returns-clause-parses : goal.returns-clause-parses
returns-clause-parses c =
    record {
      passes = all_pass c.args.job.now (search rules) (search rules) (search rules) (search rules);
      plan = c.in_ok-plan-2.ensures.says (section c.args.job.now 0) (search rules);
      layers = search rules;
      map = search rules;
    }

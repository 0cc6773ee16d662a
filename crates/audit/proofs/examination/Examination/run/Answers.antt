use Rattle.std.proofs.Common.{rules, arith}
use Rattle.nets.proofs.Intervals.{net_from_held}
use Rattle.audit.proofs.examination.Examination.run.Goals as goal

pub returns : goal.returns
returns g c =
    let list = c.args.self.now in
    record {
      net = net_from_held list.level.m _ list.level.low list.long (c.loop-depth.invariant.0 (omega arith)) (λ d n hd. c.loop-depth.invariant.1 d (omega arith) n);
      all = search rules;
    }

use Rattle.std.proofs.Common.{arith, rules, ap, cond, pos}
use Rattle.std.proofs.lemmas.Int.{ints}
use Rattle.std.proofs.lemmas.Grind.{common_steps}
use Rattle.coats.proofs.Sums.{coat_light}
use Rattle.boxes.specs.Rows.{is_inside}
use Rattle.boxes.specs.declared.row.BoxRow.{BoxRow}
use Rattle.boxes.proofs.LaidRows.{columns_coat_more}
use Rattle.boxes.proofs.boxes.BoxesCoatMap.coat.Goals as goal

pub loop-i-preserved : goal.loop-i-preserved
loop-i-preserved c =
    let map = c.args.self.now in
    let step = columns_coat_more map.columns map.rows.items c.loop-i.i c.args.place (search rules) (search rules) (omega arith) in
    let same = ap (λ (r : BoxRow). cond (is_inside r c.args.place) r.w (pos 0)) c.row.ensures in
    (omega (arith, ints), omega (arith, ints))

pub returns-clause-bound : goal.returns-clause-bound
returns-clause-bound c = grind (arith, common_steps, coat_light)

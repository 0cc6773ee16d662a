use Rattle.std.proofs.Common.{get_or, refl, ◌∙◌, w16, SFits, arith, rules}
use Rattle.std.proofs.lemmas.Int.{to_z-of_z}
use Rattle.std.proofs.lemmas.List.{get_or_default}
use Rattle.boxes.proofs.Corners.{no_row}
use Rattle.boxes.proofs.LaidRows.{laid_more}
use Rattle.boxes.proofs.columns.Columns.of.Goals as goal

pub loop-i-init : goal.loop-i-init
loop-i-init c =
    record {
      long = record { x0 = refl; x1 = refl; y0 = refl; y1 = refl; w = refl };
      laid = λ k h. absurd (omega arith);
    }

pub loop-i-preserved : goal.loop-i-preserved
loop-i-preserved c =
    let row = get_or c.args.rows.now c.loop-i.i no_row in
    let fits : SFits w16 row.w = search rules in
    record {
      long = record { x0 = search rules; x1 = search rules; y0 = search rules; y1 = search rules; w = search rules };
      laid = rw (to_z-of_z w16 row.w fits) (laid_more c.loop-i.columns c.args.rows.now c.loop-i.i (omega arith) c.loop-i.invariant);
    }

pub returns : goal.returns
returns c = λ i d h. c.loop-i.invariant.laid i (omega arith) ∙ get_or_default c.args.rows.now i no_row d h

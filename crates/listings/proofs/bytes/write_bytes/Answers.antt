use Rattle.std.proofs.Common.{arith, rules}
use Rattle.std.proofs.lemmas.Grind.{common_steps}
use Rattle.listings.proofs.Packed.{one_more}
use Rattle.listings.proofs.bytes.write_bytes.Goals as goal

pub loop-place-preserved : goal.loop-place-preserved
loop-place-preserved g c = record {
  places = grind (arith, common_steps);
  written = search (rules, one_more);
}

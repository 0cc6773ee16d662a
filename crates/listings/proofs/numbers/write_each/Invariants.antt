use Rattle.listings.specs.Pictures.{Grows}
use Rattle.listings.proofs.numbers.write_each.Given as goal

abbrev pub invariant-loop-number : goal.invariant-loop-number
invariant-loop-number g l = record {
  can : (goal.iterator-loop-number g).can_next l.number-iterator;
  ends : (goal.iterator-loop-number g).is_finite l.number-iterator;
  written : Grows (g.W.Write.contents l.fn.output) (g.W.Write.contents l.output);
}

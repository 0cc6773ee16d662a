use Rattle.std.proofs.Common.{◌≡◌, ◌*◌, ◌≤◌, take, nat_abs}
use Rattle.coats.specs.Terms.{coat_of}
use Rattle.boxes.specs.Rows.{boxes_terms}
use Rattle.boxes.proofs.boxes.BoxesCoatMap.coat.Given as goal

abbrev pub invariant-loop-i : goal.invariant-loop-i
invariant-loop-i l = (nat_abs l.sum ≤ 32768 * l.i) × (l.sum ≡ coat_of (boxes_terms (take l.i l.self.rows.items)) l.place)

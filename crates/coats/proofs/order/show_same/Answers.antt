use Rattle.std.proofs.Common.{◌*◌, pos, ◌*ℤ◌, nat_abs, sym}
use Rattle.std.proofs.lemmas.List.Sorted.{sum_by-IsPermutation}
use Rattle.coats.specs.declared.term.Term.{Term}
use Rattle.coats.specs.Terms.{share_of}
use Rattle.coats.proofs.Sums.{sum_of_shuffled}
use Rattle.coats.proofs.order.show_same.Goals as goal

pub returns : goal.returns
returns g c s =
    record {
      coats = λ p. sum_of_shuffled (share_of p) _ _ s;
      weights = sym (sum_by-IsPermutation (λ (t : Term). nat_abs t.w) _ _ s);
      integrals = sum_of_shuffled (λ (t : Term). t.w *ℤ pos (t.u * t.v)) _ _ s;
    }

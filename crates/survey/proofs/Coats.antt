-- The coat over places, one place more.
use Rattle.std.proofs.Common.{◌≡◌, ℕ, ◌+◌, ◌-◌, ◌<◌, List, length, get_or, take, drop, min, ℤ, ◌+ℤ◌, sym, ap, ◌∙◌, subst, take-add, arith}
use Rattle.std.proofs.lemmas.List.{length-drop, get_or-drop, take_min}
use Rattle.nets.specs.Places.{Place}
use Rattle.coats.specs.declared.term.Term.{Term}
use Rattle.coats.specs.Terms.{coat_of}
use Rattle.coats.proofs.Sums.{sum_of_append, sum_of_more}
use Rattle.radius.specs.Radius.{added}

module _ (ts : List Term) (ps : List Place) where
  -- over i + 1 places from index n on
  pub more : (n i : ℕ) → n + i < length ps → added ts (take (i + 1) (drop n ps)) ≡ added ts (take i (drop n ps)) +ℤ coat_of ts (get_or ps (n + i) (0, 0))
  more n i h =
      sum_of_more (coat_of ts) (drop n ps) i (0, 0) (omega (arith, length-drop n ps)) ∙ ap (λ (p : Place). added ts (take i (drop n ps)) +ℤ coat_of ts p) (get_or-drop n ps i (0, 0))

  -- over k places from index n on, or as many as there are
  capped : (n k : ℕ) → added ts (take (min k (length ps - n)) (drop n ps)) ≡ added ts (take k (drop n ps))
  capped n k =
      subst (λ (j : ℕ). added ts (take (min k j) (drop n ps)) ≡ added ts (take k (drop n ps))) (length-drop n ps)
      (ap (added ts) (take_min k (drop n ps)))

  -- over n places, and then over these
  pub joined : (n k : ℕ) → added ts (take (n + k) ps) ≡ added ts (take n ps) +ℤ added ts (take (min k (length ps - n)) (drop n ps))
  joined n k =
      ap (added ts) (take-add n k ps) ∙ sum_of_append (coat_of ts) (take n ps) (take k (drop n ps)) ∙ ap (λ (z : ℤ). added ts (take n ps) +ℤ z) (sym (capped n k))

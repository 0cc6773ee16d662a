-- The audit's flags: place by place, and what they tell at the end of a depth.
use Rattle.std.proofs.Common.{◌≡◌, ℕ, ◌+◌, ◌<◌, ◌≤◌, Bool, true, false, eqb, ltb, List, length, get_or, set, take, Some, None, Option, ap, ◌∙◌, subst, ⊎_elim, arith}
use Rattle.std.specs.List.{All}
use Rattle.std.proofs.lemmas.List.{take_all, length-set, get_or-set_same, get_or-set_other}
use Rattle.std.proofs.lemmas.List.Elements.{All-nil, All-more}
use Rattle.std.proofs.lemmas.List.Sums.{sum_by_more}
use Rattle.std.proofs.lemmas.Bool.{cases_eq}
use Rattle.std.proofs.lemmas.Bool.Decides.{nat_tests}
use Rattle.nets.proofs.Counts.{one_if}
use Rattle.nets.specs.Places.{Place, IsOnPanel, interval_number, count_in}
use Rattle.audit.specs.Audits.{FirstClear}

-- just the intervals of the first n places are flagged
pub record Marks (m d : ℕ) (ps : List Place) (n : ℕ) (seen : List Bool) : Type 0 where
  pub inside : All IsOnPanel (take n ps)
  pub flags : (k : ℕ) → k < length seen → get_or seen k false ≡ ltb 0 (count_in m d k (take n ps))

pub marks_none : (m d : ℕ) (ps : List Place) (seen : List Bool) → All (λ b. b ≡ false) seen → Marks m d ps 0 seen
unfolding count_in
marks_none m d ps seen clear = record { inside = All-nil IsOnPanel; flags = λ k. clear k false }

module _ (m d : ℕ) (ps : List Place) (n : ℕ) (seen : List Bool) (marks : Marks m d ps n seen) where
  -- one place more, p in the interval j
  pub marks_more : (j : ℕ) (p : Place) → n < length ps → p ≡ get_or ps n (0, 0) → IsOnPanel p → j ≡ interval_number m d p → j < length seen → Marks m d ps (n + 1) (set seen j true)
  unfolding count_in
  marks_more j p here e on at lt = record {
    inside = All-more IsOnPanel ps n (0, 0) here marks.inside (subst IsOnPanel e on);
    flags =
        λ k h.
        let one = sum_by_more (λ p. one_if (eqb (interval_number m d p) k)) ps n (0, 0) here in
        let its : j ≡ interval_number m d (get_or ps n (0, 0)) = at ∙ ap (interval_number m d) e in
        let old = marks.flags k (omega (arith, length-set seen j true)) in
        ⊎_elim
        (λ (q : k ≡ j). let new = ap (λ i. get_or (set seen j true) i false) q ∙ get_or-set_same seen j true false lt in grind (arith, nat_tests))
        (λ (q : k ≡ j → ⊥). let new = get_or-set_other seen j k true false q in grind (arith, nat_tests))
        (cases_eq k j);
  }

  -- when all places are flagged, a flag tells whether its interval holds a place
  module _ (all : length ps ≤ n) where
    pub all_inside : All IsOnPanel ps
    all_inside = subst (All IsOnPanel) (take_all n ps all) marks.inside

    tells : (k : ℕ) → k < length seen → get_or seen k false ≡ ltb 0 (count_in m d k ps)
    tells k h = marks.flags k h ∙ ap (λ ps. ltb 0 (count_in m d k ps)) (take_all n ps all)

    full : (k : ℕ) → k < length seen → get_or seen k false ≡ true → 1 ≤ count_in m d k ps
    full k h e = let t = tells k h in grind (arith, nat_tests)

    pub first_held : (r : Option ℕ) → FirstClear (length seen) (λ k. get_or seen k false ≡ true) (λ k. get_or seen k false ≡ false) r → FirstClear (length seen) (λ k. 1 ≤ count_in m d k ps) (λ k. count_in m d k ps ≡ 0) r
    first_held None set = λ k h. full k h (set k h)
    first_held (Some i) (low, clear, set) = (low, let t = tells i low in grind (arith, nat_tests), λ k h. full k (omega arith) (set k h))

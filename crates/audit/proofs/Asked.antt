-- The places of a plan, asked one by one and written into an array.
use Rattle.std.proofs.Common.{◌≡◌, ℕ, ◌+◌, ◌<◌, ◌≤◌, List, length, get_or, set, take, take_all, ◌∙◌}
use Rattle.std.proofs.lemmas.List.{take_more, take_more_set, length-set}
use Rattle.nets.specs.Places.{Place}

-- one place more
pub one_more : (xs ps : List Place) (i : ℕ) (p : Place) → i < length xs → i < length ps → take i xs ≡ take i ps → p ≡ get_or ps i (0, 0)
    → take (i + 1) (set xs i p) ≡ take (i + 1) ps
one_more xs ps i p hx hp e at = let a = take_more_set xs i p hx in let b = take_more ps i (0, 0) hp in cc

-- all of them
pub all_asked : (xs ps : List Place) (n : ℕ) → take n xs ≡ take n ps → length ps ≤ n → take n xs ≡ ps
all_asked xs ps n e l = e ∙ take_all n ps l

pub ruleset asked = (one_more, length-set, all_asked)

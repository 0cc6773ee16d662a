use Rattle.std.proofs.Common.{◌<◌, ℕ, List, ◌++◌, length, Option, None, Some, MatchOption, rules}
use borrow.Author.Tests.{tests}
use Rattle.std.specs.List.{All, AllWithin, HoldsAt}
use Rattle.std.proofs.lemmas.Iterator.{YieldsList-from_slice, IsFirst-from_position}
use Rattle.std.proofs.lemmas.Iterator.Consumers.{YieldsList-from_chain}
use Rattle.std.proofs.lemmas.List.Elements.{All-from_all_within}
use Rattle.coats.specs.Refusals.{IsFirstOut}
use Rattle.steps.specs.declared.step.Step.{Step}
use Rattle.steps.specs.Rows.{HasStepBounds}
use Rattle.steps.proofs.Pairings.{no_step}
use Rattle.steps.proofs.axes.Axes.first_out.Goals as goal

abbrev Out : Step → Type 0
Out s = HasStepBounds s → ⊥

first_of : (xs : List Step) (r : Option ℕ) → MatchOption r (AllWithin HasStepBounds xs 0 (length xs)) (λ i. (i < length xs) × HoldsAt Out xs i × AllWithin HasStepBounds xs 0 i) → MatchOption r (All HasStepBounds xs) (IsFirstOut HasStepBounds xs)
first_of xs None h = All-from_all_within HasStepBounds xs h
first_of xs (Some i) h = record { here = h.0; out = λ at. h.1 no_step (at no_step); before = h.2 }

pub returns : goal.returns
returns c =
    let xs = c.args.self.x.steps.now in
    let ys = c.args.self.y.steps.now in
    first_of (xs ++ ys) c.position.result (IsFirst-from_position _ _ _ Out HasStepBounds c.position.ensures.ran (YieldsList-from_chain (YieldsList-from_slice xs (cc)) (YieldsList-from_slice ys (cc)) (cc) (cc)) (λ x q k. search (rules, tests)) (λ x q k. search (rules, tests)))

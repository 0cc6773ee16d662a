use Rattle.std.proofs.Common.{◌≡◌, false, refl, rules}
use Rattle.std.proofs.lemmas.List.Elements.{All-take, All-replicate}
use Rattle.audit.proofs.Flags.{marks_none, marks_more, all_inside, first_held}
use Rattle.audit.proofs.examination.Examination.first_unmarked.Goals as goal

pub loop-i-init : goal.loop-i-init
loop-i-init g c = marks_none _ _ _ _ (All-take (λ b. b ≡ false) _ _ (All-replicate (λ b. b ≡ false) _ false refl))

pub loop-i-preserved : goal.loop-i-preserved
loop-i-preserved g c = let seen = c.interval_of.ensures in marks_more _ _ _ _ _ c.loop-i.invariant _ c.at.result (search rules) c.at.ensures seen.inside seen.value (search rules)

pub returns-clause-inside : goal.returns-clause-inside
returns-clause-inside g c = all_inside _ _ _ _ _ c.loop-i.invariant (search rules)

pub returns-clause-cases : goal.returns-clause-cases
returns-clause-cases g c = let held = first_held _ _ _ _ _ c.loop-i.invariant (search rules) _ c.first_clear.ensures in search rules

-- Checks that run one table after another.
use Rattle.std.proofs.Common.{List, [], ◌∷◌, ◌++◌, inl, inr}
use Rattle.refusals.specs.Told.{Told}
use Rattle.refusals.specs.Checks.{Check, Passes, FirstTells}

pub passes_append : (cs ds : List Check) → Passes cs → Passes ds → Passes (cs ++ ds)
passes_append [] ds p q = q
passes_append (c ∷ cs) ds p q = (p.0, passes_append cs ds p.1 q)

-- the first check that is not passed is of the first table, or of the second one where all of the first are passed
pub tells_before : (cs ds : List Check) (t : Told) → FirstTells cs t → FirstTells (cs ++ ds) t
tells_before [] ds t f = absurd f
tells_before (c ∷ cs) ds t (inl f) = inl f
tells_before (c ∷ cs) ds t (inr f) = inr (f.0, tells_before cs ds t f.1)

pub tells_after : (cs ds : List Check) (t : Told) → Passes cs → FirstTells ds t → FirstTells (cs ++ ds) t
tells_after [] ds t p f = f
tells_after (c ∷ cs) ds t p f = inr (p.0, tells_after cs ds t p.1 f)

-- what passes all checks is not refused
pub not_refused : (cs : List Check) (t : Told) → Passes cs → FirstTells cs t → ⊥
not_refused [] t p f = f
not_refused (c ∷ cs) t p (inl f) = f.0 p.0
not_refused (c ∷ cs) t p (inr f) = not_refused cs t p.1 f.1

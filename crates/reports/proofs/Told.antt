-- What is told of a job that is not read: a refusal, or want of memory.
use Rattle.std.proofs.Common.{◌≡◌, ℕ, List, inl, inr, arith, subst}
use Rattle.refusals.specs.Told.{Told, refused, no_memory}
use Rattle.jobs.specs.Checks.{NeedsMemory, IsRefused, plan_checks, layer_checks, map_checks, checks}
use Rattle.refusals.specs.Checks.{FirstTells}

-- no check tells want of memory
untold : (job : List ℕ) → FirstTells (checks job) no_memory → ⊥
unfolding checks plan_checks layer_checks map_checks
untold job f = grind arith

pub refused_told : (job : List ℕ) (t : Told) (n : ℕ) (values : List ℕ) → IsRefused job t → t ≡ refused n values → FirstTells (checks job) (refused n values)
refused_told job t n values (inl f) e = subst (FirstTells (checks job)) e f
refused_told job t n values (inr (p, w)) e = absurd (grind arith)

pub wanting_told : (job : List ℕ) (t : Told) → IsRefused job t → t ≡ no_memory → NeedsMemory job
wanting_told job t (inl f) e = absurd (untold job (subst (FirstTells (checks job)) e f))
wanting_told job t (inr (p, w)) e = p

pub ruleset refused_or_wanting = (refused_told, wanting_told)

-- The top bits of a state.
use Rattle.std.proofs.Common.{◌≡◌, ℕ, ◌+◌, ◌-◌, ◌*◌, ◌/◌, ◌^◌, ◌<◌, ◌≤◌, sym, ap, ◌∙◌, ⊎_elim, arith, pow-add, div-add-mod'}
use Rattle.std.proofs.lemmas.Bool.{cases_lt}
use Rattle.std.proofs.lemmas.Nat.{mul-le}

pub below : (b s : ℕ) → b ≤ 12 → s < 2 ^ 32 → s / 2 ^ (32 - b) < 2 ^ b
below b s h l =
    let whole : 2 ^ b * 2 ^ (32 - b) ≡ 2 ^ 32 = let e : b + (32 - b) ≡ 32 = omega arith in sym (pow-add 2 b (32 - b)) ∙ ap (λ n. 2 ^ n) e in
    ⊎_elim
    (λ (q : s / 2 ^ (32 - b) < 2 ^ b). q)
    (λ (q : 2 ^ b ≤ s / 2 ^ (32 - b)).
    absurd (omega (arith, whole, div-add-mod' s (2 ^ (32 - b)), mul-le (2 ^ b) (2 ^ (32 - b)) (s / 2 ^ (32 - b)) (2 ^ (32 - b)) q (omega arith))))
    (cases_lt (s / 2 ^ (32 - b)) (2 ^ b))

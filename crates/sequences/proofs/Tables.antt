-- The table of what the digits add.
use Rattle.std.proofs.Common.{◌≡◌, ℕ, zero, suc, ◌-◌, ◌*◌, ◌^◌, ◌<◌, List, [], ◌∷◌, map, slice_index_or, refl, ap, ◌∙◌, one-mul, arith}
use Rattle.std.specs.List.{range_with_len}
use Rattle.std.proofs.Math.Nat.{zero-mul}
use Rattle.std.proofs.lemmas.List.FromFn.{get_or-map-range_with_len}
use Rattle.nets.specs.Places.{Place}
use Rattle.sequences.specs.Columns.{column}
use Rattle.sequences.specs.declared.sobol.TheConstants.{DIGITS}

abbrev row : (r : ℕ) → List Place
row r = (0, 0) ∷ (2 ^ (15 - r), column r) ∷ []

table : DIGITS ≡ map row (range_with_len 0 12)
unfolding column
table = refl

row_at : (r : ℕ) → r < 12 → slice_index_or DIGITS r [] ≡ row r
row_at r h = ap (λ t. slice_index_or t r []) table ∙ get_or-map-range_with_len row 0 12 r r [] h (omega arith)

entry : (r d : ℕ) → r < 12 → d < 2 → slice_index_or (slice_index_or DIGITS r []) d (0, 0) ≡ (d * 2 ^ (15 - r), d * column r)
entry r zero h l = ap (λ ps. slice_index_or ps 0 (0, 0)) (row_at r h) ∙ rw (zero-mul (2 ^ (15 - r)), zero-mul (column r)) refl
entry r (suc zero) h l = ap (λ ps. slice_index_or ps 1 (0, 0)) (row_at r h) ∙ rw (one-mul (2 ^ (15 - r)), one-mul (column r)) refl
entry r (suc (suc d)) h l = absurd (omega arith)

pub entry_x : (r d : ℕ) → r < 12 → d < 2 → (slice_index_or (slice_index_or DIGITS r []) d (0, 0)).0 ≡ d * 2 ^ (15 - r)
entry_x r d h l = ap (λ p. p.0) (entry r d h l)

pub entry_y : (r d : ℕ) → r < 12 → d < 2 → (slice_index_or (slice_index_or DIGITS r []) d (0, 0)).1 ≡ d * column r
entry_y r d h l = ap (λ p. p.1) (entry r d h l)

pub ruleset entries = (entry_x, entry_y)

-- The indexes that are drawn, and the sum over the places at them.
use Rattle.std.specs.Prelude.{ℕ, zero, suc, ◌+◌, ◌-◌, ◌*◌, ◌/◌, ◌%◌, ◌^◌}
use Rattle.nets.specs.Places.{Place}
use Rattle.sequences.specs.Sequences.{sobol}

-- the state of the linear congruential generator after this one
abbrev pub state_from : ℕ → ℕ
state_from state = (state * 1664525 + 1013904223) % 2 ^ 32

abbrev pub state_after : (draws : ℕ) → ℕ
state_after zero = 0
state_after (suc n) = state_from (state_after n)

-- the index of so many bits that a state draws: its top bits
abbrev pub index_of : (bits state : ℕ) → ℕ
index_of bits state = state / 2 ^ (32 - bits)

-- the sum with one place more, which depends on the order of the places
abbrev pub sum_with : ℕ → Place → ℕ
sum_with sum place = (sum * 69069 + place.0 * 65536 + place.1) % 2 ^ 32

-- the sum over Sobol's points of level m at so many draws
abbrev pub sum_over : (m bits draws : ℕ) → ℕ
sum_over m bits zero = 0
sum_over m bits (suc n) = sum_with (sum_over m bits n) (sobol m (index_of bits (state_after (suc n))))

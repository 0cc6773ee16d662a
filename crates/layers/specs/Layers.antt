-- What each layer makes of a place.
use Rattle.std.specs.Prelude.{ℕ, ◌+◌, ◌-◌, ◌*◌, ◌%◌, ◌^◌, bit_xor, List, map}
use Rattle.nets.specs.Places.{Place, top, IsNet}
use Rattle.nets.specs.Digits.{digit, word}

-- under this map of places a net stays a net, of the same level
abbrev pub KeepsNets : (Place → Place) → Type 0
KeepsNets f = (m : ℕ) (ps : List Place) → IsNet m ps → IsNet m (map f ps)

-- digital shift by (s, t)
abbrev pub shift_of : (s t : ℕ) → Place → Place
shift_of s t p = (bit_xor p.0 s, bit_xor p.1 t)

-- nested scramble (Owen 1995), six levels deep, by a word of 64 bits. Bits are counted from the top of a coordinate:
-- the node of bit k has the number 2^k plus the number that the k bits above it make,
-- and bit k is flipped if the word's digit of weight 2^(node number) is 1
abbrev pub flip : (w x k : ℕ) → ℕ
flip w x k = digit w (2 ^ k + top k x)

abbrev pub scramble_bit : (w x k : ℕ) → ℕ
scramble_bit w x k = (digit x (15 - k) + flip w x k) % 2

-- bits 0 to 5 are scrambled, and the ten lower ones are kept
abbrev pub scramble_of : (w x : ℕ) → ℕ
scramble_of w x = word 6 (scramble_bit w x) * 2 ^ 10 + x % 2 ^ 10

abbrev pub scramble_place : (x_word y_word : ℕ) → Place → Place
scramble_place x_word y_word p = (scramble_of x_word p.0, scramble_of y_word p.1)

abbrev pub swap_of : Place → Place
swap_of p = (p.1, p.0)

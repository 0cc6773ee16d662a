-- Binary words: their leading digits, equal words, their XOR.
use Rattle.std.proofs.Common.{◌≡◌, ℕ, zero, suc, ◌+◌, ◌-◌, ◌*◌, ◌/◌, ◌%◌, ◌^◌, ◌<◌, ◌≤◌, sym, refl, ap, ◌∙◌, subst, ⊎_elim, div-one, arith, pow-add, shr-shr}
use native.Mathlib.Nat.{mod-one, div-eq_of_lt}
use lib.Bits.{bit_xor, xor_step, differ}
use lib.Pow.{shl-shr, mod-pow-add}
use Rattle.std.proofs.lemmas.Nat.{pow_below}
use Rattle.std.proofs.lemmas.Bool.{cases_lt}
use Rattle.nets.specs.Digits.{digit, word}
use Rattle.nets.specs.Places.{top}

-- the first n of b are binary digits
abbrev pub Bits : ℕ → (ℕ → ℕ) → Type 0
Bits n b = (k : ℕ) → k < n → b k < 2

pub word_same : (n : ℕ) (b c : ℕ → ℕ) → ((k : ℕ) → k < n → b k ≡ c k) → word n b ≡ word n c
word_same zero b c h = refl
word_same (suc n) b c h = omega (arith, h n (omega arith), word_same n b c (λ k l. h k (omega arith)))

pub word_below : (n : ℕ) (b : ℕ → ℕ) → Bits n b → word n b < 2 ^ n
word_below zero b h = omega arith
word_below (suc n) b h = omega (arith, h n (omega arith), word_below n b (λ k l. h k (omega arith)))

pub word_under : (k n : ℕ) (b : ℕ → ℕ) → Bits k b → k < n → word k b < 2 ^ n
word_under k n b h l = omega (arith, word_below k b h, pow_below k n l)

-- the leading e digits
pub word_front : (n e : ℕ) (b : ℕ → ℕ) → Bits n b → e ≤ n → word n b / 2 ^ (n - e) ≡ word e b
word_front zero e b h l = let z : e ≡ 0 = omega arith in subst (λ e. word 0 b / 2 ^ (0 - e) ≡ word e b) (sym z) refl
word_front (suc n) e b h l =
    ⊎_elim
    (λ (q : e < suc n).
    let f : suc n - e ≡ 1 + (n - e) = omega arith in
    let half : (word n b * 2 + b n) / 2 ≡ word n b = omega (arith, h n (omega arith)) in
    ap (λ z. word (suc n) b / 2 ^ z) f ∙ sym (shr-shr (word (suc n) b) 1 (n - e)) ∙ ap (λ z. z / 2 ^ (n - e)) half
    ∙ word_front n e b (λ k r. h k (omega arith)) (omega arith))
    (λ (q : suc n ≤ e).
    let z : e ≡ suc n = omega arith in
    subst (λ e. word (suc n) b / 2 ^ (suc n - e) ≡ word e b) (sym z) (let w : suc n - suc n ≡ 0 = omega arith in ap (λ z. word (suc n) b / 2 ^ z) w ∙ div-one _))
    (cases_lt e (suc n))

-- equal words have equal digits
pub word_digits : (n : ℕ) (b c : ℕ → ℕ) → Bits n b → Bits n c → word n b ≡ word n c → (k : ℕ) → k < n → b k ≡ c k
word_digits zero b c hb hc e k l = absurd (omega arith)
word_digits (suc n) b c hb hc e k l =
    let b' = hb n (omega arith) in
    let c' = hc n (omega arith) in
    ⊎_elim
    (λ (q : k < n). word_digits n b c (λ j r. hb j (omega arith)) (λ j r. hc j (omega arith)) (omega arith) k q)
    (λ (q : n ≤ k). let z : k ≡ n = omega arith in ap b z ∙ (omega arith) ∙ ap c (sym z))
    (cases_lt k n)

-- zeros at the end
pub word_pad : (n k : ℕ) (b : ℕ → ℕ) → n ≤ k → ((j : ℕ) → n ≤ j → j < k → b j ≡ 0) → word k b ≡ word n b * 2 ^ (k - n)
word_pad n zero b l h = let z : n ≡ 0 = omega arith in subst (λ n. 0 ≡ word n b * 2 ^ (0 - n)) (sym z) refl
word_pad n (suc k) b l h =
    ⊎_elim
    (λ (q : n < suc k).
    let f : suc k - n ≡ (k - n) + 1 = omega arith in
    let ih = word_pad n k b (omega arith) (λ j r s. h j r (omega arith)) in
    let last = h k (omega arith) (omega arith) in
    subst (λ z. word (suc k) b ≡ word n b * 2 ^ z) (sym f) (omega (arith, ap (λ z. word n b * z) (pow-add 2 (k - n) 1))))
    (λ (q : suc k ≤ n).
    let z : n ≡ suc k = omega arith in
    subst (λ n. word (suc k) b ≡ word n b * 2 ^ (suc k - n)) (sym z) (let w : suc k - suc k ≡ 0 = omega arith in subst (λ z. word (suc k) b ≡ word (suc k) b * 2 ^ z) (sym w) (omega arith)))
    (cases_lt n (suc k))

differ_sum : (a b : ℕ) → a < 2 → b < 2 → differ a b ≡ (a + b) % 2
differ_sum zero zero h l = refl
differ_sum zero (suc zero) h l = refl
differ_sum (suc zero) zero h l = refl
differ_sum (suc zero) (suc zero) h l = refl
differ_sum zero (suc (suc b)) h l = absurd (omega arith)
differ_sum (suc zero) (suc (suc b)) h l = absurd (omega arith)
differ_sum (suc (suc a)) b h l = absurd (omega arith)

pub word_xor : (n : ℕ) (b c : ℕ → ℕ) → Bits n b → Bits n c → bit_xor (word n b) (word n c) ≡ word n (λ k. (b k + c k) % 2)
word_xor zero b c hb hc = refl
word_xor (suc n) b c hb hc =
    let b' = hb n (omega arith) in
    let c' = hc n (omega arith) in
    let eb : (word n b * 2 + b n) / 2 ≡ word n b = omega arith in
    let ec : (word n c * 2 + c n) / 2 ≡ word n c = omega arith in
    let fb : (word n b * 2 + b n) % 2 ≡ b n = omega arith in
    let fc : (word n c * 2 + c n) % 2 ≡ c n = omega arith in
    let ih = word_xor n b c (λ k l. hb k (omega arith)) (λ k l. hc k (omega arith)) in
    let d = differ_sum (b n) (c n) b' c' in
    xor_step (word (suc n) b) (word (suc n) c) ∙ rw (eb, ec, fb, fc, ih, d)

pub digit_below : (n r : ℕ) → digit n r < 2
digit_below n r = omega arith

-- numbers whose lower n digits are equal
pub digits_same : (n i j : ℕ) → ((r : ℕ) → r < n → digit i r ≡ digit j r) → i % 2 ^ n ≡ j % 2 ^ n
digits_same zero i j h = mod-one i ∙ sym (mod-one j)
digits_same (suc n) i j h =
    let f : suc n ≡ 1 + n = omega arith in
    let ih = digits_same n i j (λ r l. h r (omega arith)) in
    ap (λ z. i % 2 ^ z) f ∙ mod-pow-add i 1 n ∙ rw (h n (omega arith), ih) (sym (mod-pow-add j 1 n)) ∙ ap (λ z. j % 2 ^ z) (sym f)

-- the top k bits are told by the top d
pub top_fewer : (k d x : ℕ) → k ≤ d → d ≤ 16 → top k x ≡ top d x / 2 ^ (d - k)
top_fewer k d x hk hd = let e : 16 - k ≡ (16 - d) + (d - k) = omega arith in ap (λ z. x / 2 ^ z) e ∙ sym (shr-shr x (16 - d) (d - k))

-- the top k bits are the digits from weight 2^15 down
pub top_digits : (k x : ℕ) → k ≤ 16 → x < 2 ^ 16 → top k x ≡ word k (λ j. digit x (15 - j))
top_digits zero x hk hx = div-eq_of_lt hx
top_digits (suc k) x hk hx =
    let one : suc k - k ≡ 1 = omega arith in
    let here : 16 - suc k ≡ 15 - k = omega arith in
    let half : top k x ≡ top (suc k) x / 2 = top_fewer k (suc k) x (omega arith) hk ∙ ap (λ z. top (suc k) x / 2 ^ z) one in
    let last : top (suc k) x % 2 ≡ digit x (15 - k) = ap (λ z. x / 2 ^ z % 2) here in
    omega (arith, half, last, top_digits k x (omega arith) hx)

-- the top bits of a number of m bits that is set as the top of a coordinate
pub top_number : (m e n : ℕ) → m ≤ 16 → e ≤ m → top e (n * 2 ^ (16 - m)) ≡ n / 2 ^ (m - e)
top_number m e n hm he = top_fewer e m (n * 2 ^ (16 - m)) he hm ∙ ap (λ z. z / 2 ^ (m - e)) (shl-shr n (16 - m))

pub top_word : (m e : ℕ) (b : ℕ → ℕ) → Bits m b → m ≤ 16 → e ≤ m → top e (word m b * 2 ^ (16 - m)) ≡ word e b
top_word m e b h hm he = top_number m e (word m b) hm he ∙ word_front m e b h he

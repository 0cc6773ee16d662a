use Rattle.std.proofs.Common.{rules, ◌≡◌, ℕ, ◌+◌, ◌*◌, ◌%◌, ◌^◌, fold, refl, ◌∙◌, arith}
use Rattle.std.specs.List.{range_with_len}
use Rattle.std.proofs.lemmas.Iterator.{YieldsList-from_range}
use Rattle.std.proofs.lemmas.Iterator.Consumers.{fold_from_yields_List}
use Rattle.nets.specs.Digits.{word}
use Rattle.nets.proofs.Words.{word_below}
use Rattle.layers.specs.Layers.{flip}
use Rattle.layers.proofs.Prefixes.{flip_bits}
use Rattle.layers.proofs.scramble.flips.Goals as goal

module _ (w x : ℕ) where
  abbrev more : (n k : ℕ) → ℕ
  more n k = n * 2 % 2 ^ 16 + flip w x k

  -- six digits are a number below 2^16
  six : fold more 0 (range_with_len 0 6) ≡ word 6 (flip w x)
  six = omega arith

pub returns : goal.returns
returns c =
    let w : ℕ = c.args.bits in
    let x : ℕ = c.args.x in
    let value : c.fold.result ≡ word 6 (flip w x) = fold_from_yields_List _ (more w x) 0 _ c.fold.ensures.ran (YieldsList-from_range 0 6 6 (cc) refl) (λ n k r q call. search rules) ∙ six w x in
    record { value = value; bound = rw value (word_below 6 (flip w x) (flip_bits w x 6)) }

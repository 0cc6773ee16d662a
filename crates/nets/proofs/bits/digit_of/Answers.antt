use Rattle.std.proofs.Common.{◌%◌, ◌^◌, ◌<◌, ◌≤◌, sym, ap, arith, pow_mono}
use native.Mathlib.Nat.{div-eq_of_lt}
use Rattle.nets.proofs.bits.digit_of.Goals as goal

pub returns-else-r-lt64 : goal.returns-else-r-lt64
returns-else-r-lt64 c =
    let wide : 2 ^ 64 ≤ 2 ^ c.args.r = pow_mono c.if-r-lt64.false in
    let small : c.args.n < 2 ^ c.args.r = omega (arith, c.ranges.n.fits) in
    sym (ap (λ z. z % 2) (div-eq_of_lt small))

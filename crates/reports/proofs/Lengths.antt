-- The text of what is measured is short.
use Rattle.std.proofs.Common.{◌≡◌, ℕ, ◌≤◌, List, length, ap, ℤ, pos, negsuc, nat_abs, arith, length-append}
use Rattle.std.specs.Int.Signed.{mag}
use Rattle.std.proofs.lemmas.Fmt.{length-decimal-le, length_signed_le}
use Rattle.reports.specs.declared.measured.Measured.{Measured}
use Rattle.reports.specs.Texts.{measured_text}

mag_small : (z : ℤ) → mag z ≤ nat_abs z
mag_small (pos n) = omega arith
mag_small (negsuc n) = omega arith

measured_short : (x : Measured) → length (measured_text x) ≤ 96
measured_short x =
    omega (
      arith,
      x,
      mag_small x.report.sum,
      length-append {A = ℕ},
      length-decimal-le 2 x.report.level,
      length-decimal-le 4 x.points,
      length-decimal-le 4 x.report.count,
      length_signed_le 8 x.report.sum,
      length-decimal-le 6 x.report.radius,
      length-decimal-le 5 x.audit,
    )

pub text_short : (x : Measured) (text : List ℕ) → text ≡ measured_text x → length text ≤ 96
text_short x text e = omega (arith, ap {B = ℕ} length e, measured_short x)

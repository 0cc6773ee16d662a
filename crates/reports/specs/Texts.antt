-- The text of what is measured.
use Rattle.std.specs.Prelude.{ℕ, List, [], ◌∷◌, codes, decimal}
use Rattle.std.specs.Fmt.{signed_decimal}
use Rattle.refusals.specs.Texts.{text_of}
use Rattle.reports.specs.declared.measured.Measured.{Measured}

-- six lines: m, N, n, S, R, and the number of the audit
abbrev pub measured_text : Measured → List ℕ
measured_text x =
    text_of (
    codes "level " ∷ decimal x.report.level ∷ codes "\npoints " ∷ decimal x.points
    ∷ codes "\ntaken " ∷ decimal x.report.count ∷ codes "\nsum " ∷ signed_decimal x.report.sum
    ∷ codes "\nradius " ∷ decimal x.report.radius ∷ codes "\naudit " ∷ decimal x.audit ∷ codes "\n" ∷ []
    )

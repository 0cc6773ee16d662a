-- The text of a verdict.
use Rattle.std.specs.Prelude.{ℕ, ◌^◌, List, [], ◌∷◌, codes, decimal}
use Rattle.refusals.specs.Texts.{text_of}
use Rattle.audit.specs.Refusals.{audit_text}
use Rattle.netaudit.specs.declared.verdict.TheConstants.{LONGEST_LIST}
use Rattle.netaudit.specs.declared.verdict.Verdict.{Verdict}
use Rattle.netaudit.specs.declared.verdict.Verdict.TheVariants.{Net, Refused, TooLong}

abbrev pub verdict_text : Verdict → List ℕ
verdict_text (Net a) =
    let m = a.places.level.m in
    text_of (
    codes "places " ∷ decimal (2 ^ m) ∷ codes "\nlevel " ∷ decimal m
    ∷ codes "\nintervals " ∷ decimal a.intervals ∷ codes "\nnet" ∷ []
    )
verdict_text (Refused e) = audit_text e
verdict_text TooLong = text_of (codes "refused 12 more than " ∷ decimal LONGEST_LIST ∷ codes " bytes" ∷ [])

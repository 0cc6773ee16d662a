-- What is told under a picture.
use Rattle.std.specs.Prelude.{ℕ, ◌^◌, List, [], ◌∷◌, ◌++◌, codes, decimal, ℤ, Some, None, Option}
use Rattle.std.specs.Fmt.{signed_decimal}
use Rattle.refusals.specs.Texts.{text_of}
use Rattle.coats.specs.declared.term.Term.{Term}
use Rattle.survey.specs.Setups.{Plan, Setup, coat_sum, radius_of}

-- a level, and how many places it has
unfoldable pub level_text : (m : ℕ) → List ℕ
level_text m =
    text_of (
    codes "<text x=\"62\" y=\"514\">level " ∷ decimal m ∷ codes ", places " ∷ decimal (2 ^ m) ∷ codes "</text>" ∷ []
    )

-- a sum and its radius
unfoldable pub sum_text : (s : ℤ) (r : ℕ) → List ℕ
sum_text s r =
    text_of (
    codes "<text x=\"62\" y=\"532\">sum " ∷ signed_decimal s ∷ codes ", radius " ∷ decimal r ∷ codes "</text>" ∷ []
    )

-- the level of a plan and, if there are terms of a map, S and R once all places are taken
abbrev pub figures_text : Plan → Option (List Term) → List ℕ
figures_text p None = level_text p.level ++ codes "\n"
figures_text p (Some ts) =
    let q : Setup = record { plan = p; map = record { terms = ts } } in
    (level_text p.level ++ codes "\n")
    ++ (sum_text (coat_sum q (2 ^ p.level)) (radius_of q (2 ^ p.level)) ++ codes "\n")

-- Places as dots of a picture, circles of SVG.
use Rattle.std.specs.Prelude.{ℕ, ◌-◌, ◌*◌, List, [], ◌∷◌, ◌++◌, codes, decimal, flat_map, ℤ, None, Option}
use Rattle.std.specs.Option.{option_map}
use Rattle.refusals.specs.Texts.{text_of}
use Rattle.nets.specs.Places.{Place}
use Rattle.coats.specs.declared.checks.TheConstants.{PANEL_SIDE}
use Rattle.coats.specs.declared.term.Term.{Term}
use Rattle.coats.specs.Terms.{coat_of}
use Rattle.listings.specs.declared.lists.Form.{Form}
use Rattle.listings.specs.declared.lists.Form.TheVariants.{Lines}
use Rattle.listings.specs.Lists.{place_text}

-- the radius of the dots of a picture of a plan of level m
abbrev pub dot_radius : (m : ℕ) → ℕ
dot_radius m = 640 - 40 * m

-- a place as a dot: x from the left, y from the bottom, and a title that tells the place
unfoldable pub dot_text : (radius : ℕ) → Form → Place → (rounds : Option ℕ) (coat : Option ℤ) → List ℕ
dot_text radius form p rounds coat =
    text_of (
    codes "<circle cx=\"" ∷ decimal p.0 ∷ codes "\" cy=\"" ∷ decimal (PANEL_SIDE - p.1)
    ∷ codes "\" r=\"" ∷ decimal radius ∷ codes "\"><title>" ∷ place_text form p rounds coat
    ∷ codes "</title></circle>" ∷ []
    )

-- a dot on a line of its own, with the coat that terms give the place, if there are terms
abbrev pub dot_line : (radius : ℕ) → Option (List Term) → Place → List ℕ
dot_line radius terms p = dot_text radius Lines p None (option_map (λ ts. coat_of ts p) terms) ++ codes "\n"

-- all places, a line for each
abbrev pub dots_text : (radius : ℕ) → Option (List Term) → List Place → List ℕ
dots_text radius terms = flat_map (dot_line radius terms)

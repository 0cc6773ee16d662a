-- The texts of rectangles.
use Rattle.std.specs.Prelude.{ℕ, ◌-◌, List, [], ◌∷◌, codes, decimal}
use Rattle.refusals.specs.Texts.{text_of}
use Rattle.listings.specs.declared.rectangle.Rectangle.{Rectangle}
use Rattle.listings.specs.Shades.{fill_text}

-- a rectangle of SVG, of a square whose side is 128: the rows are counted from the bottom
unfoldable pub rectangle_text : Rectangle → List ℕ
rectangle_text r =
    text_of (
    codes "<rect x=\"" ∷ decimal r.columns.from ∷ codes "\" y=\"" ∷ decimal (128 - r.rows.to)
    ∷ codes "\" width=\"" ∷ decimal (r.columns.to - r.columns.from)
    ∷ codes "\" height=\"" ∷ decimal (r.rows.to - r.rows.from)
    ∷ codes "\" fill=\"" ∷ fill_text r.fill ∷ codes "\"/>" ∷ []
    )

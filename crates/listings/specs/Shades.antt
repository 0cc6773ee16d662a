-- The texts of colours.
use Rattle.std.specs.Prelude.{ℕ, List, [], ◌∷◌, codes, decimal}
use Rattle.refusals.specs.Texts.{text_of}
use Rattle.listings.specs.declared.shades.Colour.{Colour}
use Rattle.listings.specs.declared.shades.Fill.{Fill}
use Rattle.listings.specs.declared.shades.Fill.TheVariants.{Shade, Hatch}

-- a colour in SVG
abbrev pub colour_text : Colour → List ℕ
colour_text c =
    text_of (
    codes "rgb(" ∷ decimal c.red ∷ codes "," ∷ decimal c.green ∷ codes "," ∷ decimal c.blue ∷ codes ")" ∷ []
    )

-- what fills a part of a picture, in SVG
abbrev pub fill_text : Fill → List ℕ
fill_text (Shade c) = colour_text c
fill_text Hatch = codes "url(#below)"

-- The order of a map's terms does not matter.
use Rattle.std.specs.Prelude.{◌≡◌, List}
use Rattle.nets.specs.Places.{Place}
use Rattle.coats.specs.declared.term.Term.{Term}
use Rattle.coats.specs.Terms.{coat_of, weight_of, integral_of}

-- the same coat everywhere, the same W and the same J
pub record IsSame (ts us : List Term) : Type 0 where
  pub coats : (p : Place) → coat_of ts p ≡ coat_of us p
  pub weights : weight_of ts ≡ weight_of us
  pub integrals : integral_of ts ≡ integral_of us

-- The places that are still to come.
use Rattle.std.specs.Prelude.{List, drop}
use Rattle.nets.specs.Places.{Place}
use Rattle.nets.specs.declared.net.Net.{Ghosts as Nets}
use Rattle.listings.specs.declared.places.Places.{Places}

-- the plan's places but the first ones, which have been given
abbrev pub rest_of : {P : Type 0} → Nets P → Places P → List Place
rest_of nets it = drop it.next (nets.places it.plan.now)

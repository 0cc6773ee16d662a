use Rattle.std.proofs.Common.{◌≡◌, ◌++◌}
use Rattle.listings.specs.Bytes.{AppendsPlaces}
use Rattle.listings.specs.Places.{rest_of}
use Rattle.listings.proofs.bytes.write_bytes.Given as goal

abbrev pub invariant-loop-place : goal.invariant-loop-place
invariant-loop-place g l = record {
  places : g.P.Net.places l.fn.plan ≡ l.yielded ++ rest_of g.P.Net l.place-iterator;
  written : AppendsPlaces (g.W.Write.contents l.fn.output) (g.W.Write.contents l.output) l.yielded;
}

use Rattle.std.proofs.Common.{◌≡◌, ◌++◌}
use Rattle.std.specs.Io.KnownBytes.{Appends}
use Rattle.std.specs.Option.{option_map, option_copied}
use Rattle.listings.specs.Dots.{dots_text}
use Rattle.listings.specs.Places.{rest_of}
use Rattle.listings.proofs.dots.write_dots.Given as goal

abbrev pub invariant-loop-place : goal.invariant-loop-place
invariant-loop-place g l = record {
  places : g.P.Net.places l.fn.plan ≡ l.yielded ++ rest_of g.P.Net l.place-iterator;
  written : Appends (g.W.Write.contents l.fn.output) (g.W.Write.contents l.output) (dots_text l.radius (option_map g.M.CoatMap.terms (option_copied l.map)) l.yielded);
}

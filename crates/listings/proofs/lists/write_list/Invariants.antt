use Rattle.std.proofs.Common.{◌≡◌, ◌++◌}
use Rattle.std.specs.Io.KnownBytes.{Appends}
use Rattle.std.specs.Option.{option_map, option_copied}
use Rattle.std.specs.Prelude.{false, is_some, None, flat_map}
use Rattle.listings.specs.Lists.{head_of, line_of}
use Rattle.listings.specs.Places.{rest_of}
use Rattle.listings.proofs.lists.write_list.Given as goal

abbrev pub invariant-loop-place : goal.invariant-loop-place
invariant-loop-place g l =
    let terms = option_map g.M.CoatMap.terms (option_copied l.map) in
    record {
      places : g.P.Net.places l.fn.plan ≡ l.yielded ++ rest_of g.P.Net l.place-iterator;
      written : Appends (g.W.Write.contents l.fn.output) (g.W.Write.contents l.output) (head_of l.form false (is_some terms) ++ flat_map (line_of l.form terms None) l.yielded);
    }

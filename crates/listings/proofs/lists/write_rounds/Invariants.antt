use Rattle.std.proofs.Common.{◌++◌}
use Rattle.std.specs.Io.KnownBytes.{Appends}
use Rattle.std.specs.List.{range_with_len}
use Rattle.std.specs.Option.{option_map, option_copied}
use Rattle.std.specs.Prelude.{is_some, flat_map}
use Rattle.listings.specs.Lists.{head_of}
use Rattle.listings.proofs.Told.{told_line}
use Rattle.listings.proofs.lists.write_rounds.Given as goal

abbrev pub invariant-loop-i : goal.invariant-loop-i
invariant-loop-i g l =
    let terms = option_map g.M.CoatMap.terms (option_copied l.map) in
    let counts = g.P.Rounds.counts l.plan in
    Appends (g.W.Write.contents l.fn.output) (g.W.Write.contents l.output) (head_of l.form counts (is_some terms) ++ flat_map (told_line l.form counts terms (g.P.Net.places l.plan)) (range_with_len 0 l.i))

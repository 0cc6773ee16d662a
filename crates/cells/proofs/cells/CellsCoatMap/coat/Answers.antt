use Rattle.std.proofs.Common.{rules, arith}
use Rattle.std.proofs.lemmas.Int.{ints}
use Rattle.coats.proofs.Sums.{coat_light}
use Rattle.cells.specs.Cells.{cells_terms}
use Rattle.cells.specs.Tables.{values_of}
use Rattle.cells.proofs.Falls.{table_coat}
use Rattle.cells.proofs.cells.CellsCoatMap.coat.Goals as goal

pub returns-clause-value : goal.returns-clause-value
returns-clause-value c =
    let coat = table_coat c.args.self.now.table c.args.place c.at_place.ensures.inside in
    search rules

pub returns-clause-bound : goal.returns-clause-bound
returns-clause-bound c =
    let coat = table_coat c.args.self.now.table c.args.place c.at_place.ensures.inside in
    let map = c.args.self.now in
    let light = coat_light (cells_terms (values_of map.table)) c.args.place (omega (arith, map.weighs, map.light)) in
    omega (arith, ints)

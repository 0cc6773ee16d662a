-- What a host knows of two surveys that it is lent.
use Rattle.std.specs.List.Sorted.{IsPermutation}
use Rattle.nets.specs.declared.net.Net.{Ghosts as Nets}
use Rattle.coats.specs.declared.coat_map.CoatMap.{Ghosts as Maps}
use Rattle.radius.specs.Radius.{Agree}
use Rattle.survey.specs.Surveys.{setup}
use Rattle.survey.specs.declared.survey.Survey.{Survey}
use Rattle.survey.specs.declared.report.Report.{Report}

-- their reports agree within their radii where the maps have the same terms up to order
abbrev pub ReportsAgree :
    {P M Q K : Type 0} {nets : Nets P} {maps : Maps M} {nets' : Nets Q} {maps' : Maps K} →
    Survey P M nets maps → Survey Q K nets' maps' → (r r' : Report) → Type 0
ReportsAgree s t r r' =
    IsPermutation (setup s).map.terms (setup t).map.terms →
    Agree r.level r'.level r.sum r'.sum r.radius r'.radius

-- The words that commands begin with.
use Rattle.std.specs.Prelude.{ℕ, List, codes}
use Rattle.maps.specs.declared.map.Map.{Map}
use Rattle.pages.specs.Layers.{PagePlan}
use Rattle.survey.specs.declared.call.Call.{Call}
use Rattle.survey.specs.declared.call.Call.TheVariants as call
use Rattle.gauge.specs.declared.commands.Verb.{Verb}
use Rattle.gauge.specs.declared.commands.Verb.TheVariants as verb

abbrev pub word_of : Verb → List ℕ
word_of verb.Open = codes "open"
word_of verb.Map = codes "map"
word_of verb.Take = codes "take"
word_of verb.Report = codes "report"
word_of verb.Limit = codes "limit"
word_of verb.Begin = codes "begin"
word_of verb.Commit = codes "commit"
word_of verb.Abandon = codes "abandon"

-- the verb of a call
abbrev pub verb_of : Call PagePlan Map → Verb
verb_of (call.Take _) = verb.Take
verb_of call.Report = verb.Report
verb_of (call.Limit _) = verb.Limit
verb_of (call.Begin _) = verb.Begin
verb_of (call.MapPage _) = verb.Map
verb_of call.Commit = verb.Commit
verb_of call.Abandon = verb.Abandon

-- What is written of a plan.
use Rattle.std.specs.Prelude.{◌≡◌, ℕ, List, Bool, true, false, not, Ok, Err, Result, Option}
use Rattle.std.specs.Io.KnownBytes.{Appends}
use Rattle.nets.specs.Places.{Place}
use Rattle.coats.specs.declared.term.Term.{Term}
use Rattle.listings.specs.Bytes.{AppendsPlaces}
use Rattle.listings.specs.Dots.{dot_radius, dots_text}
use Rattle.listings.specs.Figures.{figures_text}
use Rattle.listings.specs.Lists.{list_text, AppendsRounds}
use Rattle.listings.specs.Pictures.{AppendsPicture}
use Rattle.netplan.specs.declared.fault.PlanFault.{PlanFault}
use Rattle.netplan.specs.declared.fault.PlanFault.TheVariants.{NoRounds}
use Rattle.netplan.specs.declared.output.Form.{Form}
use Rattle.netplan.specs.declared.output.Form.TheVariants as form

-- whether rounds are wanted of a plan that counts none
abbrev pub lacks_rounds : Form → (counts : Bool) → Bool
lacks_rounds (form.Rounds f) counts = not counts
lacks_rounds _ counts = false

-- refused exactly if they are
abbrev pub ChecksRounds : {X : Type 0} → Form → (counts : Bool) → Result X PlanFault → Type 0
ChecksRounds f counts (Ok _) = lacks_rounds f counts ≡ false
ChecksRounds f counts (Err e) = (lacks_rounds f counts ≡ true) × (e ≡ NoRounds)

-- what is written of a plan of level m, which counts its rounds or not, with the coat of terms, if there are any
abbrev pub Writes : Form → (m : ℕ) → List Place → (counts : Bool) → Option (List Term) → (old new : Option (List ℕ)) → Type 0
Writes (form.List f) m ps counts terms old new = Appends old new (list_text f terms ps)
Writes (form.Rounds f) m ps counts terms old new = AppendsRounds old new f counts terms ps
Writes form.Bytes m ps counts terms old new = AppendsPlaces old new ps
Writes form.Picture m ps counts terms old new =
    AppendsPicture old new (dots_text (dot_radius m) terms ps)
    (figures_text (record { level = m; places = ps }) terms)

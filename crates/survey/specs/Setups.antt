-- Plans and maps by what they mean, and what a survey of them adds up.
use Rattle.std.specs.Prelude.{ℕ, ◌-◌, ◌^◌, List, take, drop, ℤ}
use Rattle.nets.specs.Places.{Place, IsNet}
use Rattle.nets.specs.declared.net.Net.{Ghosts as Nets}
use Rattle.coats.specs.declared.term.Term.{Term}
use Rattle.coats.specs.Terms.{IsMap}
use Rattle.coats.specs.declared.coat_map.CoatMap.{Ghosts as Maps}
use Rattle.radius.specs.Radius.{added, depth_cost, radius_after}

-- a level m and N = 2^m places in a fixed order
pub record Plan : Type 0 where
  pub level : ℕ
  pub places : List Place

-- a map, by its terms
pub record Map : Type 0 where
  pub terms : List Term

-- a plan and a map
pub record Setup : Type 0 where
  pub plan : Plan
  pub map : Map

abbrev pub IsPlan : Plan → Type 0
IsPlan p = IsNet p.level p.places

pub record IsSetup (q : Setup) : Type 0 where
  pub plan : IsPlan q.plan
  pub map : IsMap q.map.terms

-- what a value means whose type meets Net
abbrev pub plan_of : {P : Type 0} → Nets P → P → Plan
plan_of nets p = record { level = nets.level p; places = nets.places p }

-- what a value means whose type meets CoatMap
abbrev pub map_of : {M : Type 0} → Maps M → M → Map
map_of maps m = record { terms = maps.terms m }

abbrev pub setup_of : {P M : Type 0} → Nets P → Maps M → P → M → Setup
setup_of nets maps p m = record { plan = plan_of nets p; map = map_of maps m }

-- N - n
abbrev pub left_of : Plan → (n : ℕ) → ℕ
left_of p n = 2 ^ p.level - n

-- the map's coat added over k places of the plan, from the place of an index on
abbrev pub coats_of : Setup → (first k : ℕ) → ℤ
coats_of q first k = added q.map.terms (take k (drop first q.plan.places))

-- S: the map's coat added over the first n places of the plan
abbrev pub coat_sum : Setup → (n : ℕ) → ℤ
coat_sum q n = coats_of q 0 n

-- what the depths of the plan cost
abbrev pub cost_of : Setup → ℕ
cost_of q = depth_cost q.plan.level q.map.terms

-- R after n places
abbrev pub radius_of : Setup → (n : ℕ) → ℕ
radius_of q n = radius_after q.plan.level n q.map.terms

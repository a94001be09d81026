-- All homes of a method in the order of their registers.
use Rattle.std.specs.Prelude.{◌≡◌, ◌↔◌, ℕ, ◌+◌, ◌≤◌, ◌++◌, ⊤, List, [], ◌∷◌, Option, sum_by}
use Rattle.jc_base.specs.Each.{Each, IsAmong}
use Rattle.jc_base.specs.World.{Linked}
use Rattle.jc_control.specs.Method.{Method}
use Rattle.jc_rules.specs.Demand.{Frame}
use Rattle.xf_homes.specs.declared.home.Home.{Home}
use Rattle.xf_homes.specs.Value.{type_width}
use Rattle.xf_homes.specs.Home.{IsArgument, IsMetAt, IsMetBefore, PairSpot}

-- each is met before those that follow
abbrev pub AreInOrder : Linked → Method → (ℕ → Option Frame) → List Home → Type 0
AreInOrder w m frames [] = ⊤
AreInOrder w m frames (h ∷ hs) = Each (IsMetBefore w m frames h) hs × AreInOrder w m frames hs

-- each argument stands where its register is
abbrev pub SlotsFollow : ℕ → List Home → Type 0
SlotsFollow n [] = ⊤
SlotsFollow n (h ∷ hs) = (h.slot ≡ n) × SlotsFollow (n + type_width h.ty) hs

-- how many registers homes take
unfoldable pub register_sum : List Home → ℕ
register_sum hs = sum_by (λ h. type_width h.ty) hs

-- this many, which are numbers of one byte
pub record IsCount (homes : List Home) (n : ℕ) : Type 0 where
  pub sum : register_sum homes ≡ n
  pub few : n ≤ 255

-- the first register of each, of homes whose registers follow one another from a number on
abbrev pub begins_from : ℕ → List Home → List ℕ
begins_from n [] = []
begins_from n (h ∷ hs) = n ∷ begins_from (n + type_width h.ty) hs

-- homes with the first register of each, and how many registers they take
pub record AreCounted (homes : List Home) (registers : List ℕ) (n : ℕ) : Type 0 where
  pub begins : registers ≡ begins_from 0 homes
  pub count : IsCount homes n

-- the homes of a method: the arguments at their declared types, each in its own register, and then the others in the order in which they
-- are first met
pub record AreHomes (w : Linked) (m : Method) (frames : ℕ → Option Frame) (homes : List Home) : Type 0 where
  pub arguments : List Home
  pub others : List Home
  pub parts : homes ≡ arguments ++ others
  pub declared : (h : Home) → IsAmong h arguments ↔ IsArgument m.rec h
  pub stand : SlotsFollow 0 arguments
  pub filled : register_sum arguments ≡ m.rec.nargs
  pub met : (h : Home) → IsAmong h others ↔ (((spot : PairSpot) × IsMetAt w m frames spot h) × ¬ (IsArgument m.rec h))
  pub order : AreInOrder w m frames others

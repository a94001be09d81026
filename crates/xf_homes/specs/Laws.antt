-- Laws of homes: what the rewriting of a method rests on.
use Rattle.std.specs.Prelude.{◌≡◌, ◌↔◌, ℕ, ◌+◌, ◌<◌, ◌≤◌, ◌⊎◌, ⊤, List, [], ◌∷◌, reverse, Option}
use Rattle.std.specs.Prelude.{Some}
use Rattle.jc_base.specs.declared.ty.Ty.{Ty}
use Rattle.jc_base.specs.Each.{Each, IsAmong}
use Rattle.jc_base.specs.World.{Linked}
use Rattle.jc_control.specs.Method.{Method}
use Rattle.jc_control.specs.Control.{IsReached}
use Rattle.jc_rules.specs.Demand.{Frame}
use Rattle.jc_rules.specs.Flow.{At}
use Rattle.xf_homes.specs.declared.home.Home.{Home}
use Rattle.xf_homes.specs.Value.{value_in_cells, type_width}
use Rattle.xf_homes.specs.Home.{register_count, IsAsked, IsNeeded, KeepsStack, IsArgument, IsHome}
use Rattle.xf_homes.specs.Order.{AreHomes, register_sum}
use Rattle.xf_homes.specs.Walk.{register_from, local_events, with_events}

abbrev pub HasRegister : List Home → Home → Type 0
HasRegister homes h = (r : ℕ) × (register_from 0 homes h ≡ Some r)

-- a pair has a register exactly where it is a home, an argument its own; each needed type and each cell of a stack that is kept has one;
-- no two homes share a register, and all lie below the number that they take
pub record Serve (w : Linked) (m : Method) (frames : ℕ → Option Frame) (homes : List Home) : Type 0 where
  pub all : (h : Home) → HasRegister homes h ↔ IsHome w m frames h
  pub arguments : (h : Home) → IsArgument m.rec h → register_from 0 homes h ≡ Some h.slot
  pub needed : (p x : ℕ) (ty : Ty) → IsReached m p → IsNeeded m frames p x ty → HasRegister homes (record { slot = x; ty = ty })
  pub cells :
      (p i : ℕ) (ty : Ty)
      → IsReached m p
      → KeepsStack w m frames p
      → At frames p (λ f. value_in_cells (reverse f.stack) i ≡ Some ty)
      → HasRegister homes (record { slot = register_count m.rec + i; ty = ty })
  pub apart :
      (h k : Home) (r s : ℕ)
      → register_from 0 homes h ≡ Some r
      → register_from 0 homes k ≡ Some s
      → (h ≡ k) ⊎ (r + type_width h.ty ≤ s) ⊎ (s + type_width k.ty ≤ r)
  pub within : (h : Home) (r : ℕ) → register_from 0 homes h ≡ Some r → r + type_width h.ty ≤ register_sum homes

abbrev pub HomesServe : Linked → Type 0
HomesServe w = (m : Method) (frames : ℕ → Option Frame) (homes : List Home) → AreHomes w m frames homes → Serve w m frames homes

-- a method has one list of homes by a typing
abbrev pub HomesAreOne : Linked → Type 0
HomesAreOne w =
    (m : Method) (frames : ℕ → Option Frame) (homes others : List Home)
    → AreHomes w m frames homes
    → AreHomes w m frames others
    → homes ≡ others

-- ---- what is needed

-- a pair is asked for before each time that another is
abbrev pub IsAskedBefore : Method → (ℕ → Option Frame) → ℕ → ℕ → Home → Home → Type 0
IsAskedBefore m frames p x h later =
    (n : ℕ) × IsAsked m frames p x n h.ty × ((k : ℕ) → IsAsked m frames p x k later.ty → n < k)

abbrev pub AreAskedInOrder : Method → (ℕ → Option Frame) → ℕ → ℕ → List Home → Type 0
AreAskedInOrder m frames p x [] = ⊤
AreAskedInOrder m frames p x (h ∷ hs) = Each (IsAskedBefore m frames p x h) hs × AreAskedInOrder m frames p x hs

-- the homes that are needed for local x at a place: its pairs with the types that are asked for there, each once, in the order in which
-- they are first asked for
pub record AreNeeded (m : Method) (frames : ℕ → Option Frame) (p x : ℕ) (homes : List Home) : Type 0 where
  pub all : (h : Home) → IsAmong h homes ↔ ((h.slot ≡ x) × IsNeeded m frames p x h.ty)
  pub order : AreAskedInOrder m frames p x homes

-- they are what is kept for the local where nothing was kept before
abbrev pub NeededAreKept : Type 0
NeededAreKept =
    (m : Method) (frames : ℕ → Option Frame) (p x : ℕ)
    → AreNeeded m frames p x (with_events [] (local_events frames m.rec.handlers p x))

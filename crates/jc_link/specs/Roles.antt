-- The classes that the machine throws are concrete: those of the roles from 2 on.
use Rattle.std.specs.Prelude.{ℕ, ◌≤◌, ◌<◌, List, [], ◌∷◌, Option, Some, None, Result, Ok, Err, if◌then◌else◌}
use Rattle.std.specs.Prelude.{slice_index}
use Rattle.jc_base.specs.declared.record.MethodRec.{MethodRec}
use Rattle.jc_base.specs.Class.{ClassTable}
use Rattle.jc_base.specs.Dispatch.{IsConcrete, is_concrete}
use Rattle.jc_resolve.specs.declared.fault.LinkFault.{LinkFault}
use Rattle.jc_resolve.specs.declared.fault.LinkFault.TheVariants.{RoleAbstract}
use Rattle.first_fault.specs.First.{at_fault}

unfoldable pub role_fault : ClassTable → List MethodRec → ℕ → Option LinkFault
role_fault t methods k = if is_concrete t methods (slice_index t.roles k) then None else Some (RoleAbstract k)

-- the roles of the classes that the machine throws
abbrev pub thrown_roles : List ℕ
thrown_roles = 2 ∷ 3 ∷ 4 ∷ 5 ∷ 6 ∷ 7 ∷ []

abbrev pub abstract_roles : ClassTable → List MethodRec → List LinkFault
abstract_roles t methods = at_fault (role_fault t methods) thrown_roles

-- ---- the same in terms of concrete classes

-- the first of those roles whose class is not concrete
pub record IsFirstAbstract (t : ClassTable) (methods : List MethodRec) (k : ℕ) : Type 0 where
  pub low : 2 ≤ k
  pub high : k < 8
  pub abstract : ¬ (IsConcrete t methods (slice_index t.roles k))
  pub first : (j : ℕ) → 2 ≤ j → j < k → IsConcrete t methods (slice_index t.roles j)

abbrev pub IsRoleFault : ClassTable → List MethodRec → LinkFault → Type 0
IsRoleFault t methods (RoleAbstract k) = IsFirstAbstract t methods k
IsRoleFault t methods other = ⊥

-- each class that the machine throws is concrete; or the first role is named whose class is not
abbrev pub TellsRoles : ClassTable → List MethodRec → Result (Unit {0}) LinkFault → Type 0
TellsRoles t methods (Ok done) = (k : ℕ) → 2 ≤ k → k < 8 → IsConcrete t methods (slice_index t.roles k)
TellsRoles t methods (Err fault) = IsRoleFault t methods fault

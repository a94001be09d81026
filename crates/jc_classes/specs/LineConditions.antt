-- The conditions under which classes and roles have their places in one tree of superclasses: each is the list of the things at fault.
use Rattle.std.specs.Prelude.{ℕ, Bool, false, if◌then◌else◌, ◌==◌, ◌&&◌, ◌||◌, not, nat_lt, List, [], ◌∷◌, map}
use Rattle.std.specs.Prelude.{Option, Some, None, is_some, is_none, slice_get, slice_index, flat_map}
use Rattle.std.specs.List.{enumerate_from}
use Rattle.jc_base.specs.declared.record.Iface.{Iface}
use Rattle.jc_resolve.specs.declared.fault.LinkFault.{LinkFault}
use Rattle.jc_resolve.specs.declared.fault.LinkFault.TheVariants.{SuperIsInterface, Cycle, NoRole, NoSuper, NotInterface}
use Rattle.jc_resolve.specs.declared.naming.NamedClass.{NamedClass}
use Rattle.jc_resolve.specs.Named.{is_interface}
use Rattle.first_fault.specs.First.{at_fault}
use Rattle.jc_classes.specs.Ancestor.{is_above}

-- the classes and interfaces with their numbers, and the role bytes with theirs
abbrev pub numbered : {X : Type 0} → List X → List (ℕ × X)
numbered = enumerate_from 0

-- whether the record of a number is there, and a class
abbrev pub is_class_record : Option NamedClass → Bool
is_class_record None = false
is_class_record (Some r) = not r.interface

-- whether a number is that of a class, and no interface
unfoldable pub is_class_number : List NamedClass → ℕ → Bool
is_class_number cs c = is_class_record (slice_get cs c)

-- ---- a superclass is a class

abbrev pub super_fault_by : List NamedClass → ℕ → Option ℕ → Option LinkFault
super_fault_by cs c None = None
super_fault_by cs c (Some p) = if is_interface cs p then Some (SuperIsInterface c) else None

unfoldable pub super_fault : List NamedClass → ℕ × NamedClass → Option LinkFault
super_fault cs (c, r) = super_fault_by cs c r.parent

-- ---- no class is an ancestor of itself, and no interface a superinterface of itself

unfoldable pub cycle_fault : List NamedClass → ℕ × NamedClass → Option LinkFault
cycle_fault cs (c, r) = if is_above cs r.interface c c then Some (Cycle c) else None

-- ---- a role is a class of the first package, which has so many; from role 2 on it is throwable or a subclass of it

abbrev pub fits_role : List NamedClass → ℕ → ℕ → ℕ → ℕ → Bool
fits_role cs first throwable k c = nat_lt c first && is_class_number cs c && (nat_lt k 2 || c == throwable || is_above cs false throwable c)

unfoldable pub role_fault : List NamedClass → ℕ → ℕ → ℕ × ℕ → Option LinkFault
role_fault cs first throwable (k, c) = if fits_role cs first throwable k c then None else Some (NoRole k)

-- ---- object has no superclass, and every other class has one

unfoldable pub root_fault : ℕ → ℕ × NamedClass → Option LinkFault
root_fault object (c, r) = if not r.interface && (if c == object then is_some r.parent else is_none r.parent)
    then Some (NoSuper c) else None

-- ---- what a class implements and an interface extends are interfaces

abbrev pub interfaces_of : List (ℕ × NamedClass) → List (ℕ × Iface)
interfaces_of = flat_map (λ p. map (λ i. (p.0, i)) p.1.interfaces)

-- each class or interface with each interface that it names
abbrev pub named_interfaces : List NamedClass → List (ℕ × Iface)
named_interfaces cs = interfaces_of (numbered cs)

unfoldable pub not_interface_fault : List NamedClass → ℕ × Iface → Option LinkFault
not_interface_fault cs (c, i) = if is_class_number cs i.class then Some (NotInterface c i.class) else None

-- ---- all conditions, in the order of their numbers

abbrev pub conditions : List NamedClass → ℕ → List ℕ → List (List LinkFault)
conditions cs first roles =
    at_fault (super_fault cs) (numbered cs)
    ∷ at_fault (cycle_fault cs) (numbered cs)
    ∷ at_fault (role_fault cs first (slice_index roles 1)) (numbered roles)
    ∷ at_fault (root_fault (slice_index roles 0)) (numbered cs)
    ∷ at_fault (not_interface_fault cs) (named_interfaces cs)
    ∷ []

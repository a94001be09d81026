-- What stands above a class or an interface: the superclass of a class and the superclass of that
-- one, the interfaces that an interface extends and those that these extend (JCVM 2.2, sections
-- 2.2.1 and 6.8).
use Rattle.std.specs.Prelude.{ℕ, Bool, true, false, if◌then◌else◌, ◌↔◌, IsTrue, List, [], map, length, Option, Some, None}
use Rattle.std.specs.Prelude.{slice_get}
use Rattle.std.specs.Option.{option_to_list}
use Rattle.jc_base.specs.Leads.{Leads, leads_below}
use Rattle.jc_resolve.specs.declared.naming.NamedClass.{NamedClass}

abbrev pub superclass_in : Option NamedClass → List ℕ
superclass_in None = []
superclass_in (Some r) = if r.interface then [] else option_to_list r.parent

-- the superclass of a class, where it has one; an interface has none
unfoldable pub superclass : List NamedClass → ℕ → List ℕ
superclass cs c = superclass_in (slice_get cs c)

abbrev pub extended_in : Option NamedClass → List ℕ
extended_in None = []
extended_in (Some r) = if r.interface then map (λ i. i.class) r.interfaces else []

-- the interfaces that an interface extends; a class extends none
unfoldable pub extended : List NamedClass → ℕ → List ℕ
extended cs c = extended_in (slice_get cs c)

-- the class a is an ancestor of the class c
abbrev pub IsAncestor : List NamedClass → ℕ → ℕ → Type 0
IsAncestor cs a c = Leads (superclass cs) c a

-- the interface s is a superinterface of the interface i
abbrev pub IsSuperinterface : List NamedClass → ℕ → ℕ → Type 0
IsSuperinterface cs s i = Leads (extended cs) i s

-- what stands directly above, among interfaces or among classes
abbrev pub above : List NamedClass → Bool → ℕ → List ℕ
above cs true = extended cs
above cs false = superclass cs

-- ---- the same as it is computed

-- whether a number stands above another, among interfaces or among classes
unfoldable pub is_above : List NamedClass → Bool → ℕ → ℕ → Bool
is_above cs interfaces a c = leads_below (above cs interfaces) (length cs) c a

-- that is: whether it is a superinterface, or an ancestor
abbrev pub TellsAbove : List NamedClass → Type 0
TellsAbove cs = (interfaces : Bool) (a c : ℕ) → IsTrue (is_above cs interfaces a c) ↔ Leads (above cs interfaces) c a

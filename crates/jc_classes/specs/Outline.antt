-- Classes and interfaces by their packages and superclasses alone, and the chain of superclasses of a class
-- (JCVM 2.2, sections 2.2.1 and 6.8).
use Rattle.std.specs.Prelude.{◌≡◌, ℕ, zero, suc, ◌<◌, Bool, false, if◌then◌else◌, ◌==◌, List, [], ◌∷◌, length}
use Rattle.std.specs.Prelude.{map, Option, Some, None, All, slice_get, slice_index}
use Rattle.std.specs.List.{list_any}
use Rattle.jc_base.specs.Class.{list_of, last}
use Rattle.jc_resolve.specs.declared.naming.NamedClass.{NamedClass}
use Rattle.jc_classes.specs.declared.lineage_type.Line.{Line}

-- the lines of all classes and interfaces by number, and by role the number of a class: role 0 is class object, role 1
-- class throwable
pub record LineTable : Type 0 where
  pub lines : List Line
  pub roles : List ℕ

-- a class or an interface as its line
abbrev pub line_of : NamedClass → Line
line_of r = record { «package» = r.«package»; interface = r.interface; parent = r.parent }

-- the lines of classes
abbrev pub outline : List NamedClass → List ℕ → LineTable
outline cs roles = record { lines = map line_of cs; roles = roles }

-- ---- what a line says

abbrev pub object : LineTable → ℕ
object t = slice_index t.roles 0

abbrev pub throwable : LineTable → ℕ
throwable t = slice_index t.roles 1

abbrev pub package_in_line : Option Line → ℕ
package_in_line None = 0
package_in_line (Some l) = l.package

-- the package of a class or an interface
unfoldable pub package_of : LineTable → ℕ → ℕ
package_of t c = package_in_line (slice_get t.lines c)

abbrev pub is_interface_line : Option Line → Bool
is_interface_line None = false
is_interface_line (Some l) = l.interface

-- whether the line of a number is that of an interface
unfoldable pub is_interface : LineTable → ℕ → Bool
is_interface t c = is_interface_line (slice_get t.lines c)

-- a number that names a class, and no interface
pub record IsClass (t : LineTable) (c : ℕ) : Type 0 where
  pub number : c < length t.lines
  pub class : is_interface t c ≡ false

abbrev pub parent_in_line : Option Line → Option ℕ
parent_in_line None = None
parent_in_line (Some l) = if l.interface then None else l.parent

-- the superclass of a class; object has none, and an interface has none
unfoldable pub parent_of : LineTable → ℕ → Option ℕ
parent_of t c = parent_in_line (slice_get t.lines c)

-- ---- the chain of a class

-- a class, its superclass, the superclass of that one and so on, over at most n steps
unfoldable pub chain_over : LineTable → ℕ → ℕ → List ℕ
chain_over t zero c = c ∷ []
chain_over t (suc n) c = c ∷ list_of (chain_over t n) (parent_of t c)

-- the chain of superclasses of a class, the class itself first: no chain that ends has more steps than there are lines
unfoldable pub chain : LineTable → ℕ → List ℕ
chain t c = chain_over t (length t.lines) c

-- whether class d is class c or one of its superclasses
unfoldable pub is_on_chain : LineTable → ℕ → ℕ → Bool
is_on_chain t d c = list_any (λ x. x == d) (chain t c)

-- the chain of a class consists of classes and ends with object
pub record EndsWithObject (t : LineTable) (c : ℕ) : Type 0 where
  pub classes : All (IsClass t) (chain t c)
  pub ends : last (chain t c) ≡ Some (object t)

-- lines in which object is a class without superclass, and every class a subclass of it
pub record AreLines (t : LineTable) : Type 0 where
  pub objects : IsClass t (object t)
  pub object_ends : parent_of t (object t) ≡ None
  pub chains : (c : ℕ) → IsClass t c → EndsWithObject t c

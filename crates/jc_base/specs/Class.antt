-- Classes and interfaces by number, and the chain of superclasses of a class (JCVM 2.2, sections 2.2.1 and 6.8).
use Rattle.std.specs.Prelude.{◌≡◌, ℕ, zero, suc, ◌<◌, max, Bool, false, if◌then◌else◌, List, [], ◌∷◌, length}
use Rattle.std.specs.Prelude.{Option, Some, None, All, slice_get, slice_index}
use Rattle.jc_base.specs.declared.record.ClassRec.{ClassRec}

-- the records of all classes and interfaces by number, and by role the class of the machine's own
-- objects: role 0 is class object, role 1 class throwable
pub record ClassTable : Type 0 where
  pub records : List ClassRec
  pub roles : List ℕ

-- class object, of which every class is a subclass
abbrev pub object : ClassTable → ℕ
object t = slice_index t.roles 0

-- class throwable, whose subclasses are thrown and caught
abbrev pub throwable : ClassTable → ℕ
throwable t = slice_index t.roles 1

abbrev pub is_interface_record : Option ClassRec → Bool
is_interface_record None = false
is_interface_record (Some r) = r.interface

-- whether the record of a number is an interface
unfoldable pub is_interface : ClassTable → ℕ → Bool
is_interface t c = is_interface_record (slice_get t.records c)

-- the class that stands in types for a class or an interface: object for an interface
abbrev pub class_in_types : ClassTable → ℕ → ℕ
class_in_types t c = if is_interface t c then object t else c

-- a number that names a class, and no interface
pub record IsClass (t : ClassTable) (c : ℕ) : Type 0 where
  pub number : c < length t.records
  pub class : is_interface t c ≡ false

abbrev pub parent_in_record : Option ClassRec → Option ℕ
parent_in_record None = None
parent_in_record (Some r) = if r.interface then None else r.parent

-- the superclass of a class; object has none, and an interface has none
unfoldable pub parent_of : ClassTable → ℕ → Option ℕ
parent_of t c = parent_in_record (slice_get t.records c)

-- the list that a function gives of the number that is there
abbrev pub list_of : (ℕ → List ℕ) → Option ℕ → List ℕ
list_of f None = []
list_of f (Some p) = f p

-- a class, its superclass, the superclass of that one and so on, over at most n steps
unfoldable pub chain_over : ClassTable → ℕ → ℕ → List ℕ
chain_over t zero c = c ∷ []
chain_over t (suc n) c = c ∷ list_of (chain_over t n) (parent_of t c)

-- the chain of superclasses of a class, the class itself first: no chain that ends has more steps than there are records
unfoldable pub chain : ClassTable → ℕ → List ℕ
chain t c = chain_over t (length t.records) c

-- the last of a list
abbrev pub last : List ℕ → Option ℕ
last [] = None
last (x ∷ []) = Some x
last (x ∷ y ∷ ys) = last (y ∷ ys)

-- the chain of a class consists of classes and ends with object
pub record EndsWithObject (t : ClassTable) (c : ℕ) : Type 0 where
  pub classes : All (IsClass t) (chain t c)
  pub ends : last (chain t c) ≡ Some (object t)

-- a class table in which object is a class without superclass, and every class a subclass of it
pub record AreClasses (t : ClassTable) : Type 0 where
  pub objects : IsClass t (object t)
  pub object_ends : parent_of t (object t) ≡ None
  pub chains : (c : ℕ) → IsClass t c → EndsWithObject t c

-- the superclass p of a class c is the next class on its chain
pub record IsNextOnChain (t : ClassTable) (c p : ℕ) : Type 0 where
  pub class : IsClass t p
  pub chain_is : chain t c ≡ c ∷ chain t p

-- a class that has no superclass is object, and alone on its chain
pub record IsEndOfChain (t : ClassTable) (c : ℕ) : Type 0 where
  pub last_is : c ≡ object t
  pub chain_is : chain t c ≡ c ∷ []

-- the greatest number of classes on the chains of object and of the first n numbers
abbrev pub height_below : ClassTable → ℕ → ℕ
height_below t zero = length (chain t (object t))
height_below t (suc n) = max (height_below t n) (length (chain t n))

-- the greatest number of classes on a chain of superclasses, object counted
unfoldable pub height : ClassTable → ℕ
height t = height_below t (length t.records)

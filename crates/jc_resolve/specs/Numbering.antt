-- The numbers of classes and methods over all packages: classes by package and then in the order of
-- the Class component, methods by package and then in the order of the Descriptor (JCVM 2.2,
-- sections 6.8 and 6.13).
use Rattle.std.specs.Prelude.{ℕ, ◌+◌, Bool, false, not, if◌then◌else◌, List, [], ◌∷◌, ◌++◌, map, Option, Some, None}
use Rattle.std.specs.Prelude.{position, slice_get, ◌==◌, ◌&&◌}
use Rattle.cap_class.specs.ClassFormat.{Class, is_interface}
use Rattle.cap_desc.specs.DescriptorFormat as described
use Rattle.cap_package.specs.PackageRecord.{PackageRecord, names_interface}
use Rattle.jc_resolve.specs.declared.fault.RecordPlace.{RecordPlace}

-- ---- classes

-- a class or an interface: the number and the record of its package, and its own record
pub record NumberedClass : Type 0 where
  pub home : ℕ
  pub of_package : PackageRecord
  pub record_of : Class

abbrev pub numbered_class : ℕ → PackageRecord → Class → NumberedClass
numbered_class k p c = record { home = k; of_package = p; record_of = c }

abbrev pub numbered_classes_of : ℕ → PackageRecord → List NumberedClass
numbered_classes_of k p = map (numbered_class k p) p.classes

abbrev pub classes_after : ℕ → List PackageRecord → List NumberedClass
classes_after k [] = []
classes_after k (p ∷ ps) = numbered_classes_of k p ++ classes_after (k + 1) ps

-- the classes of all packages, in the order of their numbers
abbrev pub numbered_classes : List PackageRecord → List NumberedClass
numbered_classes = classes_after 0

-- where a class stands: its package, and its offset in the Class component
abbrev pub place_of_class : NumberedClass → RecordPlace
place_of_class c = record { «package» = c.home; offset = c.record_of.offset }

-- where the classes stand; a class's number is its position
abbrev pub class_places : List PackageRecord → List RecordPlace
class_places ps = map place_of_class (numbered_classes ps)

abbrev pub same_place : RecordPlace → RecordPlace → Bool
same_place a b = a.package == b.package && a.offset == b.offset

-- the number of the class that stands at a place
unfoldable pub class_at : List PackageRecord → RecordPlace → Option ℕ
class_at ps place = position (same_place place) (class_places ps)

abbrev pub flagged_interface : Option NumberedClass → Bool
flagged_interface None = false
flagged_interface (Some c) = is_interface c.record_of.flags

-- whether a number is that of an interface
unfoldable pub is_interface_number : List PackageRecord → ℕ → Bool
is_interface_number ps c = flagged_interface (slice_get (numbered_classes ps) c)

-- ---- methods

-- a method as the Descriptor describes it: the number and the record of its package; the number of
-- its class in the Descriptor and the record there; its own number in that class, and its own
-- record; and whether it stands in the Method component, which a method of an interface does not
pub record NumberedMethod : Type 0 where
  pub home : ℕ
  pub of_package : PackageRecord
  pub class_no : ℕ
  pub class : described.ClassDescriptor
  pub method_no : ℕ
  pub record_of : described.MethodDescriptor
  pub placed : Bool

abbrev pub is_placed : PackageRecord → described.ClassDescriptor → Bool
is_placed p c = not (names_interface p.classes c.class_ref)

abbrev pub numbered_method : ℕ → PackageRecord → ℕ → described.ClassDescriptor → ℕ → described.MethodDescriptor
    → NumberedMethod
numbered_method k p class_no c method_no m = record {
  home = k;
  of_package = p;
  class_no = class_no;
  class = c;
  method_no = method_no;
  record_of = m;
  placed = is_placed p c;
}

abbrev pub methods_of_class : ℕ → PackageRecord → ℕ → described.ClassDescriptor → ℕ → List described.MethodDescriptor
    → List NumberedMethod
methods_of_class k p class_no c method_no [] = []
methods_of_class k p class_no c method_no (m ∷ ms) =
    numbered_method k p class_no c method_no m
    ∷ methods_of_class k p class_no c (method_no + 1) ms

abbrev pub methods_of_classes : ℕ → PackageRecord → ℕ → List described.ClassDescriptor → List NumberedMethod
methods_of_classes k p class_no [] = []
methods_of_classes k p class_no (c ∷ cs) = methods_of_class k p class_no c 0 c.methods ++ methods_of_classes k p (class_no + 1) cs

abbrev pub methods_after : ℕ → List PackageRecord → List NumberedMethod
methods_after k [] = []
methods_after k (p ∷ ps) = methods_of_classes k p 0 p.description.items.classes ++ methods_after (k + 1) ps

-- the methods of all packages, in the order of their numbers; those of interfaces count
abbrev pub numbered_methods : List PackageRecord → List NumberedMethod
numbered_methods = methods_after 0

-- where a method stands: its package, and its offset in the Method component
abbrev pub place_of_method : NumberedMethod → Option RecordPlace
place_of_method m = if m.placed then Some (record { «package» = m.home; offset = m.record_of.method_offset }) else None

-- where the methods stand; a method's number is its position
abbrev pub method_places : List PackageRecord → List (Option RecordPlace)
method_places ps = map place_of_method (numbered_methods ps)

abbrev pub is_at : RecordPlace → Option RecordPlace → Bool
is_at place None = false
is_at place (Some other) = same_place place other

-- the number of the method that stands at a place
unfoldable pub method_at : List PackageRecord → RecordPlace → Option ℕ
method_at ps place = position (is_at place) (method_places ps)

-- The conditions on dispatch lists, implemented interfaces and instances, as lists of what breaks them (JCVM 2.2, chapters 4 and 6).
use Rattle.std.specs.Prelude.{ℕ, ◌+◌, ◌==◌, ◌&&◌, ◌||◌, not, nat_lt, Bool, false, if◌then◌else◌, List, []}
use Rattle.std.specs.Prelude.{◌∷◌, ◌++◌, length, map, flat_map, Option, Some, None, option_map, option_and_then, slice_get}
use Rattle.std.specs.List.{range_with_len, list_all}
use Rattle.std.specs.Option.{option_flatten}
use Rattle.jc_base.specs.declared.record.Iface.{Iface}
use Rattle.jc_base.specs.declared.record.MethodRec.{MethodRec}
use Rattle.jc_classes.specs.Outline.{LineTable, is_on_chain, parent_of}
use Rattle.jc_resolve.specs.declared.fault.LinkFault.{LinkFault}
use Rattle.jc_resolve.specs.declared.fault.LinkFault.TheVariants.{Hole, OverrideType, InterfaceType, InstanceLong}
use Rattle.jc_resolve.specs.declared.naming.NamedClass.{NamedClass}
use Rattle.first_fault.specs.First.{at_fault}
use Rattle.jc_classes.specs.declared.overlay.ClassLayout.{ClassLayout}
use Rattle.jc_classes.specs.Layout.{public_entries, visible_entries, instance_cells, class_layout, above_or_nothing, at_home}
use Rattle.jc_classes.specs.Signatures.{entry_method, entry_signature, same_signature}

abbrev pub class_numbers : List NamedClass → List ℕ
class_numbers classes = range_with_len 0 (length classes)

-- ---- entries without a method

-- an entry of a dispatch list of a class; tokens of package-visible entries are named from 128 on
pub record DispatchEntry : Type 0 where
  pub class : ℕ
  pub token : ℕ
  pub method : Option ℕ

abbrev pub entries_from : ℕ → ℕ → List (Option ℕ) → List DispatchEntry
entries_from c token [] = []
entries_from c token (m ∷ ms) = record { class = c; token = token; method = m } ∷ entries_from c (token + 1) ms

abbrev pub entries_in : LineTable → List NamedClass → ℕ → List DispatchEntry
entries_in t classes c = entries_from c 0 (public_entries t classes c) ++ entries_from c 128 (visible_entries t classes c)

-- whether a method can stand in a dispatch list of a class: one of the class or of one of its superclasses, not static, and no constructor
abbrev pub may_stand : LineTable → ℕ → Option MethodRec → Bool
may_stand t c None = false
may_stand t c (Some m) = is_on_chain t m.class c && (not m.is_static && not m.is_init)

unfoldable pub hole_fault : LineTable → List MethodRec → DispatchEntry → Option LinkFault
hole_fault t methods e = if may_stand t e.class (entry_method methods e.method) then None else Some (Hole e.class e.token)

abbrev pub holes : LineTable → List NamedClass → List MethodRec → List LinkFault
holes t classes methods = at_fault (hole_fault t methods) (flat_map (entries_in t classes) (class_numbers classes))

-- ---- entries that replace one of another signature

-- an entry of a dispatch list of a class, and the one at its token in the inherited list
pub record Replacement : Type 0 where
  pub class : ℕ
  pub token : ℕ
  pub inherited : Option ℕ
  pub method : Option ℕ

abbrev pub replacements_from : ℕ → ℕ → List (Option ℕ) → List (Option ℕ) → List Replacement
replacements_from c token [] ms = []
replacements_from c token (i ∷ is) [] = []
replacements_from c token (i ∷ is) (m ∷ ms) = record { class = c; token = token; inherited = i; method = m }
    ∷ replacements_from c (token + 1) is ms

-- the lists of the superclass
unfoldable pub layout_above : LineTable → List NamedClass → ℕ → ClassLayout
layout_above t classes c = above_or_nothing (option_map (class_layout t classes) (parent_of t c))

-- the package-visible list from which that of a class is made
abbrev pub visible_above : LineTable → List NamedClass → ℕ → List (Option ℕ)
visible_above t classes c = if at_home t (parent_of t c) c then (layout_above t classes c).visible else []

abbrev pub replacements_in : LineTable → List NamedClass → ℕ → List Replacement
replacements_in t classes c = replacements_from c 0 (layout_above t classes c).public
    (public_entries t classes c)
    ++ replacements_from c 128 (visible_above t classes c) (visible_entries t classes c)

unfoldable pub override_fault : List MethodRec → Replacement → Option LinkFault
override_fault methods r = if same_signature (entry_signature methods r.method)
    (entry_signature methods r.inherited) then None else Some (OverrideType r.class r.token)

abbrev pub overrides : LineTable → List NamedClass → List MethodRec → List LinkFault
overrides t classes methods = at_fault (override_fault methods) (flat_map (replacements_in t classes) (class_numbers classes))

-- ---- interfaces that are not served

-- a class with its public list, and an interface that it implements
pub record Implementation : Type 0 where
  pub class : ℕ
  pub public : List (Option ℕ)
  pub iface : Iface

-- the interfaces that a class implements; an interface implements none
abbrev pub implemented_by : Option NamedClass → List Iface
implemented_by None = []
implemented_by (Some k) = if k.interface then [] else k.interfaces

abbrev pub implementations_in : LineTable → List NamedClass → ℕ → List Implementation
implementations_in t classes c = map
    (λ (i : Iface). record { class = c; public = public_entries t classes c; iface = i })
    (implemented_by (slice_get classes c))

-- whether the class has a public method of its signature at the token that serves a method of the interface
abbrev pub serves : List MethodRec → List (Option ℕ) → Iface → MethodRec → Bool
serves methods public i m = same_signature
    (option_and_then (λ token. entry_signature methods (option_flatten (slice_get public token)))
    (slice_get i.tokens m.token)) (Some m.sig)

-- whether that holds of each method that the interface describes
abbrev pub serves_all : List MethodRec → List (Option ℕ) → Iface → Bool
serves_all methods public i = list_all (λ m. not (m.class == i.class) || serves methods public i m) methods

unfoldable pub interface_type_fault : List MethodRec → Implementation → Option LinkFault
interface_type_fault methods x = if serves_all methods x.public x.iface then None else Some (InterfaceType x.class x.iface.class)

abbrev pub unserved : LineTable → List NamedClass → List MethodRec → List LinkFault
unserved t classes methods = at_fault (interface_type_fault methods) (flat_map (implementations_in t classes) (class_numbers classes))

-- ---- instances that are too long

unfoldable pub long_fault : LineTable → List NamedClass → ℕ → Option LinkFault
long_fault t classes c = if nat_lt 32767 (instance_cells t classes c) then Some (InstanceLong c (instance_cells t classes c)) else None

abbrev pub long_instances : LineTable → List NamedClass → List LinkFault
long_instances t classes = at_fault (long_fault t classes) (class_numbers classes)

-- ---- all, in the order of their numbers

abbrev pub conditions : LineTable → List NamedClass → List MethodRec → List (List LinkFault)
conditions t classes methods = holes t classes methods ∷ overrides t classes methods
    ∷ unserved t classes methods ∷ long_instances t classes ∷ []

-- The conditions under which packages name no classes and methods, in the order of their numbers,
-- each with the list of the things that break it.
use Rattle.std.specs.Prelude.{ℕ, ◌+◌, List, [], ◌∷◌, ◌++◌, length, map, flat_map, Option, Some, None, is_none, nat_lt}
use Rattle.std.specs.Prelude.{◌==◌, ◌||◌, if◌then◌else◌, min}
use Rattle.std.specs.List.{range_with_len}
use Rattle.std.specs.Option.{option_to_list}
use Rattle.cap_class.specs.ClassFormat.{Class, Interface}
use Rattle.cap_desc.specs.declared.type_list.TypeItem.{TypeItem}
use Rattle.cap_desc.specs.DescriptorFormat as described
use Rattle.cap_desc.specs.DescriptorFormat.{FieldDescriptor}
use Rattle.cap_desc.specs.Members.{methods_of, fields_of}
use Rattle.cap_desc.specs.TypeFormat.{names_class}
use Rattle.cap_package.specs.Descriptions.{Description, field_type}
use Rattle.cap_package.specs.HeaderChecks.{is_static}
use Rattle.cap_package.specs.PackageRecord.{PackageRecord}
use Rattle.jc_resolve.specs.declared.fault.LinkFault.{LinkFault}
use Rattle.jc_resolve.specs.declared.fault.LinkFault.TheVariants.{TooManyPackages, TooManyClasses, TooManyMethods, NoPackage, NoClass}
use Rattle.first_fault.specs.First.{at_fault}
use Rattle.jc_resolve.specs.Numbering.{numbered_classes, numbered_methods}
use Rattle.jc_resolve.specs.References.{met_by, class_named}
use Rattle.jc_resolve.specs.WorldTypes.{types_named}
use Rattle.jc_resolve.specs.NamedMethods.{reference_in}

-- ---- numbers

abbrev pub packages_fault : List PackageRecord → Option LinkFault
packages_fault ps = if length ps == 0 || nat_lt 16 (length ps) then Some (TooManyPackages (min (length ps) 4294967295)) else None

abbrev pub classes_fault : List PackageRecord → Option LinkFault
classes_fault ps = if nat_lt 4096 (length (numbered_classes ps)) then Some (TooManyClasses (length (numbered_classes ps))) else None

abbrev pub methods_fault : List PackageRecord → Option LinkFault
methods_fault ps = if nat_lt 32768 (length (numbered_methods ps)) then Some (TooManyMethods (length (numbered_methods ps))) else None

-- ---- names, each a package and what it names there

-- what the packages name, from a package's number on
abbrev pub named_after : (PackageRecord → List ℕ) → ℕ → List PackageRecord → List (ℕ × ℕ)
named_after f k [] = []
named_after f k (p ∷ ps) = map (λ n. (k, n)) (f p) ++ named_after f (k + 1) ps

abbrev pub named_in : (PackageRecord → List ℕ) → List PackageRecord → List (ℕ × ℕ)
named_in f = named_after f 0

-- the tokens of a package's imports
abbrev pub import_tokens : PackageRecord → List ℕ
import_tokens p = range_with_len 0 (length p.imports)

-- no earlier package meets an import
unfoldable pub no_package_fault : List PackageRecord → ℕ × ℕ → Option LinkFault
no_package_fault ps named = if is_none (met_by ps named.0 named.1) then Some (NoPackage named.0 named.1) else None

-- the same of one package
abbrev pub import_fault : List PackageRecord → ℕ → ℕ → Option LinkFault
import_fault ps k token = no_package_fault ps (k, token)

-- the class references of a record of the Class component: its superclass, where it has one, and its interfaces
abbrev pub super_references : ℕ → List ℕ
super_references super_ref = if super_ref == 0xFFFF then [] else super_ref ∷ []

abbrev pub references_of_class : Class → List ℕ
references_of_class c = super_references c.super_ref ++ map (λ (i : Interface). i.class_ref) c.interfaces

-- the class reference of an instance field
abbrev pub reference_of_field : FieldDescriptor → List ℕ
reference_of_field f = if is_static f.flags then [] else reference_in f.bytes ∷ []

-- those of a record of the Descriptor
abbrev pub references_of_record : described.ClassDescriptor → List ℕ
references_of_record d = d.class_ref ∷ (d.interfaces ++ flat_map reference_of_field d.fields)

-- those in type descriptors that fields and methods name
abbrev pub reference_of_type : TypeItem → List ℕ
reference_of_type t = if names_class t.nibble then t.class_ref ∷ [] else []

abbrev pub references_of_field_type : Description → FieldDescriptor → List ℕ
references_of_field_type d f = flat_map reference_of_type (option_to_list (field_type d f.ty))

abbrev pub references_of_types_at : Description → ℕ → List ℕ
references_of_types_at d offset = flat_map reference_of_type (types_named d offset)

abbrev pub references_of_method : Description → described.MethodDescriptor → List ℕ
references_of_method d m = references_of_types_at d m.type_offset

abbrev pub references_of_types : Description → List ℕ
references_of_types d = flat_map (references_of_field_type d) (fields_of d.items.classes)
    ++ flat_map (references_of_method d) (methods_of d.items.classes)

-- those of the Class component
abbrev pub references_of_classes : PackageRecord → List ℕ
references_of_classes p = flat_map references_of_class p.classes

-- those of the Descriptor
abbrev pub references_described : PackageRecord → List ℕ
references_described p = flat_map references_of_record p.description.items.classes ++ references_of_types p.description

-- the class references of a package
unfoldable pub class_references : PackageRecord → List ℕ
class_references p = references_of_classes p ++ references_described p

-- a class reference names no class
unfoldable pub no_class_fault : List PackageRecord → ℕ × ℕ → Option LinkFault
no_class_fault ps named = if is_none (class_named ps named.0 named.1) then Some (NoClass named.0 named.1) else None

-- the same of one package
abbrev pub reference_fault : List PackageRecord → ℕ → ℕ → Option LinkFault
reference_fault ps k reference = no_class_fault ps (k, reference)

-- ---- the conditions

abbrev pub conditions : List PackageRecord → List (List LinkFault)
conditions ps =
    -- no package, or more than a world has
    option_to_list (packages_fault ps)
    -- more classes and more methods
    ∷ option_to_list (classes_fault ps)
    ∷ option_to_list (methods_fault ps)
    -- imports that no earlier package meets
    ∷ at_fault (no_package_fault ps) (named_in import_tokens ps)
    -- class references that name no class
    ∷ at_fault (no_class_fault ps) (named_in class_references ps)
    ∷ []

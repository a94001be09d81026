-- Where class references are looked up: where the records of methods, fields and classes are made, and the others alone.
use Rattle.std.specs.Prelude.{ℕ, List, ◌∷◌, ◌++◌, flat_map, Option}
use Rattle.cap_desc.specs.DescriptorFormat.{ClassDescriptor}
use Rattle.cap_desc.specs.Members.{fields_of}
use Rattle.cap_package.specs.Descriptions.{Description}
use Rattle.cap_package.specs.PackageRecord.{PackageRecord}
use Rattle.first_fault.specs.Least.{least_from}
use Rattle.jc_resolve.specs.declared.fault.LinkFault.{LinkFault}
use Rattle.jc_resolve.specs.Conditions.{reference_of_field, references_of_classes, references_of_field_type, references_of_method}
use Rattle.jc_resolve.specs.Conditions.{reference_fault}
use Rattle.jc_resolve.specs.Fault.{link_place}

-- the least fault of a package's class references, beside one that was seen before
abbrev pub least_named : List PackageRecord → ℕ → Option LinkFault → List ℕ → Option LinkFault
least_named ps k before = least_from link_place before (reference_fault ps k)

-- methods need the class of each record, and the types of its methods
abbrev pub references_with_methods : Description → ClassDescriptor → List ℕ
references_with_methods d c = c.class_ref ∷ flat_map (references_of_method d) c.methods

abbrev pub references_for_methods : PackageRecord → List ℕ
references_for_methods p = flat_map (references_with_methods p.description) p.description.items.classes

-- fields need their types
abbrev pub references_of_field_types : PackageRecord → List ℕ
references_of_field_types p = flat_map (references_of_field_type p.description) (fields_of p.description.items.classes)

-- the records of fields and classes are made package by package
abbrev pub references_for_classes : PackageRecord → List ℕ
references_for_classes p = references_of_field_types p ++ references_of_classes p

-- the others are interfaces and the classes of fields
abbrev pub references_without_methods : ClassDescriptor → List ℕ
references_without_methods c = c.interfaces ++ flat_map reference_of_field c.fields

abbrev pub references_besides : PackageRecord → List ℕ
references_besides p = flat_map references_without_methods p.description.items.classes

-- Numbers that two components tell (JCVM 2.2, sections 6.4 to 6.13).
use Rattle.std.specs.Prelude.{ℕ, ◌+◌, ◌*◌, List, length, Option, Some, None, find, sum_by, ◌==◌, if◌then◌else◌}
use Rattle.cap_class.specs.ClassFormat.{Class, is_interface}
use Rattle.cap_method.specs.StaticFormat.{Array, Statics}
use Rattle.cap_desc.specs.declared.type_list.TypeItem.{TypeItem}
use Rattle.cap_desc.specs.DescriptorFormat as described
use Rattle.cap_desc.specs.DescriptorFormat.{FieldDescriptor}
use Rattle.cap_components.specs.Descriptions.{Description, field_type, words_of}
use Rattle.cap_package.specs.HeaderChecks.{is_static}
use Rattle.cap_components.specs.declared.fault.CountKind.{CountKind}
use Rattle.cap_components.specs.declared.fault.CountKind.TheVariants.{InstanceCells}
use Rattle.cap_components.specs.declared.fault.PackFault.{PackFault}
use Rattle.cap_components.specs.declared.fault.PackFault.TheVariants.{CountDisagrees}

-- two numbers of one thing differ
unfoldable pub differ : CountKind → ℕ → ℕ → Option PackFault
differ what said found = if said == found then None else Some (CountDisagrees what said found)

-- the bytes of the initial arrays
abbrev pub array_bytes : List Array → ℕ
array_bytes = sum_by (λ (a : Array). length a.values)

-- the bytes of the image: two for each reference, and the primitive values
abbrev pub image_bytes : Statics → ℕ
image_bytes s = 2 * s.reference_count + s.default_value_count + length s.values

-- the cells of an instance field
abbrev pub described_cells_by : Option TypeItem → ℕ
described_cells_by None = 1
described_cells_by (Some t) = words_of t

unfoldable pub described_cells : Description → FieldDescriptor → ℕ
described_cells d f = if is_static f.flags then 0 else described_cells_by (field_type d f.ty)

-- the cells of a class's own instance fields
abbrev pub own_instance_cells : Description → List FieldDescriptor → ℕ
own_instance_cells d = sum_by (described_cells d)

-- a class's declared instance size is another than the cells of its fields
abbrev pub instance_by : Description → described.ClassDescriptor → Option Class → Option PackFault
instance_by d c None = None
instance_by d c (Some entry) = if is_interface entry.flags then None
    else differ InstanceCells entry.instance_size (own_instance_cells d c.fields)

unfoldable pub instance_fault : List Class → Description → described.ClassDescriptor → Option PackFault
instance_fault classes d c = instance_by d c (find (λ (r : Class). r.offset == c.class_ref) classes)

abbrev pub count_if : {X : Type 0} → Option (List X) → ℕ
count_if None = 0
count_if (Some xs) = length xs

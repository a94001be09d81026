-- The Descriptor component (JCVM 2.2, section 6.13) with the numbers of the methods of classes renewed. What it tells of
-- the methods of interfaces stays.
use Rattle.std.specs.Prelude.{◌+◌, ◌*◌, ℕ, Bool, List, [], ◌∷◌, Option, length, map, if◌then◌else◌}
use Rattle.cap_desc.specs.DescriptorFormat.{MethodDescriptor, ClassDescriptor, Descriptor}
use Rattle.cap_bytes.specs.Edit.{Edit}
use Rattle.cap_renewal.specs.declared.new_methods.NewMethod.{NewMethod}
use Rattle.cap_renewal.specs.NewMethods.{new_numbers}
use Rattle.cap_renewal.specs.Along.{along}

abbrev pub method_by : MethodDescriptor → NewMethod → MethodDescriptor
method_by m n = record {
  token = m.token;
  flags = m.flags;
  method_offset = n.offset;
  type_offset = m.type_offset;
  bytecode_count = n.bytecode_count;
  handler_count = n.handler_count;
  handler_index = n.handler_index;
}

abbrev pub renewed_method : List (Option NewMethod) → MethodDescriptor → MethodDescriptor
renewed_method news m = method_by m (new_numbers news m)

-- the offset stands after the token and the flags, the other numbers after the offset of the type
abbrev pub edits_to : ℕ → NewMethod → List Edit
edits_to at n =
    record { at = at + 2; number = n.offset }
    ∷ record { at = at + 6; number = n.bytecode_count }
    ∷ record { at = at + 8; number = n.handler_count }
    ∷ record { at = at + 10; number = n.handler_index }
    ∷ []

abbrev pub method_edits : List (Option NewMethod) → ℕ → MethodDescriptor → List Edit
method_edits news at m = edits_to at (new_numbers news m)

abbrev pub method_width : MethodDescriptor → ℕ
method_width m = 12

abbrev pub methods_edits : List (Option NewMethod) → ℕ → List MethodDescriptor → List Edit
methods_edits news at ms = along (method_edits news) method_width at ms

-- the bytes of a class descriptor before its methods: nine of numbers, two for each interface and seven for each field
abbrev pub before_methods : ClassDescriptor → ℕ
before_methods c = 9 + 2 * length c.interfaces + 7 * length c.fields

-- a class, where `interfaces` are the references of the interfaces
abbrev pub renewed_class : (ℕ → Bool) → List (Option NewMethod) → ClassDescriptor → ClassDescriptor
renewed_class interfaces news c = if interfaces c.class_ref then c else record c { methods = map (renewed_method news) c.methods }

abbrev pub class_edits : (ℕ → Bool) → List (Option NewMethod) → ℕ → ClassDescriptor → List Edit
class_edits interfaces news at c = if interfaces c.class_ref then [] else methods_edits news (at + before_methods c) c.methods

abbrev pub class_width : ClassDescriptor → ℕ
class_width c = before_methods c + 12 * length c.methods

-- the classes stand after their count
abbrev pub descriptor_edits : (ℕ → Bool) → List (Option NewMethod) → List ClassDescriptor → List Edit
descriptor_edits interfaces news classes = along (class_edits interfaces news) class_width 1 classes

abbrev pub renewed_descriptor : (ℕ → Bool) → List (Option NewMethod) → Descriptor → Descriptor
renewed_descriptor interfaces news d = record d { classes = map (renewed_class interfaces news) d.classes }

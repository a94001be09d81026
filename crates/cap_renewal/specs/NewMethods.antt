-- Where the methods of a package stand after they are written anew, by the offset at which each stood.
use Rattle.std.specs.Prelude.{◌<◌, ℕ, List, Option, Some, None, slice_index_or}
use Rattle.cap_desc.specs.DescriptorFormat.{MethodDescriptor}
use Rattle.cap_renewal.specs.declared.new_methods.NewMethod.{NewMethod}

-- the method that stood at an offset, if one did
abbrev pub at_offset : List (Option NewMethod) → ℕ → Option NewMethod
at_offset news offset = slice_index_or news offset None

abbrev pub offset_or : ℕ → Option NewMethod → ℕ
offset_or offset None = offset
offset_or offset (Some n) = n.offset

-- the new offset of the method that stood at an offset; where none stood, the offset itself
unfoldable pub to : List (Option NewMethod) → ℕ → ℕ
to news offset = offset_or offset (at_offset news offset)

-- the numbers that the Descriptor tells of a method
abbrev pub numbers_or : MethodDescriptor → Option NewMethod → NewMethod
numbers_or m None = record {
  offset = m.method_offset;
  bytecode_count = m.bytecode_count;
  handler_count = m.handler_count;
  handler_index = m.handler_index;
}
numbers_or m (Some n) = n

-- the same after it was written: of one that did not stand at its offset they stay
unfoldable pub new_numbers : List (Option NewMethod) → MethodDescriptor → NewMethod
new_numbers news m = numbers_or m (at_offset news m.method_offset)

-- the numbers have two bytes
pub record IsSmall (n : NewMethod) : Type 0 where
  pub offset : n.offset < 65536
  pub bytecode_count : n.bytecode_count < 65536
  pub handler_count : n.handler_count < 65536
  pub handler_index : n.handler_index < 65536

abbrev pub IsSmallIf : Option NewMethod → Type 0
IsSmallIf None = Unit {0}
IsSmallIf (Some n) = IsSmall n

pub record AreSmall (news : List (Option NewMethod)) : Type 0 where
  pub each : (offset : ℕ) → IsSmallIf (at_offset news offset)

-- a number of two bytes stays one
pub record KeepsSmall (to : ℕ → ℕ) : Type 0 where
  pub each : (offset : ℕ) → offset < 65536 → to offset < 65536

-- The headers of described methods (JCVM 2.2, section 6.9.2).
use Rattle.std.specs.Prelude.{ℕ, ◌+◌, Bool, List, Option, Some, None, option_map, nat_lt, ◌==◌, ◌||◌, ◌&&◌, not}
use Rattle.std.specs.Prelude.{if◌then◌else◌}
use Rattle.std.specs.Int.RustNames.{bit_and}
use Rattle.std.specs.Result.{result_ok}
use Rattle.cap_bytes.specs.Spelling.{info_of}
use Rattle.cap_bytes.specs.Reading.{read}
use Rattle.cap_method.specs.MethodFormat.{Header, method_header}
use Rattle.cap_desc.specs.DescriptorFormat.{MethodDescriptor}
use Rattle.cap_components.specs.Descriptions.{Description, argument_words}
use Rattle.cap_components.specs.declared.fault.CountKind.TheVariants.{ArgumentWords, AbstractCode}
use Rattle.cap_components.specs.declared.fault.PackFault.{PackFault}
use Rattle.cap_components.specs.declared.fault.PackFault.TheVariants.{TooManyRegisters, MethodLength, CountDisagrees}

-- the header that stands at an offset of the info of the Method component, where its bytes reach
unfoldable pub header_in : List ℕ → ℕ → Option Header
header_in info offset = option_map (λ p. p.0) (result_ok (read (info_of 7) method_header info offset))

abbrev pub is_abstract : Header → Bool
is_abstract h = bit_and h.flags 4 == 4

abbrev pub is_static : ℕ → Bool
is_static flags = bit_and flags 8 == 8

-- arguments and locals of a method are more than 255 words
abbrev pub registers_by : MethodDescriptor → Option Header → Option PackFault
registers_by m None = None
registers_by m (Some h) = if nat_lt 255 (h.nargs + h.max_locals)
    then Some (TooManyRegisters m.method_offset (h.nargs + h.max_locals)) else None

unfoldable pub registers_fault : List ℕ → MethodDescriptor → Option PackFault
registers_fault info m = registers_by m (header_in info m.method_offset)

-- a method with code has no byte of it, or more than 32,767
abbrev pub length_by : MethodDescriptor → Option Header → Option PackFault
length_by m None = None
length_by m (Some h) = if not (is_abstract h) && (m.bytecode_count == 0 || nat_lt 32767 m.bytecode_count)
    then Some (MethodLength m.method_offset m.bytecode_count) else None

unfoldable pub length_fault : List ℕ → MethodDescriptor → Option PackFault
length_fault info m = length_by m (header_in info m.method_offset)

-- the words of a method's arguments, the receiver among them, and those that its header tells
abbrev pub this_words : MethodDescriptor → ℕ
this_words m = if is_static m.flags then 0 else 1

abbrev pub arguments_by : MethodDescriptor → Option Header → Option ℕ → Option PackFault
arguments_by m None words = None
arguments_by m (Some h) None = None
arguments_by m (Some h) (Some words) = if h.nargs == words + this_words m then None
    else Some (CountDisagrees ArgumentWords h.nargs (words + this_words m))

unfoldable pub arguments_fault : List ℕ → Description → MethodDescriptor → Option PackFault
arguments_fault info d m = arguments_by m (header_in info m.method_offset) (argument_words d m.type_offset)

-- an abstract method of a class has code
abbrev pub abstract_by : MethodDescriptor → Option Header → Option PackFault
abstract_by m None = None
abstract_by m (Some h) = if is_abstract h && not (m.bytecode_count == 0)
    then Some (CountDisagrees AbstractCode m.bytecode_count 0) else None

unfoldable pub abstract_fault : List ℕ → MethodDescriptor → Option PackFault
abstract_fault info m = abstract_by m (header_in info m.method_offset)

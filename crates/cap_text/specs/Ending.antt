-- How a run ends, and what it leaves, as capcheck prints them.
use Rattle.std.specs.Prelude.{ℕ, ℤ, List, [], ◌∷◌, ◌++◌, length, codes, decimal, ◌==◌, ◌+◌, if◌then◌else◌}
use Rattle.std.specs.Fmt.{signed_decimal}
use Rattle.std.specs.List.{concat, flat_map}
use Rattle.vm_step.specs.declared.ending.Value.{Value}
use Rattle.vm_step.specs.declared.ending.Value.TheVariants as values
use Rattle.vm_step.specs.declared.ending.Plain.{Plain}
use Rattle.vm_step.specs.declared.ending.Plain.TheVariants.{Returned, Threw, Spent, TooDeep, HeapFull, InterfaceMissing}
use Rattle.vm_step.specs.declared.ending.Fault.{Fault}
use Rattle.vm_step.specs.declared.ending.Fault.TheVariants.{TypeFault, StackFault, LocalFault, JumpFault}
use Rattle.vm_step.specs.declared.ending.Ending.{Ending}
use Rattle.vm_step.specs.declared.ending.Ending.TheVariants as endings
use Rattle.jc_base.specs.declared.ty.Ty.{Ty}
use Rattle.jc_base.specs.declared.ty.Ty.TheVariants.{ArrBool, ArrByte, ArrShort, ArrInt}

abbrev pub reference_text : ℕ → List ℕ
reference_text handle = concat (codes "reference " ∷ decimal handle ∷ [])

-- a reference of handle 0 is null
abbrev pub value_text : Value → List ℕ
value_text values.Void = codes "void"
value_text (values.Short n) = concat (codes "short " ∷ signed_decimal n ∷ [])
value_text (values.Int n) = concat (codes "int " ∷ signed_decimal n ∷ [])
value_text (values.Ref handle) = if handle == 0 then codes "null" else reference_text handle

abbrev pub plain_text : Plain → List ℕ
plain_text (Returned value) = concat (codes "returned " ∷ value_text value ∷ [])
plain_text (Threw class handle) = concat (codes "threw class " ∷ decimal class ∷ codes " " ∷ reference_text handle ∷ [])
plain_text Spent = codes "spent"
plain_text TooDeep = codes "too deep"
plain_text HeapFull = codes "heap full"
plain_text (InterfaceMissing class) = concat (codes "interface missing class " ∷ decimal class ∷ [])

abbrev pub fault_name : Fault → List ℕ
fault_name TypeFault = codes "type"
fault_name StackFault = codes "stack"
fault_name LocalFault = codes "local"
fault_name JumpFault = codes "jump"

abbrev pub ending_text : Ending → List ℕ
ending_text (endings.Plain plain) = plain_text plain
ending_text (endings.Faulted fault) = concat (codes "fault " ∷ fault_name fault ∷ [])

abbrev pub ending_line : Ending → List ℕ
ending_line ending = concat (ending_text ending ∷ codes "\n" ∷ [])

-- a static field by its number from 0
abbrev pub static_line : ℕ → Value → List ℕ
static_line number value = concat (codes "static " ∷ decimal number ∷ codes " " ∷ value_text value ∷ codes "\n" ∷ [])

-- the static fields, numbered from here on
abbrev pub static_lines : ℕ → List Value → List ℕ
static_lines number [] = []
static_lines number (value ∷ values) = static_line number value ++ static_lines (number + 1) values

-- what the elements of an array of numbers are, by the type of the array; of any other type nothing is said
abbrev pub kind_name : Ty → List ℕ
kind_name ArrBool = codes "boolean"
kind_name ArrByte = codes "byte"
kind_name ArrShort = codes "short"
kind_name ArrInt = codes "int"
kind_name ty = []

-- an array by its handle, its kind and the number of its elements
abbrev pub array_head : ℕ → Ty → ℕ → List ℕ
array_head handle ty count =
    concat (codes "array " ∷ decimal handle ∷ codes " " ∷ kind_name ty ∷ codes " " ∷ decimal count ∷ [])

-- an element after a space
abbrev pub element_text : ℤ → List ℕ
element_text n = concat (codes " " ∷ signed_decimal n ∷ [])

-- an array of numbers and then its elements
abbrev pub array_line : ℕ → Ty → List ℤ → List ℕ
array_line handle ty elements = concat (array_head handle ty (length elements) ∷ flat_map element_text elements ∷ codes "\n" ∷ [])

-- Types, and why the rule of an instruction refuses, as capcheck prints them.
use Rattle.std.specs.Prelude.{ℕ, List, [], ◌∷◌, codes, decimal}
use Rattle.std.specs.List.{concat}
use Rattle.cap_text.specs.Fault.{name_1}
use Rattle.jc_base.specs.declared.ty.Ty.{Ty}
use Rattle.jc_base.specs.declared.ty.Ty.TheVariants.{Bottom, Short, IntHigh, IntLow, Null, Class, ArrBool, ArrByte, ArrShort, ArrInt}
use Rattle.jc_base.specs.declared.ty.Ty.TheVariants.{ArrRef, Fresh, Top}
use Rattle.jc_ops.specs.declared.fault.RuleFault.{RuleFault}
use Rattle.jc_ops.specs.declared.fault.RuleFault.TheVariants.{Underflow, Overflow, Mismatch, NoLocal, SplitInt, FreshKept, BadMember}
use Rattle.jc_ops.specs.declared.fault.RuleFault.TheVariants.{NotConcrete, StackMerge}

-- an object on which no constructor was called, by the place of the `new` that makes it and by its class
abbrev pub fresh_text : ℕ → ℕ → List ℕ
fresh_text place c = concat (codes "fresh " ∷ decimal place ∷ codes " class " ∷ decimal c ∷ [])

abbrev pub type_text : Ty → List ℕ
type_text Bottom = codes "bottom"
type_text Short = codes "short"
type_text IntHigh = codes "inthigh"
type_text IntLow = codes "intlow"
type_text Null = codes "null"
type_text (Class c) = name_1 (codes "class") c
type_text ArrBool = codes "array boolean"
type_text ArrByte = codes "array byte"
type_text ArrShort = codes "array short"
type_text ArrInt = codes "array int"
type_text (ArrRef c) = name_1 (codes "array class") c
type_text (Fresh place c) = fresh_text place c
type_text Top = codes "top"

abbrev pub mismatch_text : Ty → Ty → List ℕ
mismatch_text found wanted = concat (codes "Mismatch found " ∷ type_text found ∷ codes " wanted " ∷ type_text wanted ∷ [])

abbrev pub rule_fault_text : RuleFault → List ℕ
rule_fault_text Underflow = codes "Underflow"
rule_fault_text Overflow = codes "Overflow"
rule_fault_text (Mismatch found wanted) = mismatch_text found wanted
rule_fault_text (NoLocal register) = name_1 (codes "NoLocal") register
rule_fault_text SplitInt = codes "SplitInt"
rule_fault_text FreshKept = codes "FreshKept"
rule_fault_text (BadMember entry) = name_1 (codes "BadMember") entry
rule_fault_text (NotConcrete c) = name_1 (codes "NotConcrete") c
rule_fault_text StackMerge = codes "StackMerge"

-- Why an entry does not start, as capcheck prints it.
use Rattle.std.specs.Prelude.{ℕ, List, [], ◌∷◌, codes, decimal}
use Rattle.std.specs.List.{concat}
use Rattle.cap_text.specs.Fault.{name_1}
use Rattle.vm_step.specs.declared.ending.StartFault.{StartFault}
use Rattle.vm_step.specs.declared.ending.StartFault.TheVariants.{NoEntry, NotStatic, ArgCount, ArgKind, ArgRoom}

-- so many arguments, and so many parameters
abbrev pub count_text : ℕ → ℕ → List ℕ
count_text said wanted = concat (codes "ArgCount " ∷ decimal said ∷ codes " " ∷ decimal wanted ∷ [])

abbrev pub start_fault_text : StartFault → List ℕ
start_fault_text NoEntry = codes "NoEntry"
start_fault_text NotStatic = codes "NotStatic"
start_fault_text (ArgCount said wanted) = count_text said wanted
start_fault_text (ArgKind number) = name_1 (codes "ArgKind") number
start_fault_text (ArgRoom number) = name_1 (codes "ArgRoom") number

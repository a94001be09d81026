-- Why a bare method is refused, as capcheck prints it.
use Rattle.std.specs.Prelude.{ℕ, ℤ, List, [], ◌∷◌, codes}
use Rattle.std.specs.Fmt.{signed_decimal}
use Rattle.std.specs.List.{concat}
use Rattle.cap_text.specs.Fault.{name_1}
use Rattle.jc_decode.specs.declared.insn.CodeEnd.{CodeEnd}
use Rattle.jc_decode.specs.declared.insn.CodeEnd.TheVariants.{NoOpcode, Cut, OutOfScope, BadOperand}
use Rattle.cap_bare.specs.declared.fault.BareKind.{BareKind}
use Rattle.cap_bare.specs.declared.fault.BareKind.TheVariants.{Code, Underflow, Overflow, NoLocal, StackAtTarget, StackAtBranch, BadTarget}
use Rattle.cap_bare.specs.declared.fault.BareKind.TheVariants.{FallsOff}

abbrev pub code_end_text : CodeEnd → List ℕ
code_end_text (NoOpcode opcode) = name_1 (codes "NoOpcode") opcode
code_end_text Cut = codes "Cut"
code_end_text (OutOfScope opcode) = name_1 (codes "OutOfScope") opcode
code_end_text (BadOperand byte) = name_1 (codes "BadOperand") byte

-- a branch leads to a place where no instruction begins
abbrev pub bad_target_text : ℤ → List ℕ
bad_target_text target = concat (codes "BadTarget " ∷ signed_decimal target ∷ [])

abbrev pub bare_kind_text : BareKind → List ℕ
bare_kind_text (Code end) = code_end_text end
bare_kind_text Underflow = codes "Underflow"
bare_kind_text Overflow = codes "Overflow"
bare_kind_text (NoLocal register) = name_1 (codes "NoLocal") register
bare_kind_text StackAtTarget = codes "StackAtTarget"
bare_kind_text StackAtBranch = codes "StackAtBranch"
bare_kind_text (BadTarget target) = bad_target_text target
bare_kind_text FallsOff = codes "FallsOff"

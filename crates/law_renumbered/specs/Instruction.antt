-- An instruction whose register has another number (JCVM 2.2, section 7.5).
use Rattle.std.specs.Prelude.{◌≡◌, ℕ, pos, ◌==◌, ◌||◌, Bool, if◌then◌else◌}
use Rattle.std.proofs.Common.{refl}
use Rattle.jc_decode.specs.declared.insn.Insn.{Insn}
use Rattle.jc_decode.specs.Forms.{is_register_move, with_operand}
use Rattle.jc_ops.specs.Resolve.{byte_of}

-- loads, stores and increments: sinc, iinc and their wide forms
abbrev pub uses_register : ℕ → Bool
uses_register op = is_register_move op || op == 89 || op == 90 || op == 150 || op == 151

-- such an instruction names the register with this number instead, as an operand; another stays as it is
abbrev pub renumbered_instruction : (ℕ → ℕ) → Insn → Insn
renumbered_instruction reg i =
    if uses_register i.op
    then record (with_operand i) { x = pos (reg (byte_of (with_operand i).x)) }
    else i

-- sload_3 becomes sload 1, and sinc 3 by 2 becomes sinc 1 by 2
abbrev third_to_first : ℕ → ℕ
third_to_first x = if x == 3 then 1 else x

a_load : renumbered_instruction third_to_first (record { op = 31; x = pos 0; y = pos 0; z = pos 0; len = 1 })
    ≡ record { op = 22; x = pos 1; y = pos 0; z = pos 0; len = 1 }
a_load = refl

an_increment : renumbered_instruction third_to_first (record { op = 89; x = pos 3; y = pos 2; z = pos 0; len = 3 })
    ≡ record { op = 89; x = pos 1; y = pos 2; z = pos 0; len = 3 }
an_increment = refl

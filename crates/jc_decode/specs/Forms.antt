-- The forms of one instruction (JCVM 2.2, section 7.5): a load or store of one of the first four registers
-- has a form without an operand, a jump one with an offset of one byte and one with two.
use Rattle.std.specs.Prelude.{◌≡◌, ℕ, pos, unsigned_abs, ◌+◌, ◌-◌, ◌*◌, ◌/◌, ◌%◌, Bool, Result, Ok, Err}
use Rattle.std.specs.Prelude.{◌||◌, ◌&&◌, nat_le, if◌then◌else◌, negsuc, int_le, ℤ}
use Rattle.std.proofs.Common.{refl}
use Rattle.jc_decode.specs.declared.layout.Layout.{Layout}
use Rattle.jc_decode.specs.declared.insn.Insn.{Insn}
use Rattle.jc_decode.specs.declared.insn.CodeEnd.{CodeEnd}
use Rattle.jc_decode.specs.Layout.{opcode, layout_of, total_width}
use Rattle.jc_decode.specs.Cases.{is_switch}
use Rattle.jc_decode.specs.Listing.{is_branch, jumps}

abbrev pub is_between : ℕ → ℕ → ℕ → Bool
is_between a b n = nat_le a n && nat_le n b

-- aload, sload, iload and astore, sstore, istore, whose operand is a register
abbrev pub names_register : ℕ → Bool
names_register op = is_between 21 23 op || is_between 40 42 op

-- the same with a register from 0 to 3 in the opcode: aload_<n> to istore_<n>
abbrev pub is_load_n : ℕ → Bool
is_load_n op = is_between 24 35 op

abbrev pub is_store_n : ℕ → Bool
is_store_n op = is_between 43 54 op

-- a load or store of a register, in either form
abbrev pub is_register_move : ℕ → Bool
is_register_move op = names_register op || is_load_n op || is_store_n op

-- a load or store with the register in the opcode, as the one with an operand; another instruction as it is
abbrev pub with_operand : Insn → Insn
with_operand i =
    if is_load_n i.op then record i { op = 21 + (i.op - 24) / 4; x = pos ((i.op - 24) % 4) }
    else if is_store_n i.op then record i { op = 40 + (i.op - 43) / 4; x = pos ((i.op - 43) % 4) }
    else i

-- the opcode without an operand for register 0: aload_0 for aload, and so on
abbrev pub first_short : ℕ → ℕ
first_short op = if nat_le op 23 then 24 + 4 * (op - 21) else 43 + 4 * (op - 40)

-- a load or store of one of the first four registers, as the one without an operand; another instruction as it is
abbrev pub short_form : Insn → Insn
short_form i =
    if names_register i.op && nat_le (unsigned_abs i.x) 3
    then record i { op = first_short i.op + unsigned_abs i.x; x = pos 0 }
    else i

-- the wide conditionals and goto_w
abbrev pub is_wide_jump : ℕ → Bool
is_wide_jump op = is_between 152 168 op

-- the wide form of a jump
abbrev pub wide : ℕ → ℕ
wide op = if is_between 96 112 op then op + 56 else op

-- an offset of one byte
abbrev pub is_near : ℤ → Bool
is_near d = int_le (negsuc 127) d && int_le d (pos 127)

-- the jump whose wide form has this opcode, over a distance, in its wide or its short form
abbrev pub jump_to : ℕ → Bool → ℤ → Insn
jump_to op is_wide d = record { op = if is_wide then op else op - 56; x = d; y = pos 0; z = pos 0; len = 0 }

-- an instruction in its long form, without its length and, where it jumps, without the default or the only distance:
-- what stays the same where it is laid elsewhere
abbrev pub essence : Insn → Insn
essence i =
    if jumps i.op
    then record i { op = wide i.op; x = pos 0; len = 0 }
    else record (with_operand i) { len = 0 }

abbrev pub bytes_by : Result Layout CodeEnd → ℕ
bytes_by (Ok l) = 1 + total_width l
bytes_by (Err e) = 1

-- the length of an instruction: by its opcode, and of a switch with its table
abbrev pub length_of : Insn → ℕ
length_of i = if is_switch i.op then i.len else bytes_by (layout_of i.op)

-- its plain length, in which a load or store of any register has its operand, and each jump is wide
abbrev pub plain_length : Insn → ℕ
plain_length i = if is_register_move i.op then 2 else if is_branch i.op then 3 else length_of i

-- sload 3 and sload_3; astore_2; a goto of one byte
third : short_form (record { op = 22; x = pos 3; y = pos 0; z = pos 0; len = 2 })
    ≡ record { op = 31; x = pos 0; y = pos 0; z = pos 0; len = 2 }
third = refl

store_two : with_operand (record { op = 45; x = pos 0; y = pos 0; z = pos 0; len = 1 })
    ≡ record { op = 40; x = pos 2; y = pos 0; z = pos 0; len = 1 }
store_two = refl

goto : essence (record { op = 112; x = pos 5; y = pos 0; z = pos 0; len = 2 })
    ≡ record { op = 168; x = pos 0; y = pos 0; z = pos 0; len = 0 }
unfolding layout_of opcode
goto = refl

-- The operands of each instruction, opcode by opcode (JCVM 2.2, chapter 7). The widths are u1, u2, s1, s2
-- and s4: unsigned or signed, with the number of bytes.
use Rattle.std.specs.Prelude.{ℕ, ◌+◌, Bool, List, [], ◌∷◌, Option, Some, None, Result, Ok, Err, ◌||◌, ◌&&◌, ◌==◌}
use Rattle.std.specs.Prelude.{nat_le, if◌then◌else◌}
use Rattle.std.specs.List.{find}
use Rattle.jc_decode.specs.declared.layout.Operand.{Operand}
use Rattle.jc_decode.specs.declared.layout.Operand.TheVariants.{Absent, U1, U2, S1, S2, S4, DupWords, SwapWords, ArrayType, TestedType}
use Rattle.jc_decode.specs.declared.layout.Cases.TheVariants.{Range, Pairs}
use Rattle.jc_decode.specs.declared.layout.Cases.TheVariants.{Absent as NoCases}
use Rattle.jc_decode.specs.declared.layout.Layout.{Layout}
use Rattle.jc_decode.specs.declared.layout.Opcode.{Opcode}
use Rattle.jc_decode.specs.declared.layout.Opcode.TheVariants.{Instruction, Reserved, Unused}
use Rattle.jc_decode.specs.declared.insn.CodeEnd.{CodeEnd}
use Rattle.jc_decode.specs.declared.insn.CodeEnd.TheVariants.{OutOfScope, NoOpcode}

-- the number of an operand's bytes
abbrev pub operand_width : Operand → ℕ
operand_width Absent = 0
operand_width U1 = 1
operand_width U2 = 2
operand_width S1 = 1
operand_width S2 = 2
operand_width S4 = 4
operand_width DupWords = 1
operand_width SwapWords = 1
operand_width ArrayType = 1
operand_width TestedType = 1

-- the number of the bytes of all three
abbrev pub total_width : Layout → ℕ
total_width l = operand_width l.x + operand_width l.y + operand_width l.z

abbrev pub no_operands : Layout
no_operands = record { x = Absent; y = Absent; z = Absent; cases = NoCases }

abbrev pub one : Operand → Layout
one x = record { x = x; y = Absent; z = Absent; cases = NoCases }

abbrev pub two : Operand → Operand → Layout
two x y = record { x = x; y = y; z = Absent; cases = NoCases }

abbrev pub three : Operand → Operand → Operand → Layout
three x y z = record { x = x; y = y; z = z; cases = NoCases }

-- the default, low and high, and an offset for each number between
abbrev pub table_switch : Operand → Layout
table_switch bound = record { x = S2; y = bound; z = bound; cases = Range }

-- the default and the number of pairs, and the pairs
abbrev pub lookup_switch : Operand → Layout
lookup_switch key = record { x = S2; y = U2; z = Absent; cases = Pairs key }

-- opcodes that follow one another and have the same operands
pub record Span : Type 0 where
  pub first : ℕ
  pub last : ℕ
  pub layout : Layout

abbrev pub span : ℕ → ℕ → Layout → Span
span first last layout = record { first = first; last = last; layout = layout }

-- the instructions, by rising opcodes
abbrev pub spans : List Span
spans =
    span 0 15 no_operands  -- nop, aconst_null, sconst_<s>, iconst_<i>
    ∷ span 16 16 (one S1)  -- bspush
    ∷ span 17 17 (one S2)  -- sspush
    ∷ span 18 18 (one S1)  -- bipush
    ∷ span 19 19 (one S2)  -- sipush
    ∷ span 20 20 (one S4)  -- iipush
    ∷ span 21 23 (one U1)  -- aload, sload, iload
    ∷ span 24 39 no_operands  -- aload_<n>, sload_<n>, iload_<n>, aaload, baload, saload, iaload
    ∷ span 40 42 (one U1)  -- astore, sstore, istore
    ∷ span 43 62 no_operands  -- astore_<n>, sstore_<n>, istore_<n>, the array stores, pop, pop2, dup, dup2
    ∷ span 63 63 (one DupWords)  -- dup_x
    ∷ span 64 64 (one SwapWords)  -- swap_x
    ∷ span 65 88 no_operands  -- sadd to ixor
    ∷ span 89 90 (two U1 S1)  -- sinc, iinc
    ∷ span 91 95 no_operands  -- s2b, s2i, i2b, i2s, icmp
    ∷ span 96 112 (one S1)  -- if<cond>, ifnull, ifnonnull, if_acmp<cond>, if_scmp<cond>, goto
    ∷ span 115 115 (table_switch S2)  -- stableswitch
    ∷ span 116 116 (table_switch S4)  -- itableswitch
    ∷ span 117 117 (lookup_switch S2)  -- slookupswitch
    ∷ span 118 118 (lookup_switch S4)  -- ilookupswitch
    ∷ span 119 122 no_operands  -- areturn, sreturn, ireturn, return
    ∷ span 123 130 (one U2)  -- getstatic_<t>, putstatic_<t>
    ∷ span 131 138 (one U1)  -- getfield_<t>, putfield_<t>
    ∷ span 139 141 (one U2)  -- invokevirtual, invokespecial, invokestatic
    ∷ span 142 142 (three U1 U2 U1)  -- invokeinterface
    ∷ span 143 143 (one U2)  -- new
    ∷ span 144 144 (one ArrayType)  -- newarray
    ∷ span 145 145 (one U2)  -- anewarray
    ∷ span 146 147 no_operands  -- arraylength, athrow
    ∷ span 148 149 (two TestedType U2)  -- checkcast, instanceof
    ∷ span 150 151 (two U1 S2)  -- sinc_w, iinc_w
    ∷ span 152 168 (one S2)  -- the wide conditionals, goto_w
    ∷ span 169 172 (one U2)  -- getfield_<t>_w
    ∷ span 173 176 (one U1)  -- getfield_<t>_this
    ∷ span 177 180 (one U2)  -- putfield_<t>_w
    ∷ span 181 184 (one U1)  -- putfield_<t>_this
    ∷ []

abbrev pub is_in_span : ℕ → Span → Bool
is_in_span op s = nat_le s.first op && nat_le op s.last

-- left out here: jsr (113) and ret (114), whose subroutines need return addresses on the stack, and the
-- two opcodes that the standard reserves for an implementation
abbrev pub is_out_of_scope : ℕ → Bool
is_out_of_scope op = op == 113 || op == 114 || op == 254 || op == 255

abbrev pub opcode_in_span : Option Span → Opcode
opcode_in_span None = Unused
opcode_in_span (Some s) = Instruction s.layout

-- what an opcode stands for
unfoldable pub opcode : ℕ → Opcode
opcode op = if is_out_of_scope op then Reserved else opcode_in_span (find (is_in_span op) spans)

abbrev pub layout_from : ℕ → Opcode → Result Layout CodeEnd
layout_from op (Instruction layout) = Ok layout
layout_from op Reserved = Err (OutOfScope op)
layout_from op Unused = Err (NoOpcode op)

-- the operands of an opcode's instruction, or why there is none
unfoldable pub layout_of : ℕ → Result Layout CodeEnd
layout_of op = layout_from op (opcode op)

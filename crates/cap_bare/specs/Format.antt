-- The instructions of bare methods: the opcodes of JCVM 2.2, chapter 7, that work on shorts alone, each with
-- what it makes of its operands.
use Rattle.std.specs.Prelude.{ℕ, pos, negsuc, ◌==◌, Bool, is_some, unsigned_abs, List, [], ◌∷◌, Option, find}
use Rattle.std.specs.Option.{option_map, unwrap_or}
use Rattle.jc_decode.specs.declared.layout.Operand.TheVariants.{U1, S2}
use Rattle.jc_decode.specs.declared.insn.Insn.{Insn}
use Rattle.jc_decode.specs.Decoding.{FitsOperand}
use Rattle.jc_ops.specs.declared.operation.Order.TheVariants.{Equal, NotEqual, Less, GreaterOrEqual, Greater, LessOrEqual}
use Rattle.jc_ops.specs.declared.operation.Operator.TheVariants.{Add, Subtract, Multiply, ShiftLeft, ShiftRight, ShiftRightUnsigned, And}
use Rattle.jc_ops.specs.declared.operation.Operator.TheVariants.{Or, ExclusiveOr}
use Rattle.cap_bare.specs.declared.instruction.Instruction.{Instruction}
use Rattle.cap_bare.specs.declared.instruction.Instruction.TheVariants.{Nop, Push, Load, Store, Increment, Pop, Duplicate, Negate, ToByte}
use Rattle.cap_bare.specs.declared.instruction.Instruction.TheVariants.{Binary, Test, Compare, Goto, Return}
use Rattle.cap_bare.specs.declared.format.BareFormat.{BareFormat}
use Rattle.cap_bare.specs.declared.format.BareFormat.TheVariants.{Implied, Constant, Loads, Stores, Increments}

-- each opcode that a bare method may have
abbrev pub formats : List (ℕ × BareFormat)
formats =
    (0, Implied Nop)  -- nop
    ∷ (2, Implied (Push (negsuc 0)))  -- sconst_m1
    ∷ (3, Implied (Push (pos 0)))
    ∷ (4, Implied (Push (pos 1)))
    ∷ (5, Implied (Push (pos 2)))
    ∷ (6, Implied (Push (pos 3)))
    ∷ (7, Implied (Push (pos 4)))
    ∷ (8, Implied (Push (pos 5)))
    ∷ (16, Constant)  -- bspush
    ∷ (17, Constant)  -- sspush
    ∷ (22, Loads)  -- sload
    ∷ (28, Implied (Load 0))  -- sload_0
    ∷ (29, Implied (Load 1))
    ∷ (30, Implied (Load 2))
    ∷ (31, Implied (Load 3))
    ∷ (41, Stores)  -- sstore
    ∷ (47, Implied (Store 0))  -- sstore_0
    ∷ (48, Implied (Store 1))
    ∷ (49, Implied (Store 2))
    ∷ (50, Implied (Store 3))
    ∷ (59, Implied Pop)  -- pop
    ∷ (61, Implied Duplicate)  -- dup
    ∷ (65, Implied (Binary Add))  -- sadd
    ∷ (67, Implied (Binary Subtract))  -- ssub
    ∷ (69, Implied (Binary Multiply))  -- smul
    ∷ (75, Implied Negate)  -- sneg
    ∷ (77, Implied (Binary ShiftLeft))  -- sshl
    ∷ (79, Implied (Binary ShiftRight))  -- sshr
    ∷ (81, Implied (Binary ShiftRightUnsigned))  -- sushr
    ∷ (83, Implied (Binary And))  -- sand
    ∷ (85, Implied (Binary Or))  -- sor
    ∷ (87, Implied (Binary ExclusiveOr))  -- sxor
    ∷ (89, Increments)  -- sinc
    ∷ (91, Implied ToByte)  -- s2b
    ∷ (96, Implied (Test Equal))  -- ifeq
    ∷ (97, Implied (Test NotEqual))
    ∷ (98, Implied (Test Less))
    ∷ (99, Implied (Test GreaterOrEqual))
    ∷ (100, Implied (Test Greater))
    ∷ (101, Implied (Test LessOrEqual))
    ∷ (106, Implied (Compare Equal))  -- if_scmpeq
    ∷ (107, Implied (Compare NotEqual))
    ∷ (108, Implied (Compare Less))
    ∷ (109, Implied (Compare GreaterOrEqual))
    ∷ (110, Implied (Compare Greater))
    ∷ (111, Implied (Compare LessOrEqual))
    ∷ (112, Implied Goto)  -- goto
    ∷ (120, Implied Return)  -- sreturn
    ∷ []

-- how an opcode makes an instruction, where bare methods have it
unfoldable pub instruction_format : ℕ → Option BareFormat
instruction_format opcode = option_map (λ row. row.1) (find (λ row. row.0 == opcode) formats)

-- whether bare methods have an opcode
abbrev pub is_bare : ℕ → Bool
is_bare opcode = is_some (instruction_format opcode)

-- the instruction with these operands
abbrev pub resolved : BareFormat → Insn → Instruction
resolved (Implied instruction) insn = instruction
resolved Constant insn = Push insn.x
resolved Loads insn = Load (unsigned_abs insn.x)
resolved Stores insn = Store (unsigned_abs insn.x)
resolved Increments insn = Increment (unsigned_abs insn.x) insn.y

-- what the instruction does; one that bare methods do not have does nothing
abbrev pub instruction_of : Insn → Instruction
instruction_of insn = unwrap_or (option_map (λ format. resolved format insn) (instruction_format insn.op)) Nop

-- the operands that a format reads lie in their ranges: a byte for a register, a short for the others
abbrev pub FitsFormat : BareFormat → Insn → Type 0
FitsFormat (Implied instruction) insn = Unit {0}
FitsFormat Constant insn = FitsOperand S2 insn.x
FitsFormat Loads insn = FitsOperand U1 insn.x
FitsFormat Stores insn = FitsOperand U1 insn.x
FitsFormat Increments insn = FitsOperand U1 insn.x × FitsOperand S2 insn.y

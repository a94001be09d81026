-- What an instruction is by its opcode alone (JCVM 2.2, section 7.5, in the order of the opcodes): an operation,
-- or one that operands complete.
use Rattle.std.specs.Prelude.{ℕ, ℤ, pos, negsuc, List, [], ◌∷◌, ◌++◌, map, replicate, Some, None, slice_index_or}
use Rattle.jc_base.specs.declared.ty.Kind.{Kind}
use Rattle.jc_base.specs.declared.ty.Kind.TheVariants as kinds
use Rattle.jc_ops.specs.declared.operation.Sort.{Sort}
use Rattle.jc_ops.specs.declared.operation.Sort.TheVariants as sorts
use Rattle.jc_ops.specs.declared.operation.Width.{Width}
use Rattle.jc_ops.specs.declared.operation.Width.TheVariants as widths
use Rattle.jc_ops.specs.declared.operation.Constant.TheVariants as constants
use Rattle.jc_ops.specs.declared.operation.Move.TheVariants as moves
use Rattle.jc_ops.specs.declared.operation.Operator.{Operator}
use Rattle.jc_ops.specs.declared.operation.Operator.TheVariants as operators
use Rattle.jc_ops.specs.declared.operation.Arithmetic.TheVariants as arithmetic
use Rattle.jc_ops.specs.declared.operation.Order.{Order}
use Rattle.jc_ops.specs.declared.operation.Order.TheVariants as orders
use Rattle.jc_ops.specs.declared.operation.Sameness.TheVariants as sameness
use Rattle.jc_ops.specs.declared.operation.Branch.TheVariants as branches
use Rattle.jc_ops.specs.declared.operation.Holder.TheVariants as holders
use Rattle.jc_ops.specs.declared.operation.TypeTest.TheVariants as tests
use Rattle.jc_ops.specs.declared.operation.Operation.{Operation}
use Rattle.jc_ops.specs.declared.operation.Operation.TheVariants as ops
use Rattle.jc_ops.specs.declared.row.Invocation.TheVariants as invocations
use Rattle.jc_ops.specs.declared.row.Row.{Row}
use Rattle.jc_ops.specs.declared.row.Row.TheVariants as rows

-- one for each letter of the names: a, s and i
unfoldable pub by_sort : (Sort → Row) → List Row
by_sort row = row sorts.Reference ∷ row sorts.Short ∷ row sorts.Int ∷ []

-- s and i
unfoldable pub by_width : (Width → Row) → List Row
by_width row = row widths.Short ∷ row widths.Int ∷ []

-- a, b, s and i
unfoldable pub by_kind : (Kind → Row) → List Row
by_kind row = row kinds.Ref ∷ row kinds.Byte ∷ row kinds.Short ∷ row kinds.Int ∷ []

-- the register is one of the first four
unfoldable pub first_four : (ℕ → Operation) → List Row
first_four op = map (λ x. rows.Plain (op x)) (0 ∷ 1 ∷ 2 ∷ 3 ∷ [])

-- the register is the operand; then, for each letter, one of the first four
unfoldable pub by_register : (Sort → Row) → (Sort → ℕ → Operation) → List Row
by_register row op =
    by_sort row
    ++ first_four (op sorts.Reference)
    ++ first_four (op sorts.Short)
    ++ first_four (op sorts.Int)

-- the numbers from -1 to 5
unfoldable pub literals : (ℤ → Operation) → List Row
literals op =
    map (λ n. rows.Plain (op n)) (negsuc 0 ∷ pos 0 ∷ pos 1 ∷ pos 2 ∷ pos 3 ∷ pos 4 ∷ pos 5 ∷ [])

-- each operator on shorts and on ints
unfoldable pub binaries : List Operator → List Row
binaries [] = []
binaries (o ∷ os) = by_width (λ w. rows.Plain (ops.Arithmetic (arithmetic.Binary o w))) ++ binaries os

unfoldable pub orders_all : List Order
orders_all = orders.Equal ∷ orders.NotEqual ∷ orders.Less ∷ orders.GreaterOrEqual ∷ orders.Greater ∷ orders.LessOrEqual ∷ []

-- the comparisons with zero, with null, of references and of shorts; then goto
unfoldable pub branching : List Row
branching =
    map (λ o. rows.Plain (ops.Branch (branches.Zero o))) orders_all
    ++ map (λ e. rows.Plain (ops.Branch (branches.Null e))) (sameness.Equal ∷ sameness.Different ∷ [])
    ++ map (λ e. rows.Plain (ops.Branch (branches.References e))) (sameness.Equal ∷ sameness.Different ∷ [])
    ++ map (λ o. rows.Plain (ops.Branch (branches.Shorts o))) orders_all
    ++ rows.Plain (ops.Branch branches.Always) ∷ []

-- what is no instruction does nothing, as nop: none is decoded
unfoldable pub unused : Row
unused = rows.Plain (ops.Constant constants.Nothing)

-- the row of each opcode, from 0 to 255; jsr, ret and the opcodes from 185 on are unused
unfoldable pub table : List Row
table =
    map (λ c. rows.Plain (ops.Constant c)) (constants.Nothing ∷ constants.Null ∷ [])
    ++ literals (λ n. ops.Constant (constants.Short n))
    ++ literals (λ n. ops.Constant (constants.Int n))
    ++ replicate 2 rows.PushShort
    ++ replicate 3 rows.PushInt
    ++ by_register rows.Load ops.Load
    ++ by_kind (λ k. rows.Plain (ops.ArrayRead k))
    ++ by_register rows.Store ops.Store
    ++ by_kind (λ k. rows.Plain (ops.ArrayWrite k))
    ++ map (λ m. rows.Plain (ops.Move m)) (moves.Pop ∷ moves.PopTwo ∷ moves.Duplicate ∷ moves.DuplicateTwo ∷ [])
    ++ rows.CopyUnder ∷ rows.Exchange ∷ []
    ++ binaries (operators.Add ∷ operators.Subtract ∷ operators.Multiply ∷ operators.Divide ∷ operators.Remainder ∷ [])
    ++ by_width (λ w. rows.Plain (ops.Arithmetic (arithmetic.Negate w)))
    ++ binaries
    (operators.ShiftLeft ∷ operators.ShiftRight ∷ operators.ShiftRightUnsigned
    ∷ operators.And ∷ operators.Or ∷ operators.ExclusiveOr ∷ [])
    ++ by_width rows.Increment
    ++ map (λ a. rows.Plain (ops.Arithmetic a))
    (arithmetic.ShortToByte ∷ arithmetic.ShortToInt ∷ arithmetic.IntToByte ∷ arithmetic.IntToShort ∷ arithmetic.CompareInts ∷ [])
    ++ branching
    ++ replicate 2 unused
    ++ by_width (λ w. rows.Plain (ops.Switch w))
    ++ by_width (λ w. rows.Plain (ops.Switch w))
    ++ by_sort (λ s. rows.Return (Some s))
    ++ rows.Return None ∷ []
    ++ by_kind rows.StaticRead
    ++ by_kind rows.StaticWrite
    ++ by_kind (λ k. rows.FieldRead k holders.Stack)
    ++ by_kind (λ k. rows.FieldWrite k holders.Stack)
    ++ map rows.Call (invocations.Virtual ∷ invocations.Special ∷ invocations.Static ∷ invocations.Interface ∷ [])
    ++ rows.New ∷ rows.NewNumbers ∷ rows.NewReferences ∷ []
    ++ rows.Plain ops.ArrayLength ∷ rows.Plain ops.Throw ∷ []
    ++ map rows.TypeTest (tests.Cast ∷ tests.InstanceOf ∷ [])
    ++ by_width rows.Increment
    ++ branching
    ++ by_kind (λ k. rows.FieldRead k holders.Stack)
    ++ by_kind (λ k. rows.FieldRead k holders.This)
    ++ by_kind (λ k. rows.FieldWrite k holders.Stack)
    ++ by_kind (λ k. rows.FieldWrite k holders.This)
    ++ replicate 71 unused

-- the row of one opcode
unfoldable pub row_at : ℕ → Row
row_at op = slice_index_or table op unused

-- The typing rule of each operation (JCVM 2.2, section 7.5; Leroy 2002, section 2.2): what it asks of the frame, in the
-- order in which it is tried, and what it does.
use Rattle.std.specs.Prelude.{ℕ, ◌+◌, List, [], ◌∷◌, ◌++◌, length, reverse, Option, Some, None}
use Rattle.std.specs.Prelude.{slice_get, slice_index_or}
use Rattle.jc_base.specs.declared.ty.Ty.{Ty}
use Rattle.jc_base.specs.declared.ty.Ty.TheVariants.{Bottom, Short, IntHigh, IntLow, Null, Class, ArrShort, ArrInt, ArrRef, Fresh, Top}
use Rattle.jc_base.specs.declared.ty.Kind.{Kind}
use Rattle.jc_base.specs.declared.ty.Kind.TheVariants as kinds
use Rattle.jc_base.specs.declared.record.MethodRec.{MethodRec}
use Rattle.jc_base.specs.Class.{ClassTable, object, throwable, class_in_types}
use Rattle.jc_base.specs.World.{Linked}
use Rattle.jc_ops.specs.declared.operation.Want.{Want}
use Rattle.jc_ops.specs.declared.operation.Want.TheVariants.{Value, Storable, ByteArray, AnyArray, Whole, Receiver}
use Rattle.jc_ops.specs.declared.operation.Sort.{Sort}
use Rattle.jc_ops.specs.declared.operation.Sort.TheVariants as sorts
use Rattle.jc_ops.specs.declared.operation.Width.{Width}
use Rattle.jc_ops.specs.declared.operation.Width.TheVariants as widths
use Rattle.jc_ops.specs.declared.operation.Constant.{Constant}
use Rattle.jc_ops.specs.declared.operation.Constant.TheVariants as constants
use Rattle.jc_ops.specs.declared.operation.Move.{Move}
use Rattle.jc_ops.specs.declared.operation.Move.TheVariants as moves
use Rattle.jc_ops.specs.declared.operation.Arithmetic.{Arithmetic}
use Rattle.jc_ops.specs.declared.operation.Arithmetic.TheVariants as arithmetic
use Rattle.jc_ops.specs.declared.operation.Branch.{Branch}
use Rattle.jc_ops.specs.declared.operation.Branch.TheVariants as branches
use Rattle.jc_ops.specs.declared.operation.Holder.{Holder}
use Rattle.jc_ops.specs.declared.operation.Holder.TheVariants as holders
use Rattle.jc_ops.specs.declared.operation.TypeTest.{TypeTest}
use Rattle.jc_ops.specs.declared.operation.TypeTest.TheVariants as tests
use Rattle.jc_ops.specs.declared.operation.Operation.{Operation}
use Rattle.jc_ops.specs.declared.operation.Operation.TheVariants as ops
use Rattle.jc_rules.specs.declared.demand.Demand.{Demand}
use Rattle.jc_rules.specs.declared.demand.Demand.TheVariants.{Registers, Depth, Cell, Cut, Held}
use Rattle.jc_rules.specs.declared.effect.Cells.{Cells}
use Rattle.jc_rules.specs.declared.effect.Cells.TheVariants as given
use Rattle.jc_rules.specs.declared.effect.Change.{Change}
use Rattle.jc_rules.specs.declared.effect.Change.TheVariants.{Replace, CopyUnder, Exchange, MakeReady}
use Rattle.jc_rules.specs.declared.effect.Effect.{Effect}
use Rattle.jc_rules.specs.Effect.{reg}
use Rattle.jc_rules.specs.Demand.{Frame}

-- ---- words

-- the type at a number of a list of registers or cells
abbrev pub cell : List Ty → ℕ → Ty
cell stack n = slice_index_or stack n Top

-- a reference to an object or an array
abbrev pub a_reference : ClassTable → Want
a_reference t = Value (Class (object t))

-- a number from a cell on: the low half of an int is on top
abbrev pub number : Width → ℕ → List Demand
number widths.Short n = Cell n (Value Short) ∷ []
number widths.Int n = Cell n (Value IntLow) ∷ Cell (n + 1) (Value IntHigh) ∷ []

-- two numbers, one under the other
abbrev pub two_numbers : Width → List Demand
two_numbers widths.Short = number widths.Short 0 ++ number widths.Short 1
two_numbers widths.Int = number widths.Int 0 ++ number widths.Int 2

abbrev pub size : Width → ℕ
size widths.Short = 1
size widths.Int = 2

abbrev pub number_given : Width → Cells
number_given widths.Short = given.One Short
number_given widths.Int = given.Int

-- the cells of a value of a declared type, which is IntHigh for an int
abbrev pub value_given : Ty → Cells
value_given IntHigh = given.Int
value_given ty = given.One ty

-- a value of a declared type on top of the stack
abbrev pub value_wanted : Ty → List Demand
value_wanted IntHigh = number widths.Int 0
value_wanted ty = Cell 0 (Value ty) ∷ []

abbrev pub value_size : Ty → ℕ
value_size IntHigh = 2
value_size ty = 1

-- an effect on the stack alone
abbrev pub on_stack : Change → Effect
on_stack change = record { change = change; store = record { register = 0; cells = given.Nothing } }

abbrev pub replacing : ℕ → Cells → Effect
replacing taken cells = on_stack (Replace taken cells)

-- a value goes from the stack into a register
abbrev pub storing : ℕ → ℕ → Cells → Effect
storing taken x cells = record { change = Replace taken given.Nothing; store = record { register = x; cells = cells } }

-- ---- constants, registers and the stack

abbrev pub constant_effect : Constant → Effect
constant_effect constants.Nothing = replacing 0 given.Nothing
constant_effect constants.Null = replacing 0 (given.One Null)
constant_effect (constants.Short n) = replacing 0 (given.One Short)
constant_effect (constants.Int n) = replacing 0 given.Int

abbrev pub load_demands : ClassTable → Sort → ℕ → List Demand
load_demands t sorts.Reference x = Registers x 1 ∷ Held x (Class (object t)) ∷ []
load_demands t sorts.Short x = Registers x 1 ∷ Held x Short ∷ []
load_demands t sorts.Int x = Registers x 2 ∷ Held x IntHigh ∷ Held (x + 1) IntLow ∷ []

-- the join of the type of a reference with Null
abbrev pub or_null : Ty → Ty
or_null Bottom = Null
or_null ty = ty

abbrev pub load_effect : Sort → ℕ → Frame → Effect
load_effect sorts.Reference x f = replacing 0 (given.One (or_null (reg f.regs x)))
load_effect sorts.Short x f = replacing 0 (given.One Short)
load_effect sorts.Int x f = replacing 0 given.Int

abbrev pub store_demands : Sort → ℕ → List Demand
store_demands sorts.Reference x = Registers x 1 ∷ Cell 0 Storable ∷ []
store_demands sorts.Short x = Registers x 1 ∷ Cell 0 (Value Short) ∷ []
store_demands sorts.Int x = Registers x 2 ∷ Cell 0 (Value IntLow) ∷ Cell 1 (Value IntHigh) ∷ []

abbrev pub store_effect : Sort → ℕ → Frame → Effect
store_effect sorts.Reference x f = storing 1 x (given.One (cell f.stack 0))
store_effect sorts.Short x f = storing 1 x (given.One Short)
store_effect sorts.Int x f = storing 2 x given.Int

-- the register is read as a number and written again
abbrev pub increment_demands : Width → ℕ → List Demand
increment_demands widths.Short x = Registers x 1 ∷ Held x Short ∷ []
increment_demands widths.Int x = Registers x 2 ∷ Held x IntHigh ∷ Held (x + 1) IntLow ∷ []

abbrev pub increment_effect : Width → ℕ → Effect
increment_effect w x = storing 0 x (number_given w)

-- two cells that split no int
abbrev pub two_cells : List Demand
two_cells = Depth 2 ∷ Cut 2 ∷ []

abbrev pub move_demands : Move → List Demand
move_demands moves.Pop = Cell 0 Whole ∷ []
move_demands moves.PopTwo = two_cells
move_demands moves.Duplicate = Cell 0 Whole ∷ []
move_demands moves.DuplicateTwo = two_cells
move_demands (moves.CopyUnder m n) = Depth m ∷ Cut m ∷ Depth n ∷ Cut n ∷ []
move_demands (moves.Exchange m n) = Depth m ∷ Cut m ∷ Depth (m + n) ∷ Cut (m + n) ∷ []

abbrev pub move_effect : Move → Effect
move_effect moves.Pop = replacing 1 given.Nothing
move_effect moves.PopTwo = replacing 2 given.Nothing
move_effect moves.Duplicate = on_stack (CopyUnder 1 0)
move_effect moves.DuplicateTwo = on_stack (CopyUnder 2 0)
move_effect (moves.CopyUnder m n) = on_stack (CopyUnder m n)
move_effect (moves.Exchange m n) = on_stack (Exchange m n)

-- ---- arithmetic

abbrev pub arithmetic_demands : Arithmetic → List Demand
arithmetic_demands (arithmetic.Binary o w) = two_numbers w
arithmetic_demands (arithmetic.Negate w) = number w 0
arithmetic_demands arithmetic.ShortToByte = number widths.Short 0
arithmetic_demands arithmetic.ShortToInt = number widths.Short 0
arithmetic_demands arithmetic.IntToByte = number widths.Int 0
arithmetic_demands arithmetic.IntToShort = number widths.Int 0
arithmetic_demands arithmetic.CompareInts = two_numbers widths.Int

abbrev pub arithmetic_effect : Arithmetic → Effect
arithmetic_effect (arithmetic.Binary o widths.Short) = replacing 2 (given.One Short)
arithmetic_effect (arithmetic.Binary o widths.Int) = replacing 4 given.Int
arithmetic_effect (arithmetic.Negate w) = replacing (size w) (number_given w)
arithmetic_effect arithmetic.ShortToByte = replacing 1 (given.One Short)
arithmetic_effect arithmetic.ShortToInt = replacing 1 given.Int
arithmetic_effect arithmetic.IntToByte = replacing 2 (given.One Short)
arithmetic_effect arithmetic.IntToShort = replacing 2 (given.One Short)
arithmetic_effect arithmetic.CompareInts = replacing 4 (given.One Short)

-- ---- arrays

-- the array of the elements of a kind
abbrev pub array_wanted : ClassTable → Kind → Want
array_wanted t kinds.Ref = Value (ArrRef (object t))
array_wanted t kinds.Byte = ByteArray
array_wanted t kinds.Short = Value ArrShort
array_wanted t kinds.Int = Value ArrInt

-- the type of an element of an array of references; null has elements of no class
abbrev pub element : Ty → Ty
element (ArrRef c) = Class c
element ty = Null

-- the index is on the array
abbrev pub array_read_demands : ClassTable → Kind → List Demand
array_read_demands t k = Cell 0 (Value Short) ∷ Cell 1 (array_wanted t k) ∷ []

abbrev pub array_read_effect : Kind → Frame → Effect
array_read_effect kinds.Ref f = replacing 2 (given.One (element (cell f.stack 1)))
array_read_effect kinds.Byte f = replacing 2 (given.One Short)
array_read_effect kinds.Short f = replacing 2 (given.One Short)
array_read_effect kinds.Int f = replacing 2 given.Int

-- the value is on the index, and that on the array
abbrev pub array_write_demands : ClassTable → Kind → List Demand
array_write_demands t kinds.Ref = Cell 0 (a_reference t) ∷ Cell 1 (Value Short) ∷ Cell 2 (array_wanted t kinds.Ref) ∷ []
array_write_demands t kinds.Byte = Cell 0 (Value Short) ∷ Cell 1 (Value Short) ∷ Cell 2 (array_wanted t kinds.Byte) ∷ []
array_write_demands t kinds.Short = Cell 0 (Value Short) ∷ Cell 1 (Value Short) ∷ Cell 2 (array_wanted t kinds.Short) ∷ []
array_write_demands t kinds.Int =
    Cell 0 (Value IntLow) ∷ Cell 1 (Value IntHigh) ∷ Cell 2 (Value Short)
    ∷ Cell 3 (array_wanted t kinds.Int) ∷ []

abbrev pub array_write_effect : Kind → Effect
array_write_effect kinds.Int = replacing 4 given.Nothing
array_write_effect k = replacing 3 given.Nothing

-- ---- branches

abbrev pub branch_demands : ClassTable → Branch → List Demand
branch_demands t branches.Always = []
branch_demands t (branches.Zero o) = number widths.Short 0
branch_demands t (branches.Null e) = Cell 0 (a_reference t) ∷ []
branch_demands t (branches.References e) = Cell 0 (a_reference t) ∷ Cell 1 (a_reference t) ∷ []
branch_demands t (branches.Shorts o) = two_numbers widths.Short

abbrev pub branch_effect : Branch → Effect
branch_effect branches.Always = replacing 0 given.Nothing
branch_effect (branches.Zero o) = replacing 1 given.Nothing
branch_effect (branches.Null e) = replacing 1 given.Nothing
branch_effect (branches.References e) = replacing 2 given.Nothing
branch_effect (branches.Shorts o) = replacing 2 given.Nothing

-- ---- fields

abbrev pub field_read_demands : Holder → ℕ → List Demand
field_read_demands holders.Stack c = Cell 0 (Value (Class c)) ∷ []
field_read_demands holders.This c = Registers 0 1 ∷ Held 0 (Class c) ∷ []

abbrev pub field_read_effect : Holder → Ty → Effect
field_read_effect holders.Stack ty = replacing 1 (value_given ty)
field_read_effect holders.This ty = replacing 0 (value_given ty)

-- the value is on the object, or the object in register 0
abbrev pub field_write_demands : Holder → ℕ → Ty → List Demand
field_write_demands holders.Stack c ty = value_wanted ty ++ Cell (value_size ty) (Value (Class c)) ∷ []
field_write_demands holders.This c ty = Registers 0 1 ∷ (value_wanted ty ++ Held 0 (Class c) ∷ [])

abbrev pub field_write_effect : Holder → Ty → Effect
field_write_effect holders.Stack ty = replacing (value_size ty + 1) given.Nothing
field_write_effect holders.This ty = replacing (value_size ty) given.Nothing

-- ---- calls

-- cells of these types, from a cell on
abbrev pub cells_wanted : ℕ → List Ty → List Demand
cells_wanted n [] = []
cells_wanted n (ty ∷ tys) = Cell n (Value ty) ∷ cells_wanted (n + 1) tys

abbrev pub receiver_wanted : ℕ → Option Want → List Demand
receiver_wanted n None = []
receiver_wanted n (Some want) = Cell n want ∷ []

-- the last argument is on top, and the receiver under the first
abbrev pub call_demands : List Ty → Option Want → List Demand
call_demands args receiver = cells_wanted 0 (reverse args) ++ receiver_wanted (length args) receiver

abbrev pub result_given : Option Ty → Cells
result_given None = given.Nothing
result_given (Some ty) = value_given ty

-- a constructor makes ready each object that was made with its receiver
abbrev pub ready_with : ℕ → Cells → Ty → Want → Change
ready_with taken cells (Fresh place c) (Receiver d) = MakeReady taken place d cells
ready_with taken cells ty want = Replace taken cells

abbrev pub call_change : List Ty → Cells → Option Want → Frame → Change
call_change args cells None f = Replace (length args) cells
call_change args cells (Some want) f = ready_with (length args + 1) cells (cell f.stack (length args)) want

abbrev pub call_effect : List Ty → Option Ty → Option Want → Frame → Effect
call_effect args result receiver f = on_stack (call_change args (result_given result) receiver f)

-- the argument types and the result of a method
abbrev pub args_at : Option MethodRec → List Ty
args_at None = []
args_at (Some m) = m.sig.args

abbrev pub result_at : Option MethodRec → Option Ty
result_at None = None
result_at (Some m) = m.sig.result

-- ---- objects and types

-- the type of an object or an array, as frames have it
abbrev pub seen : ClassTable → Ty → Ty
seen t (Class c) = Class (class_in_types t c)
seen t (ArrRef c) = ArrRef (class_in_types t c)
seen t ty = ty

abbrev pub type_test_effect : TypeTest → Ty → Effect
type_test_effect tests.Cast ty = replacing 1 (given.One ty)
type_test_effect tests.InstanceOf ty = replacing 1 (given.One Short)

abbrev pub return_demands : Option Ty → List Demand
return_demands None = []
return_demands (Some ty) = value_wanted ty

abbrev pub return_effect : Option Ty → Effect
return_effect None = replacing 0 given.Nothing
return_effect (Some ty) = replacing (value_size ty) given.Nothing

-- ---- the rule

-- what an operation asks of the frame, in order: the registers that it names, cells from the top down, registers that it reads
abbrev pub demands : Linked → Operation → List Demand
demands w (ops.Constant c) = []
demands w (ops.Load s x) = load_demands w.classes s x
demands w (ops.Store s x) = store_demands s x
demands w (ops.Increment width x amount) = increment_demands width x
demands w (ops.Move m) = move_demands m
demands w (ops.Arithmetic a) = arithmetic_demands a
demands w (ops.ArrayRead k) = array_read_demands w.classes k
demands w (ops.ArrayWrite k) = array_write_demands w.classes k
demands w ops.ArrayLength = Cell 0 AnyArray ∷ []
demands w (ops.Branch b) = branch_demands w.classes b
demands w (ops.Switch width) = number width 0
demands w (ops.StaticRead f) = []
demands w (ops.StaticWrite f) = value_wanted f.ty
demands w (ops.FieldRead f h) = field_read_demands h f.class
demands w (ops.FieldWrite f h) = field_write_demands h f.class f.ty
demands w (ops.Call c) = call_demands (args_at (slice_get w.methods c.method)) c.receiver
demands w (ops.New place c) = []
demands w (ops.NewArray ty) = Cell 0 (Value Short) ∷ []
demands w ops.Throw = Cell 0 (Value (Class (throwable w.classes))) ∷ []
demands w (ops.TypeTest test ty) = Cell 0 (a_reference w.classes) ∷ []
demands w (ops.Return result) = return_demands result

-- what it does to a frame that has what it asks
abbrev pub effect : Linked → Operation → Frame → Effect
effect w (ops.Constant c) f = constant_effect c
effect w (ops.Load s x) f = load_effect s x f
effect w (ops.Store s x) f = store_effect s x f
effect w (ops.Increment width x amount) f = increment_effect width x
effect w (ops.Move m) f = move_effect m
effect w (ops.Arithmetic a) f = arithmetic_effect a
effect w (ops.ArrayRead k) f = array_read_effect k f
effect w (ops.ArrayWrite k) f = array_write_effect k
effect w ops.ArrayLength f = replacing 1 (given.One Short)
effect w (ops.Branch b) f = branch_effect b
effect w (ops.Switch width) f = replacing (size width) given.Nothing
effect w (ops.StaticRead field) f = replacing 0 (value_given field.ty)
effect w (ops.StaticWrite field) f = replacing (value_size field.ty) given.Nothing
effect w (ops.FieldRead field h) f = field_read_effect h field.ty
effect w (ops.FieldWrite field h) f = field_write_effect h field.ty
effect w (ops.Call c) f = call_effect (args_at (slice_get w.methods c.method)) (result_at (slice_get w.methods c.method)) c.receiver f
effect w (ops.New place c) f = replacing 0 (given.One (Fresh place c))
effect w (ops.NewArray ty) f = replacing 1 (given.One (seen w.classes ty))
effect w ops.Throw f = replacing 1 given.Nothing
effect w (ops.TypeTest test ty) f = type_test_effect test (seen w.classes ty)
effect w (ops.Return result) f = return_effect result

-- the first register that is written and how many are
abbrev pub wrote : ℕ → Cells → Option (ℕ × ℕ)
wrote x given.Nothing = None
wrote x (given.One ty) = Some (x, 1)
wrote x given.Int = Some (x, 2)

-- Constants, registers, moves on the stack and arithmetic (JCVM 2.2, chapter 7).
use Rattle.std.specs.Prelude.{ℕ, ◌+◌, ℤ, List, [], ◌∷◌, ◌++◌, take, drop, Option}
use Rattle.std.specs.Int.{w16, w32, int_wrapping_add, int_wrapping_neg}
use Rattle.jc_ops.specs.declared.operation.Sort.{Sort}
use Rattle.jc_ops.specs.declared.operation.Sort.TheVariants as sorts
use Rattle.jc_ops.specs.declared.operation.Width.{Width}
use Rattle.jc_ops.specs.declared.operation.Width.TheVariants as widths
use Rattle.jc_ops.specs.declared.operation.Constant.{Constant}
use Rattle.jc_ops.specs.declared.operation.Constant.TheVariants as constants
use Rattle.jc_ops.specs.declared.operation.Move.{Move}
use Rattle.jc_ops.specs.declared.operation.Move.TheVariants as moves
use Rattle.jc_ops.specs.declared.operation.Operator.{Operator}
use Rattle.jc_ops.specs.declared.operation.Arithmetic.{Arithmetic}
use Rattle.jc_ops.specs.declared.operation.Arithmetic.TheVariants as arithmetic
use Rattle.vm_arithmetic.specs.Arithmetic.{of_shorts, of_ints, short_to_byte, int_to_byte, int_to_short, compared, high_word, low_word}
use Rattle.vm_store.specs.declared.cell.CellKind.TheVariants as made
use Rattle.vm_store.specs.Cells.{Cells}
use Rattle.vm_store.specs.State.{State, top, nth, with_stack, with_register, rotated}
use Rattle.vm_step.specs.declared.ending.Exception.TheVariants as exceptions
use Rattle.vm_step.specs.Act.{Act, goes, if_some}
use Rattle.vm_step.specs.Numbers.{short_at, int_on, int_in, number_on, number_cells, number_width, dropped, pushed, replaced}

-- ---- constants

abbrev pub constant_cells : {A : Type 0} → Cells A → Constant → List A
constant_cells k constants.Nothing = []
constant_cells k constants.Null = k.reference 0 ∷ []
constant_cells k (constants.Short n) = number_cells k widths.Short (int_to_short n)
constant_cells k (constants.Int n) = number_cells k widths.Int n

abbrev pub with_constant : {A : Type 0} → Cells A → Constant → State A → State A
with_constant k constants.Nothing s = s
with_constant k c s = pushed s (constant_cells k c)

-- ---- registers

-- what a load pushes: an empty register is read as zero or null
abbrev pub loaded_cells : {A : Type 0} → Cells A → Sort → List A → ℕ → List A
loaded_cells k sorts.Reference registers x = k.loaded made.Reference (nth k registers x) ∷ []
loaded_cells k sorts.Short registers x = k.loaded made.Short (nth k registers x) ∷ []
loaded_cells k sorts.Int registers x = k.loaded made.High (nth k registers x) ∷ k.loaded made.Low (nth k registers (x + 1)) ∷ []

abbrev pub with_load : {A : Type 0} → Cells A → Sort → ℕ → State A → State A
with_load k sort x s = pushed s (loaded_cells k sort (top s).registers x)

-- what a store pops: the low half of an int lies on top and goes into the second register
abbrev pub with_store : {A : Type 0} → Cells A → Sort → ℕ → State A → State A
with_store k sorts.Int x s =
    with_register (with_register (dropped s 2) x (nth k (top s).stack 1)) (x + 1) (nth k (top s).stack 0)
with_store k _ x s = with_register (dropped s 1) x (nth k (top s).stack 0)

abbrev pub with_number : {A : Type 0} → Cells A → Width → ℕ → ℤ → State A → State A
with_number k widths.Short x n s = with_register s x (k.short n)
with_number k widths.Int x n s = with_register (with_register s x (k.high (high_word n))) (x + 1) (k.low (low_word n))

-- a register's number plus another, which wraps
abbrev pub incremented : {A : Type 0} → Cells A → Width → List A → ℕ → ℤ → ℤ
incremented k widths.Short registers x amount = int_wrapping_add w16 (short_at k registers x) (int_to_short amount)
incremented k widths.Int registers x amount = int_wrapping_add w32 (int_in k registers x) amount

abbrev pub with_increment : {A : Type 0} → Cells A → Width → ℕ → ℤ → State A → State A
with_increment k width x amount s = with_number k width x (incremented k width (top s).registers x amount) s

-- ---- moves

-- the stack after a move
abbrev pub moved : {A : Type 0} → Move → List A → List A
moved moves.Pop cells = drop 1 cells
moved moves.PopTwo cells = drop 2 cells
moved moves.Duplicate cells = take 1 cells ++ cells
moved moves.DuplicateTwo cells = take 2 cells ++ cells
moved (moves.CopyUnder copied under) cells = take under cells ++ (take copied cells ++ drop under cells)
moved (moves.Exchange top under) cells = rotated (top + under) top cells

abbrev pub with_move : {A : Type 0} → Move → State A → State A
with_move move s = with_stack s (moved move (top s).stack)

-- ---- arithmetic

-- a result in place of so many cells; where there is none, the divisor is zero
abbrev pub computed : {A : Type 0} → Cells A → Width → State A → ℕ → Option ℤ → Act A
computed k width s taken result = if_some exceptions.Arithmetic result (λ n. goes (replaced s taken (number_cells k width n)))

abbrev pub binary : {A : Type 0} → Cells A → Operator → Width → List A → Option ℤ
binary k operator widths.Short stack = of_shorts operator (short_at k stack 1) (short_at k stack 0)
binary k operator widths.Int stack = of_ints operator (int_on k stack 2) (int_on k stack 0)

abbrev pub negated : Width → ℤ → ℤ
negated widths.Short n = int_wrapping_neg w16 n
negated widths.Int n = int_wrapping_neg w32 n

abbrev pub both_widths : Width → ℕ
both_widths width = number_width width + number_width width

abbrev pub arithmetic_act : {A : Type 0} → Cells A → Arithmetic → State A → Act A
arithmetic_act k (arithmetic.Binary operator width) s = computed k width s (both_widths width) (binary k operator width (top s).stack)
arithmetic_act k (arithmetic.Negate width) s =
    goes (replaced s (number_width width) (number_cells k width (negated width (number_on k width (top s).stack))))
arithmetic_act k arithmetic.ShortToByte s = goes (replaced s 1 (number_cells k widths.Short (short_to_byte (short_at k (top s).stack 0))))
arithmetic_act k arithmetic.ShortToInt s = goes (replaced s 1 (number_cells k widths.Int (short_at k (top s).stack 0)))
arithmetic_act k arithmetic.IntToByte s = goes (replaced s 2 (number_cells k widths.Short (int_to_byte (int_on k (top s).stack 0))))
arithmetic_act k arithmetic.IntToShort s = goes (replaced s 2 (number_cells k widths.Short (int_to_short (int_on k (top s).stack 0))))
arithmetic_act k arithmetic.CompareInts s =
    goes (replaced s 4 (number_cells k widths.Short (compared (int_on k (top s).stack 2) (int_on k (top s).stack 0))))

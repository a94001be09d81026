-- What an instruction does to the stack and to the registers.
use Rattle.std.specs.Prelude.{◌≡◌, ℕ, ◌+◌, ◌-◌, ◌==◌, if◌then◌else◌, Bool, false, not, ◌||◌, max, List, []}
use Rattle.std.specs.Prelude.{◌∷◌, ◌++◌, length, map, take, drop, slice_index_or, slice_set}
use Rattle.jc_base.specs.declared.ty.Ty.{Ty}
use Rattle.jc_base.specs.declared.ty.Ty.TheVariants.{IntHigh, IntLow, Class, Fresh, Top}
use Rattle.jc_rules.specs.declared.effect.Cells.{Cells}
use Rattle.jc_rules.specs.declared.effect.Cells.TheVariants.{Nothing, One, Int}
use Rattle.jc_base.specs.Class.{ClassTable}
use Rattle.jc_base.specs.Order.{IsJoin, is_below}
use Rattle.jc_rules.specs.declared.effect.Mode.{Mode}
use Rattle.jc_rules.specs.declared.effect.Mode.TheVariants.{Card, Flow}
use Rattle.jc_rules.specs.declared.effect.RegisterStore.{RegisterStore}
use Rattle.jc_rules.specs.declared.effect.Change.{Change}
use Rattle.jc_rules.specs.declared.effect.Change.TheVariants.{Replace, CopyUnder, Exchange, MakeReady}

-- as they stand on a stack, the top one first: an int takes its high half first
abbrev pub in_stack_order : Cells → List Ty
in_stack_order Nothing = []
in_stack_order (One t) = t ∷ []
in_stack_order Int = IntLow ∷ IntHigh ∷ []

-- a cell once the objects that the `new` at a place made are ready
abbrev pub ready : ℕ → ℕ → Ty → Ty
ready place class (Fresh p c) = if p == place then Class class else Fresh p c
ready place class t = t

-- the stack afterwards
abbrev pub changed : Change → List Ty → List Ty
changed (Replace taken given) s = in_stack_order given ++ drop taken s
changed (CopyUnder copied under) s = take under s ++ (take copied s ++ drop under s)
changed (Exchange top under) s = take under (drop top s) ++ (take top s ++ drop (top + under) s)
changed (MakeReady taken place class given) s = in_stack_order given ++ map (ready place class) (drop taken s)

-- the cells that must be there
abbrev pub cells_needed : Change → ℕ
cells_needed (Replace taken given) = taken
cells_needed (CopyUnder copied under) = max copied under
cells_needed (Exchange top under) = top + under
cells_needed (MakeReady taken place class given) = taken

-- the number of cells afterwards
abbrev pub depth_after : Change → ℕ → ℕ
depth_after (Replace taken given) d = d - taken + length (in_stack_order given)
depth_after (CopyUnder copied under) d = d + copied
depth_after (Exchange top under) d = d
depth_after (MakeReady taken place class given) d = d - taken + length (in_stack_order given)

-- a register, and Top where there is none
abbrev pub reg : List Ty → ℕ → Ty
reg regs x = slice_index_or regs x Top

-- what a register holds once a type is stored over another: on the card the least type above both, in the dataflow what is stored
abbrev pub IsStoredOver : ClassTable → Mode → Ty → Ty → Ty → Type 0
IsStoredOver t Flow held ty now = now ≡ ty
IsStoredOver t Card held ty now = IsJoin t held ty now

-- one register is written, and no other
pub record WritesRegister (t : ClassTable) (mode : Mode) (x : ℕ) (ty : Ty) (before after : List Ty) : Type 0 where
  pub value : Ty
  pub stored : IsStoredOver t mode (reg before x) ty value
  pub after_is : after ≡ slice_set before x value

-- two registers are written for an int: the first has its high half
pub record WritesInt (t : ClassTable) (mode : Mode) (x : ℕ) (before after : List Ty) : Type 0 where
  pub between : List Ty
  pub high : WritesRegister t mode x IntHigh before between
  pub low : WritesRegister t mode (x + 1) IntLow between after

abbrev pub WritesCells : ClassTable → Mode → ℕ → Cells → List Ty → List Ty → Type 0
WritesCells t mode x Nothing before after = after ≡ before
WritesCells t mode x (One ty) before after = WritesRegister t mode x ty before after
WritesCells t mode x Int before after = WritesInt t mode x before after

-- the registers before and after a store
abbrev pub StoresInRegisters : ClassTable → Mode → RegisterStore → List Ty → List Ty → Type 0
StoresInRegisters t mode s before after = WritesCells t mode s.register s.cells before after

-- a register rises where what is stored over it is not below what it holds
abbrev pub rises_at : ClassTable → List Ty → ℕ → Ty → Bool
rises_at t regs x ty = not (is_below t ty (reg regs x))

abbrev pub cells_rise : ClassTable → List Ty → ℕ → Cells → Bool
cells_rise t regs x Nothing = false
cells_rise t regs x (One ty) = rises_at t regs x ty
cells_rise t regs x Int = rises_at t regs x IntHigh || rises_at t regs (x + 1) IntLow

-- whether a store raises a register: on the card it may; in the dataflow it replaces what is held, and raises none
abbrev pub raises_register : ClassTable → Mode → RegisterStore → List Ty → Bool
raises_register t Flow s regs = false
raises_register t Card s regs = cells_rise t regs s.register s.cells

-- What the rewritten code of a method goes by: at each place the homes of its locals and of the cells of its stack, and the homes in which
-- each local has to stand (Leroy 2002, section 4.1).
use Rattle.std.specs.Prelude.{ℕ, zero, suc, ◌+◌, ◌-◌, Bool, is_some, if◌then◌else◌, List, [], ◌∷◌, length, reverse}
use Rattle.std.specs.Prelude.{Option, Some, None, Result}
use Rattle.jc_base.specs.declared.ty.Ty.{Ty}
use Rattle.jc_decode.specs.declared.insn.Placed.{Placed}
use Rattle.jc_ops.specs.declared.fault.RuleFault.{RuleFault}
use Rattle.jc_ops.specs.declared.operation.Operation.{Operation}
use Rattle.jc_ops.specs.Row.{row_at}
use Rattle.jc_ops.specs.Resolve.{resolved}
use Rattle.jc_control.specs.Flags.{flag}
use Rattle.jc_rules.specs.Demand.{Frame}
use Rattle.xf_homes.specs.declared.home.Home.{Home}
use Rattle.xf_homes.specs.Value.{value_in_cells}
use Rattle.xf_homes.specs.Home.{register_count}
use Rattle.xf_homes.specs.Walk.{local_of, local_events, with_events, register_from}
use Rattle.xf_homes.specs.Source.{Source}

-- ---- registers

abbrev pub or_first : Option ℕ → ℕ
or_first None = 0
or_first (Some r) = r

-- the register of a home, of an int the first of two; every home has one
abbrev pub register : Source → Home → ℕ
register s h = or_first (register_from 0 s.homes h)

-- ---- locals

-- the home of a value at a slot
abbrev pub home_of : ℕ → Option Ty → Option Home
home_of slot None = None
home_of slot (Some ty) = Some (record { slot = slot; ty = ty })

-- the home in which local x stands at a place: that of its type there
abbrev pub local : Source → ℕ → ℕ → Option Home
local s p x = home_of x (local_of (s.frames p) x)

-- the homes in which local x has to stand at a place, each once: of its type there, and of its types at the entries of the handlers that
-- cover the place, in the order of the table
unfoldable pub needed : Source → ℕ → ℕ → List Home
needed s p x = with_events [] (local_events s.frames s.method.rec.handlers p x)

-- ---- the stack

abbrev pub with_home_of : Option Home → List Home → List Home
with_home_of None hs = hs
with_home_of (Some h) hs = h ∷ hs

-- the homes of the values that begin with cells, at slots from a slot on: of so many cells from cell i on
abbrev pub cells_from : ℕ → List Ty → ℕ → ℕ → List Home
cells_from slot cells i zero = []
cells_from slot cells i (suc n) = with_home_of (home_of (slot + i) (value_in_cells cells i)) (cells_from slot cells (suc i) n)

-- the cells of a frame's stack from the bottom
abbrev pub stack_of : Option Frame → List Ty
stack_of None = []
stack_of (Some f) = reverse f.stack

-- the homes of the values on the stack at a place, from the bottom
unfoldable pub stack_homes : Source → ℕ → List Home
stack_homes s p = cells_from (register_count s.method.rec) (stack_of (s.frames p)) 0 (length (stack_of (s.frames p)))

-- the depth of the stack at a place, in cells
abbrev pub depth : Source → ℕ → ℕ
depth s p = length (stack_of (s.frames p))

-- ---- places

abbrev pub is_leader : Source → ℕ → Bool
is_leader s p = flag s.leaders p

-- the first place among so many that control reaches, and else the one after them
abbrev pub first_of : (ℕ → Option Frame) → ℕ → ℕ → ℕ
first_of frames p zero = p
first_of frames p (suc n) = if is_some (frames p) then p else first_of frames (suc p) n

-- the first place from a place on that control reaches, and else the end of the code
unfoldable pub first_reached : Source → ℕ → ℕ
first_reached s p = first_of s.frames p (length s.method.code - p)

-- the operation of the instruction at a place, if it has one
abbrev pub operation : Source → Placed → Result Operation RuleFault
operation s i = resolved s.world s.method.rec i.place i.insn (row_at i.insn.op)

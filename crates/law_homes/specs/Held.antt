-- When a frame of rewritten code holds a frame of its source: each value stands in the registers of the homes in which it has to
-- stand (Leroy 2002, section 4.1).
use Rattle.std.specs.Prelude.{◌≡◌, ℕ, ◌+◌, ◌<◌, ◌≤◌, List, [], ◌++◌, length, map, reverse, slice_get}
use Rattle.jc_base.specs.Each.{Each}
use Rattle.vm_store.specs.State.{Frame}
use Rattle.xf_homes.specs.declared.home.Home.{Home}
use Rattle.xf_homes.specs.Value.{type_width}
use Rattle.xf_homes.specs.Source.{Source}
use Rattle.xf_homes.specs.Plan.{register, needed, stack_homes}

-- the cells of a frame of the source by slot: its registers, and then its operand stack from the bottom
abbrev pub slots : {A : Type 0} → Frame A → List A
slots f = f.registers ++ reverse f.stack

-- the frame g holds in the registers of a home the value at its slot, cell by cell
pub record HoldsValue {A : Type 0} (s : Source) (values : List A) (g : Frame A) (h : Home) : Type 0 where
  pub known : h.slot + type_width h.ty ≤ length values
  pub there : register s h + type_width h.ty ≤ length g.registers
  pub equal :
      (k : ℕ)
      → k < type_width h.ty
      → slice_get g.registers (register s h + k) ≡ slice_get values (h.slot + k)

-- each local stands in all homes in which it has to stand at a place
abbrev pub HoldsLocals : {A : Type 0} → Source → ℕ → Frame A → Frame A → Type 0
HoldsLocals s p f g = (x : ℕ) → Each (HoldsValue s f.registers g) (needed s p x)

-- before the instruction of a place: the stacks are equal but for a map of cells, which gives uninitialised objects the place where
-- their `new` stands in the rewritten code. A frame under a call is held so too, at the place of the call, once its operands are popped
pub record HoldsFrame {A : Type 0} (e : A → A) (s : Source) (p : ℕ) (f g : Frame A) : Type 0 where
  pub stack : g.stack ≡ map e f.stack
  pub locals : HoldsLocals s p f g

-- before the loads at a place where control comes together: the stack is empty, and its cells stand in their homes instead
pub record Waits {A : Type 0} (s : Source) (p : ℕ) (f g : Frame A) : Type 0 where
  pub stack : g.stack ≡ []
  pub cells : Each (HoldsValue s (slots f) g) (stack_homes s p)
  pub locals : HoldsLocals s p f g

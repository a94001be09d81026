-- The homes of the values that stand at a place, and on the edges that lead there.
use Rattle.std.specs.Prelude.{◌≡◌, ◌<◌, ◌≤◌, ◌+◌, ◌⊎◌, ◌++◌, ℕ, Bool, true, false, List, [], ◌∷◌}
use Rattle.std.specs.Prelude.{length, reverse, Some, Ok}
use Rattle.jc_base.specs.declared.ty.Ty.{Ty}
use Rattle.jc_base.specs.Each.{Each, IsAmong}
use Rattle.jc_base.specs.World.{Linked}
use Rattle.jc_decode.specs.declared.insn.Placed.{Placed}
use Rattle.jc_ops.specs.declared.operation.Operation.{Operation}
use Rattle.jc_control.specs.Control.{IsReached, IsSuccessor}
use Rattle.jc_control.specs.WellFormed.{HasInstruction}
use Rattle.jc_rules.specs.Demand.{Frame}
use Rattle.jc_rules.specs.Flow.{CellsBelow}
use Rattle.xf_homes.specs.declared.home.Home.{Home}
use Rattle.xf_homes.specs.Home.{register_count, KeepsStack}
use Rattle.xf_homes.specs.Order.{SlotsFollow, register_sum}
use Rattle.xf_homes.specs.Value.{value_in_cells, type_width}
use Rattle.xf_homes.specs.Walk.{has, operands_of}
use Rattle.xf_homes.specs.Source.{Source}
use Rattle.xf_homes.specs.Plan.{stack_homes, is_leader, needed, operation}
use Rattle.xf_emission.specs.declared.origin.Origin.{Origin}
use Rattle.xf_emission.specs.declared.origin.Origin.TheVariants.{Start, After, Entry}
use Rattle.xf_emission.specs.Edge.{home_before, homes_held, is_stored}
use Rattle.xf_emission.specs.Jump.{has_under, operands, under}
use Rattle.xf_emission.specs.Move.{load_op}
use Rattle.law_rewritten_typing.specs.Planned.{IsPlanned, KeepsValues}

-- ---- what stands at a place

-- a home that is needed at a place with these registers keeps the value at its slot, by types above theirs
pub record IsNeededFor (s : Source) (f : Frame) (x : ℕ) (h : Home) : Type 0 where
  pub slot : h.slot ≡ x
  pub keeps : KeepsValues s h
  pub types : List Ty
  pub above : CellsBelow s.world.classes f.regs types
  pub value : value_in_cells types h.slot ≡ Some h.ty

abbrev pub NeededHaveHomes : Linked → Type 0
NeededHaveHomes w =
    (s : Source)
    → s.world ≡ w
    → IsPlanned s
    → (q x : ℕ) (f : Frame) (h : Home)
    → s.frames q ≡ Some f
    → IsAmong h (needed s q x)
    → IsNeededFor s f x h

-- the types of a frame by slot: those of its registers, and then those of its stack from the bottom
abbrev pub slot_types : Frame → List Ty
slot_types f = f.regs ++ reverse f.stack

-- the homes of the cells of a stack that is kept follow one another from the first slot after the registers, and fill the stack
pub record FillStack (s : Source) (q : ℕ) (f : Frame) : Type 0 where
  pub follow : SlotsFollow (register_count s.method.rec) (stack_homes s q)
  pub fill : register_sum (stack_homes s q) ≡ length f.stack
  pub keep : Each (KeepsValues s) (stack_homes s q)
  pub values : Each (λ h. value_in_cells (slot_types f) h.slot ≡ Some h.ty) (stack_homes s q)

abbrev pub CellsFillStack : Linked → Type 0
CellsFillStack w =
    (s : Source)
    → s.world ≡ w
    → IsPlanned s
    → (q : ℕ) (f : Frame)
    → s.frames q ≡ Some f
    → KeepsStack s.world s.method s.frames q
    → FillStack s q f

-- ---- edges

-- where an edge begins that leads to a place: at the method's start, after an instruction that control reaches, or where a handler takes
-- over
pub data LeadsTo (s : Source) : Origin → ℕ → Type 0 where
  leads_start : LeadsTo s Start 0
  leads_after :
      {i : Placed} {op : Operation} {q : ℕ}
      → HasInstruction s.method.code i
      → IsReached s.method i.place
      → operation s i ≡ Ok op
      → IsSuccessor s.method.code i q
      → LeadsTo s (After i.place op) q
  leads_entry : {q : ℕ} → IsReached s.method q → LeadsTo s (Entry q) q

-- the instruction there stores into local x
abbrev pub stored_at : Origin → ℕ → Bool
stored_at (After p op) x = is_stored op x
stored_at o x = false

-- a home that is needed where the edge leads: its value stands in this one where the edge begins, of those in which it is held; loads of
-- both have the same letter; and nothing of it is stored
pub record IsCarried (s : Source) (o : Origin) (h from : Home) : Type 0 where
  pub before : home_before s o h.slot ≡ Some from
  pub slot : from.slot ≡ h.slot
  pub there : has (homes_held s o h.slot from) from ≡ true
  pub keeps : KeepsValues s from
  pub loads : load_op from.ty ≡ load_op h.ty
  pub apart : (k : ℕ) → k < type_width h.ty → stored_at o (h.slot + k) ≡ false

-- each local that is needed where an edge leads was stored there, or is carried
abbrev pub EdgesCarry : Linked → Type 0
EdgesCarry w =
    (s : Source)
    → s.world ≡ w
    → IsPlanned s
    → (o : Origin) (q x : ℕ) (h : Home)
    → LeadsTo s o q
    → IsAmong h (needed s q x)
    → (stored_at o h.slot ≡ true) ⊎ ((from : Home) × IsCarried s o h from)

-- ---- conditional branches and switches

-- homes of the same slots, whose loads have the same letters
pub data AreMatched (s : Source) : List Home → List Home → Type 0 where
  none_matched : AreMatched s [] []
  more_matched :
      {h k : Home} {hs ks : List Home}
      → h.slot ≡ k.slot
      → KeepsValues s h
      → KeepsValues s k
      → load_op h.ty ≡ load_op k.ty
      → AreMatched s hs ks
      → AreMatched s (h ∷ hs) (k ∷ ks)

-- the homes of a stack with n operands on top: those of the cells under them, and then those of the operands
pub record IsForkedAt (s : Source) (p n : ℕ) (f : Frame) : Type 0 where
  pub deep : n ≤ length f.stack
  pub parts : stack_homes s p ≡ under s p n ++ operands s p n
  pub fill : register_sum (operands s p n) ≡ n
  pub keeps : has_under s p n ≡ true → KeepsStack s.world s.method s.frames p

-- so is that of each conditional branch or switch that control reaches
abbrev pub ForksAreCut : Linked → Type 0
ForksAreCut w =
    (s : Source)
    → s.world ≡ w
    → IsPlanned s
    → (i : Placed) (op : Operation) (n : ℕ) (f : Frame)
    → HasInstruction s.method.code i
    → s.frames i.place ≡ Some f
    → operation s i ≡ Ok op
    → operands_of s.world (Ok op) ≡ Some n
    → IsForkedAt s i.place n f

-- where it leads to a leader, the homes of the cells under its operands are matched by those of the cells there
abbrev pub ForksMatch : Linked → Type 0
ForksMatch w =
    (s : Source)
    → s.world ≡ w
    → IsPlanned s
    → (i : Placed) (op : Operation) (n q : ℕ) (f : Frame)
    → HasInstruction s.method.code i
    → s.frames i.place ≡ Some f
    → operation s i ≡ Ok op
    → operands_of s.world (Ok op) ≡ Some n
    → IsSuccessor s.method.code i q
    → is_leader s q ≡ true
    → AreMatched s (under s i.place n) (stack_homes s q)

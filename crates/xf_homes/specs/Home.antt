-- The homes of a method: pairs of a slot and the type of a value that may have to be kept there, by the method's least dataflow typing
-- (Leroy 2002, section 4.1: registers are given anew so that each holds values of one type). The slots are the registers of the method,
-- and after them the cells of its stack from the bottom; an int stands at the slot of its high half, as IntHigh.
use Rattle.std.specs.Prelude.{◌≡◌, ℕ, suc, ◌+◌, ◌<◌, ◌⊎◌, ◌++◌, ⊤, List, length, reverse, Option, Some, Ok}
use Rattle.std.specs.Prelude.{slice_get}
use Rattle.jc_base.specs.declared.ty.Ty.{Ty}
use Rattle.jc_base.specs.declared.record.Handler.{Handler}
use Rattle.jc_base.specs.declared.record.MethodRec.{MethodRec}
use Rattle.jc_base.specs.World.{Linked}
use Rattle.jc_decode.specs.declared.insn.Placed.{Placed}
use Rattle.jc_ops.specs.declared.operation.Branch.TheVariants.{Always}
use Rattle.jc_ops.specs.declared.operation.Operation.{Operation}
use Rattle.jc_ops.specs.declared.operation.Operation.TheVariants.{Branch, Switch}
use Rattle.jc_ops.specs.Resolve.{Resolves}
use Rattle.jc_control.specs.Method.{Method}
use Rattle.jc_control.specs.WellFormed.{HasInstruction}
use Rattle.jc_control.specs.Control.{IsReached, IsLeader, Covers}
use Rattle.jc_rules.specs.Demand.{Frame}
use Rattle.jc_rules.specs.Flow.{At, receiver_of}
use Rattle.jc_rules.specs.Footprint.{footprint}
use Rattle.xf_homes.specs.declared.home.Home.{Home}
use Rattle.xf_homes.specs.Value.{value_in_cells}

-- ---- the values of locals

-- the types of the receiver and of the declared arguments, cell by cell: the registers at the method's start
abbrev pub argument_types : MethodRec → List Ty
argument_types r = receiver_of r ++ r.sig.args

-- the number of registers
abbrev pub register_count : MethodRec → ℕ
register_count r = r.nargs + r.max_locals

-- a local x that is asked for at a reached place p with this type, the n-th time: first where control is, then at each handler that covers
-- the place, in the order of the table
pub data IsAsked (m : Method) (frames : ℕ → Option Frame) (p x : ℕ) : ℕ → Ty → Type 0 where
  asked_here : {ty : Ty} → At frames p (λ f. value_in_cells f.regs x ≡ Some ty) → IsAsked m frames p x 0 ty
  asked_caught :
      {n : ℕ} {h : Handler} {ty : Ty}
      → slice_get m.rec.handlers n ≡ Some h
      → Covers h p
      → At frames h.entry (λ f. value_in_cells f.regs x ≡ Some ty)
      → IsAsked m frames p x (suc n) ty

-- the type is needed for local x at the place
abbrev pub IsNeeded : Method → (ℕ → Option Frame) → ℕ → ℕ → Ty → Type 0
IsNeeded m frames p x ty = (n : ℕ) × IsAsked m frames p x n ty

-- ---- the values of the stack

-- a conditional branch or a switch
abbrev pub IsConditional : Operation → Type 0
IsConditional (Branch Always) = ⊥
IsConditional (Branch b) = ⊤
IsConditional (Switch width) = ⊤
IsConditional op = ⊥

-- a conditional branch or a switch at the place, over a stack that is deeper than its operands
pub record BranchesOver (w : Linked) (m : Method) (frames : ℕ → Option Frame) (p : ℕ) : Type 0 where
  pub instruction : Placed
  pub stands : HasInstruction m.code instruction
  pub at : instruction.place ≡ p
  pub operation : Operation
  pub resolves : Resolves w m.rec p instruction.insn (Ok operation)
  pub asks : IsConditional operation
  pub deeper : At frames p (λ f. (footprint w operation).taken < length f.stack)

-- the stack at the place is kept over a branch
abbrev pub KeepsStack : Linked → Method → (ℕ → Option Frame) → ℕ → Type 0
KeepsStack w m frames p = IsLeader m p ⊎ BranchesOver w m frames p

-- ---- homes

-- where in a walk over the code a pair is met: at a place, and there at a slot, the n-th time
pub record PairSpot : Type 0 where
  pub place : ℕ
  pub slot : ℕ
  pub time : ℕ

-- the lesser place comes first, at one place the lesser slot, and of several types of a local the one that is asked for first
abbrev pub ComesBefore : PairSpot → PairSpot → Type 0
ComesBefore a b = (a.place < b.place) ⊎ ((a.place ≡ b.place) × ((a.slot < b.slot) ⊎ ((a.slot ≡ b.slot) × (a.time < b.time))))

-- what is met: at each reached place the types that are needed for each local, and the cells of a stack that is kept
pub data IsMetAt (w : Linked) (m : Method) (frames : ℕ → Option Frame) : PairSpot → Home → Type 0 where
  met_local :
      {p x n : ℕ} {ty : Ty}
      → IsReached m p
      → IsAsked m frames p x n ty
      → IsMetAt w m frames (record { place = p; slot = x; time = n }) (record { slot = x; ty = ty })
  met_cell :
      (i : ℕ) {p : ℕ} {ty : Ty}
      → IsReached m p
      → KeepsStack w m frames p
      → At frames p (λ f. value_in_cells (reverse f.stack) i ≡ Some ty)
      → IsMetAt w m frames
      (record { place = p; slot = register_count m.rec + i; time = 0 })
      (record { slot = register_count m.rec + i; ty = ty })

-- an argument at its declared type
abbrev pub IsArgument : MethodRec → Home → Type 0
IsArgument r h = value_in_cells (argument_types r) h.slot ≡ Some h.ty

-- the homes are the arguments at their declared types and what is met
abbrev pub IsHome : Linked → Method → (ℕ → Option Frame) → Home → Type 0
IsHome w m frames h = IsArgument m.rec h ⊎ ((spot : PairSpot) × IsMetAt w m frames spot h)

-- a home is met before another: at a spot before each at which the other is met
pub record IsMetBefore (w : Linked) (m : Method) (frames : ℕ → Option Frame) (h later : Home) : Type 0 where
  pub spot : PairSpot
  pub met : IsMetAt w m frames spot h
  pub first : (other : PairSpot) → IsMetAt w m frames other later → ComesBefore spot other

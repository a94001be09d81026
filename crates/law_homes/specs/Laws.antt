-- Laws of held frames: single steps of the rewritten code beside those of its source.
use Rattle.std.specs.Prelude.{◌≡◌, ◌≤◌, ◌+◌, ◌⊎◌, ℕ, ℤ, true, All, length, slice_get, List, Some, Ok}
use Rattle.jc_base.specs.declared.record.MethodRec.{MethodRec}
use Rattle.jc_base.specs.World.{Linked}
use Rattle.jc_decode.specs.declared.insn.Placed.{Placed}
use Rattle.jc_decode.specs.Listing.{listing, targets}
use Rattle.jc_decode.specs.Standing.{StandsForStep, AreSteps}
use Rattle.jc_decode.specs.Symbols.{Step}
use Rattle.jc_control.specs.WellFormed.{IsPlace, IsTargetPlace}
use Rattle.jc_ops.specs.declared.operation.Operation.{Operation}
use Rattle.jc_ops.specs.declared.operation.Operation.TheVariants.{Load, Store, Increment}
use Rattle.jc_ops.specs.declared.operation.Sort.{Sort}
use Rattle.jc_ops.specs.declared.operation.Width.{Width}
use Rattle.jc_ops.specs.Alike.{IsAlike}
use Rattle.jc_ops.specs.Next.{falls_from}
use Rattle.jc_ops.specs.Resolve.{Resolves}
use Rattle.jc_rules.specs.Footprint.{Footprint, footprint, registers_asked}
use Rattle.jc_rules.specs.Rule.{demands}
use Rattle.vm_store.specs.declared.cell.Cell.{Cell}
use Rattle.vm_store.specs.State.{State, IsRunning, top}
use Rattle.vm_step.specs.Methods.{max_stack_of, instruction_at}
use Rattle.law_alike.specs.Alike.{renamed_new, AreAlike, StaysInFrame, StayAlike}
use Rattle.law_alike.specs.Running.{HaveKeys, Executes, RunAlike, keys_at, top_code}
use Rattle.xf_homes.specs.declared.home.Home.{Home}
use Rattle.xf_homes.specs.Value.{type_width}
use Rattle.xf_homes.specs.Source.{Source}
use Rattle.xf_homes.specs.Plan.{register}
use Rattle.law_homes.specs.Held.{HoldsValue, HoldsLocals}

-- what is known of the code of two frames, whatever their registers hold: equal keys, targets and a next place that are
-- instructions', and
-- room on the stack
pub record CodesAgree {A : Type 0} (v w : Linked) (s t : State A) (i j : Placed) (a b : Operation) : Type 0 where
  pub keys : HaveKeys a (keys_at v s i) (keys_at w t j)
  pub targets : All (IsTargetPlace (top_code w t)) (targets (top_code w t) j)
  pub next : falls_from b ≡ true → IsPlace (top_code w t) (j.place + j.insn.len)
  pub room : max_stack_of v (top s).method ≤ max_stack_of w (top t).method

-- ---- which frames run alike

-- an instruction that is kept as it is, and names no register
abbrev pub KeptRunAlike : Type 0 → Type 0
KeptRunAlike A =
    (e : A → A) (place : ℕ → ℕ) (v w : Linked) (s t : State A) (i j : Placed) (a b : Operation)
    → AreAlike e s t
    → CodesAgree v w s t i j a b
    → IsAlike (renamed_new place a) b
    → registers_asked (demands v a) ≡ 0
    → registers_asked (demands w b) ≡ 0
    → RunAlike e place v w s t i j a b

-- a load of a local from a home that holds it
abbrev pub LoadsRunAlike : Type 0 → Type 0
LoadsRunAlike A =
    (e : A → A) (place : ℕ → ℕ) (v w : Linked) (s t : State A) (i j : Placed) (source : Source) (h : Home) (sort : Sort)
    → AreAlike e s t
    → CodesAgree v w s t i j (Load sort h.slot) (Load sort (register source h))
    → HoldsValue source (top s).registers (top t) h
    → type_width h.ty ≡ (footprint v (Load sort h.slot)).given
    → RunAlike e place v w s t i j (Load sort h.slot) (Load sort (register source h))

-- an increment of a local in a home that holds it
abbrev pub IncrementsRunAlike : Type 0 → Type 0
IncrementsRunAlike A =
    (e : A → A) (place : ℕ → ℕ) (v w : Linked) (s t : State A) (i j : Placed) (source : Source) (h : Home)
    (counted : Width) (amount : ℤ)
    → AreAlike e s t
    → CodesAgree v w s t i j (Increment counted h.slot amount) (Increment counted (register source h) amount)
    → HoldsValue source (top s).registers (top t) h
    → type_width h.ty ≡ (footprint v (Increment counted h.slot amount)).written
    → RunAlike e place v w s t i j (Increment counted h.slot amount) (Increment counted (register source h) amount)

-- a store of a local into a home that has its registers
abbrev pub StoresRunAlike : Type 0 → Type 0
StoresRunAlike A =
    (e : A → A) (place : ℕ → ℕ) (v w : Linked) (s t : State A) (i j : Placed) (source : Source) (h : Home) (sort : Sort)
    → AreAlike e s t
    → CodesAgree v w s t i j (Store sort h.slot) (Store sort (register source h))
    → register source h + type_width h.ty ≤ length (top t).registers
    → type_width h.ty ≡ (footprint v (Store sort h.slot)).written
    → RunAlike e place v w s t i j (Store sort h.slot) (Store sort (register source h))

-- ---- which homes hold afterwards

-- where no register is written, all homes hold what they held
abbrev pub LocalsStay : Type 0 → Type 0
LocalsStay A =
    (p q : Footprint) (s z t y : State A) (source : Source) (place : ℕ)
    → StaysInFrame p s z
    → StaysInFrame q t y
    → p.written ≡ 0
    → q.written ≡ 0
    → HoldsLocals source place (top s) (top t)
    → HoldsLocals source place (top z) (top y)

-- two lists of so many numbers that share none
abbrev pub AreApart : ℕ → ℕ → ℕ → ℕ → Type 0
AreApart a n b m = (a + n ≤ b) ⊎ (b + m ≤ a)

-- a home apart from the registers that were written holds what it held, where its slot is apart too
abbrev pub HomesStay : Type 0 → Type 0
HomesStay A =
    (p q : Footprint) (s z t y : State A) (source : Source) (h : Home)
    → StaysInFrame p s z
    → StaysInFrame q t y
    → AreApart h.slot (type_width h.ty) p.register p.written
    → AreApart (register source h) (type_width h.ty) q.register q.written
    → HoldsValue source (top s).registers (top t) h
    → HoldsValue source (top z).registers (top y) h

-- a home that was written holds what was stored
abbrev pub WrittenHold : Type 0 → Type 0
WrittenHold A =
    (e : A → A) (p q : Footprint) (s z t y : State A) (source : Source) (h : Home)
    → StayAlike e p q s z t y
    → p.register ≡ h.slot
    → q.register ≡ register source h
    → p.written ≡ type_width h.ty
    → h.slot + type_width h.ty ≤ length (top s).registers
    → register source h + type_width h.ty ≤ length (top t).registers
    → HoldsValue source (top z).registers (top y) h

-- ---- where steps stand

-- in code that stands for steps, the instruction at the place of a step is that step's, and the next one stands where it ends
pub record StandsAtPlace (code : List ℕ) (place : ℕ → ℕ) (n : ℕ) (step : Step) : Type 0 where
  pub instruction : Placed
  pub found : instruction_at code (place n) ≡ Some instruction
  pub begins : instruction.place ≡ place n
  pub ends : instruction.place + instruction.insn.len ≡ place (n + 1)
  pub is : StandsForStep code place step instruction

abbrev pub StepsStandAtPlaces : Type 0
StepsStandAtPlaces =
    (code : List ℕ) (place : ℕ → ℕ) (steps : List Step) (n : ℕ) (step : Step)
    → AreSteps code place 0 steps (listing code)
    → slice_get steps n ≡ Some step
    → StandsAtPlace code place n step

-- a state whose frame on top stands at the place of a step executes its operation; a `new` makes its objects at that place
pub record ExecutesStep (w : Linked) (t : State Cell) (place : ℕ → ℕ) (n : ℕ) (step : Step) (op : Operation) : Type 0 where
  pub instruction : Placed
  pub executes : Executes w t instruction (renamed_new (λ q. place n) op)
  pub ends : instruction.place + instruction.insn.len ≡ place (n + 1)
  pub is : StandsForStep (top_code w t) place step instruction

abbrev pub StepsExecute : Linked → Type 0
StepsExecute w =
    (t : State Cell) (m : MethodRec) (place : ℕ → ℕ) (steps : List Step) (n q : ℕ) (step : Step) (op : Operation)
    → IsRunning t
    → slice_get w.methods (top t).method ≡ Some m
    → AreSteps (top_code w t) place 0 steps (listing (top_code w t))
    → slice_get steps n ≡ Some step
    → (top t).place ≡ place n
    → Resolves w m q step.insn (Ok op)
    → ExecutesStep w t place n step op

-- ---- what writes no register

-- an operation that names no register writes none
abbrev pub NamesNoneWritesNone : Linked → Type 0
NamesNoneWritesNone w =
    (op : Operation)
    → registers_asked (demands w op) ≡ 0
    → (footprint w op).written ≡ 0

-- nor does a load
abbrev pub LoadsWriteNone : Linked → Type 0
LoadsWriteNone w = (sort : Sort) (x : ℕ) → (footprint w (Load sort x)).written ≡ 0

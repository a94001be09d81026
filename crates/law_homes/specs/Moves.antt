-- Steps that rewritten code takes alone: a value goes from one home to another (JCVM 2.2, chapter 7, the loads and stores).
use Rattle.std.specs.Prelude.{◌≡◌, ◌<◌, ◌≤◌, ◌+◌, ◌*◌, ◌⊎◌, ℕ, List, [], ◌∷◌, ◌++◌, length, map}
use Rattle.std.specs.Prelude.{flat_map, slice_get, slice_set, All, Some, IfSome, ⊤}
use Rattle.jc_base.specs.Cell.{IsDeclared}
use Rattle.jc_base.specs.Class.{AreClasses}
use Rattle.jc_base.specs.declared.ty.Ty.{Ty}
use Rattle.jc_base.specs.declared.ty.Ty.TheVariants.{Bottom, Short, IntHigh}
use Rattle.jc_base.specs.declared.record.MethodRec.{MethodRec}
use Rattle.jc_base.specs.Each.{Each}
use Rattle.jc_base.specs.World.{Linked}
use Rattle.jc_decode.specs.declared.insn.Insn.{Insn}
use Rattle.jc_decode.specs.declared.insn.Placed.{Placed}
use Rattle.jc_decode.specs.Listing.{listing}
use Rattle.jc_decode.specs.Places.{place_after}
use Rattle.jc_decode.specs.Standing.{AreSteps}
use Rattle.jc_decode.specs.Symbols.{Step}
use Rattle.jc_control.specs.WellFormed.{IsPlace}
use Rattle.jc_ops.specs.declared.operation.Operation.{Operation}
use Rattle.jc_ops.specs.declared.operation.Operation.TheVariants.{Load, Store}
use Rattle.jc_ops.specs.declared.operation.Sort.{Sort}
use Rattle.jc_ops.specs.declared.operation.Sort.TheVariants as sorts
use Rattle.jc_ops.specs.Sound.{OperationsAreSound}
use Rattle.jc_rules.specs.Demand.{SatisfiesAll}
use Rattle.jc_rules.specs.Rule.{demands}
use Rattle.vm_store.specs.declared.cell.Cell.{Cell}
use Rattle.vm_store.specs.Cells.{Cells, tagged}
use Rattle.vm_store.specs.State.{State, Frame, IsRunning, top, nth, with_top, with_place, with_stack}
use Rattle.vm_store.specs.Objects.{kinds}
use Rattle.vm_store.specs.Laws.{HasContent}
use Rattle.vm_step.specs.Act.{goes}
use Rattle.vm_step.specs.Methods.{max_stack_of}
use Rattle.vm_step.specs.Performed.{act}
use Rattle.vm_step.specs.Raising.{running}
use Rattle.vm_step.specs.Run.{Runs}
use Rattle.vm_step.specs.Step.{Steps}
use Rattle.vm_step.specs.Values.{with_load}
use Rattle.law_sound.specs.Frames.{types_of_frame}
use Rattle.law_alike.specs.Running.{Executes, top_code}
use Rattle.xf_homes.specs.declared.home.Home.{Home}
use Rattle.xf_homes.specs.Laws.{HasRegister, Serve}
use Rattle.xf_homes.specs.Order.{SlotsFollow as Follow, register_sum}
use Rattle.xf_homes.specs.Value.{type_width}
use Rattle.xf_homes.specs.Source.{Source}
use Rattle.xf_homes.specs.Plan.{register}
use Rattle.xf_emission.specs.Move.{with_byte, load_op, store_op}
use Rattle.law_homes.specs.Held.{HoldsValue, slots}
use Rattle.law_homes.specs.Laws.{AreApart}

-- what running code rests on in a world: its classes, that its methods have declared results, and operations that speak of what is there
pub record IsExecutable (w : Linked) : Type 0 where
  pub chains : AreClasses w.classes
  pub results : All (λ m. IfSome m.sig.result (IsDeclared w.classes)) w.methods
  pub sound : OperationsAreSound w

-- how many registers a value of a letter takes
abbrev pub size : Sort → ℕ
size sorts.Int = 2
size _ = 1

-- registers in which the value that begins at one of them was copied to another
abbrev pub copied : {A : Type 0} → Cells A → Sort → ℕ → ℕ → List A → List A
copied k sorts.Int from to registers =
    slice_set (slice_set registers to (nth k registers from)) (to + 1) (nth k registers (from + 1))
copied k _ from to registers = slice_set registers to (nth k registers from)

-- the frame on top at a place, with these registers
abbrev pub with_registers : {A : Type 0} → State A → ℕ → List A → State A
with_registers s place registers = with_top s (record (top s) { place = place; registers = registers })

-- something was stored in the cells of the value
abbrev pub AreFilled : Sort → ℕ → List Cell → Type 0
AreFilled sorts.Int from registers = HasContent (nth tagged registers from) × HasContent (nth tagged registers (from + 1))
AreFilled _ from registers = HasContent (nth tagged registers from)

-- an operation whose demands are met, and which goes on in the state z, leads there, where the stack has room and an instruction
-- follows
abbrev pub OperationsGoOn : Linked → Type 0
OperationsGoOn w =
    (t z : State Cell) (j : Placed) (op : Operation)
    → Executes w t j op
    → SatisfiesAll w.classes (types_of_frame w.classes Bottom (kinds t) (top t)) (demands w op)
    → act tagged w j.insn op t ≡ goes z
    → length (top z).stack ≤ max_stack_of w (top z).method
    → IsPlace (top_code w z) (place_after j)
    → Steps tagged w t (running (with_place z (place_after j)))

-- a load and then a store copy a value from one register to another, in two steps
abbrev pub CopiesRun : Linked → Type 0
CopiesRun w =
    (t : State Cell) (i j : Placed) (sort : Sort) (from to : ℕ)
    → Executes w t i (Load sort from)
    → Executes w (with_place (with_load tagged sort from t) (place_after i)) j (Store sort to)
    → SatisfiesAll w.classes (types_of_frame w.classes Bottom (kinds t) (top t)) (demands w (Load sort from))
    → AreFilled sort from (top t).registers
    → to + size sort ≤ length (top t).registers
    → size sort + length (top t).stack ≤ max_stack_of w (top t).method
    → IsPlace (top_code w t) (place_after i)
    → IsPlace (top_code w t) (place_after j)
    → Runs tagged w 2 t (running (with_registers t (place_after j) (copied tagged sort from to (top t).registers)))

-- a copy from a home that holds its value to another of the same slot: this holds it too, and every home that did holds it still,
-- where it
-- is that other one or shares no register with it
abbrev pub CopiesKeepHomes : Type 0
CopiesKeepHomes =
    (s : Source) (values : List Cell) (g : Frame Cell) (h k m : Home) (sort : Sort)
    → HoldsValue s values g h
    → h.slot ≡ k.slot
    → type_width h.ty ≡ size sort
    → type_width k.ty ≡ size sort
    → register s k + type_width k.ty ≤ length g.registers
    → (m ≡ k) ⊎ (HoldsValue s values g m × AreApart (register s m) (type_width m.ty) (register s k) (type_width k.ty))
    → HoldsValue s values (record g { registers = copied tagged sort (register s h) (register s k) g.registers }) m

-- ---- along a list of homes

-- the letter of the loads and stores of a type
abbrev pub letter_of : Ty → Sort
letter_of Short = sorts.Short
letter_of IntHigh = sorts.Int
letter_of ty = sorts.Reference

-- these instructions stand among steps, from a number on
abbrev pub InstructionsStandFrom : List Step → ℕ → List Insn → Type 0
InstructionsStandFrom steps n [] = ⊤
InstructionsStandFrom steps n (i ∷ is) = (slice_get steps n ≡ Some (record { insn = i; targets = []; keys = [] }))
    × InstructionsStandFrom steps (n + 1) is

-- the load of a home, and a copy from a home to another
abbrev pub load_of : Source → Home → Insn
load_of s h = with_byte (load_op h.ty) (register s h)

abbrev pub copy_of : Source → Home → Home → List Insn
copy_of s h k = load_of s h ∷ with_byte (store_op k.ty) (register s k) ∷ []

-- the frame on top is at the place of a step of its method's code, and a further step stands so many later
pub record IsAtStep (w : Linked) (place : ℕ → ℕ) (steps : List Step) (t : State Cell) (n count : ℕ) : Type 0 where
  pub runs : IsRunning t
  pub method : MethodRec
  pub is_method : slice_get w.methods (top t).method ≡ Some method
  pub are : AreSteps (top_code w t) place 0 steps (listing (top_code w t))
  pub at : (top t).place ≡ place n
  pub further : n + count < length steps

-- registers hold a value that a load of the letter takes, and leaves as it is
pub record IsLoadable (w : Linked) (t : State Cell) (letter : Sort) (r : ℕ) : Type 0 where
  pub asked : SatisfiesAll w.classes (types_of_frame w.classes Bottom (kinds t) (top t)) (demands w (Load letter r))
  pub filled : AreFilled letter r (top t).registers

-- the home has a number of one byte, and its value can be loaded
abbrev pub CanLoad : Linked → Source → State Cell → Home → Type 0
CanLoad w s t h = (register s h < 256) × IsLoadable w t (letter_of h.ty) (register s h)

-- the cells of the value in a register, the top one first
abbrev pub value_in_register : Sort → ℕ → List Cell → List Cell
value_in_register sorts.Int r registers = nth tagged registers (r + 1) ∷ nth tagged registers r ∷ []
value_in_register _ r registers = nth tagged registers r ∷ []

-- a stack on which the values of homes were loaded, one after the other
abbrev pub loaded_stack : Source → List Cell → List Home → List Cell → List Cell
loaded_stack s registers [] stack = stack
loaded_stack s registers (h ∷ hs) stack =
    loaded_stack s registers hs (value_in_register (letter_of h.ty) (register s h) registers ++ stack)

-- loads of homes run one after the other, each in a step
abbrev pub LoadsRun : Linked → Type 0
LoadsRun w =
    (place : ℕ → ℕ) (steps : List Step) (t : State Cell) (n : ℕ) (s : Source) (hs : List Home)
    → IsAtStep w place steps t n (length hs)
    → InstructionsStandFrom steps n (map (load_of s) hs)
    → Each (CanLoad w s t) hs
    → length (loaded_stack s (top t).registers hs (top t).stack) ≤ max_stack_of w (top t).method
    → Runs tagged w (length hs) t
    (running (with_place (with_stack t (loaded_stack s (top t).registers hs (top t).stack)) (place (n + length hs))))

-- ---- copies of one value

-- each two homes that have registers are one home or share none
abbrev pub OwnRegisters : Source → Type 0
OwnRegisters s =
    (a b : Home)
    → HasRegister s.homes a
    → HasRegister s.homes b
    → (a ≡ b) ⊎ AreApart (register s a) (type_width a.ty) (register s b) (type_width b.ty)

-- so it is with the homes of a method
abbrev pub HomesOwnRegisters : Type 0
HomesOwnRegisters =
    (s : Source)
    → Serve s.world s.method s.frames s.homes
    → OwnRegisters s

-- a home to which the value of another can be copied: of the same slot and letter, with registers in the frame
pub record IsCopy (s : Source) (count : ℕ) (h k : Home) : Type 0 where
  pub slot : k.slot ≡ h.slot
  pub letter : letter_of k.ty ≡ letter_of h.ty
  pub own : HasRegister s.homes k
  pub small : register s k < 256
  pub inside : register s k + type_width k.ty ≤ count

-- after copies to homes: these hold the value, and every home that held its own holds it still
pub record AreCopied (w : Linked) (s : Source) (values : List Cell) (t : State Cell) (ks : List Home) (last : ℕ) : Type 0 where
  pub registers : List Cell
  pub runs : Runs tagged w (2 * length ks) t (running (with_registers t last registers))
  pub count : length registers ≡ length (top t).registers
  pub copies : Each (HoldsValue s values (record (top t) { registers = registers })) ks
  pub others :
      (h : Home)
      → HasRegister s.homes h
      → HoldsValue s values (top t) h
      → HoldsValue s values (record (top t) { registers = registers }) h

-- the copies of a value from a home to others run one after the other, each in two steps
abbrev pub HomesAreCopied : Linked → Type 0
HomesAreCopied w =
    (place : ℕ → ℕ) (steps : List Step) (t : State Cell) (n : ℕ) (s : Source) (values : List Cell) (h : Home) (ks : List Home)
    → OwnRegisters s
    → IsAtStep w place steps t n (2 * length ks)
    → InstructionsStandFrom steps n (flat_map (copy_of s h) ks)
    → HasRegister s.homes h
    → CanLoad w s t h
    → HoldsValue s values (top t) h
    → Each (IsCopy s (length (top t).registers) h) ks
    → size (letter_of h.ty) + length (top t).stack ≤ max_stack_of w (top t).method
    → AreCopied w s values t ks (place (n + 2 * length ks))

-- the loads of the homes of a whole stack, which follow one another from its bottom, put that stack back
abbrev pub LoadedIsStack : Type 0
LoadedIsStack =
    (s : Source) (f g : Frame Cell) (hs : List Home)
    → Follow (length f.registers) hs
    → register_sum hs ≡ length f.stack
    → Each (HoldsValue s (slots f) g) hs
    → loaded_stack s g.registers hs [] ≡ f.stack

-- The states that the verifier on the card meets as it walks the instructions in the order of the code, and why it
-- refuses one (Leroy 2002, section 3).
use Rattle.std.specs.Prelude.{ℕ, ◌<◌, ◌≤◌, ◌≡◌, ◌≢◌, List, [], ◌++◌, length, replicate, slice_set, Option, Some}
use Rattle.std.specs.Prelude.{None, IfSome, IsTrue, if◌then◌else◌}
use Rattle.cap_bare.specs.declared.format.Bare.{Bare}
use Rattle.cap_bare.specs.declared.instruction.Instruction.{Instruction}
use Rattle.jc_decode.specs.declared.insn.Placed.{Placed}
use Rattle.jc_decode.specs.Listing.{falls, jumps}
use Rattle.jc_decode.specs.Places.{place_after}
use Rattle.cap_bare.specs.declared.fault.BareFault.{BareFault}
use Rattle.cap_bare.specs.declared.fault.BareKind.{BareKind}
use Rattle.cap_bare.specs.declared.fault.BareKind.TheVariants.{NoLocal, Underflow, Overflow, StackAtTarget, StackAtBranch, FallsOff}
use Rattle.cap_bare.specs.Effects.{register_of, register_written, cells_taken, cells_given}
use Rattle.cap_bare.specs.Format.{instruction_of}
use Rattle.cap_bare.specs.Code.{HasInstruction, IsTarget, IsWellFormed, IsFirstFlaw, fault}
use Rattle.cap_bare.specs.Typing.{Kind, bottom, short, shorts, register_count, Applies}

-- the registers as a method is entered: its arguments, and nothing in the others
abbrev pub declared : Bare → List Kind
declared bare = replicate bare.nargs short ++ replicate bare.max_locals bottom

abbrev pub raised_at : Option ℕ → List Kind → List Kind
raised_at None registers = registers
raised_at (Some x) registers = slice_set registers x short

-- a store raises its register to the least type above what was there and a short, which is that of shorts
abbrev pub with_raised : Instruction → List Kind → List Kind
with_raised i registers = raised_at (register_written i) registers

-- nothing is wrong at an instruction, with these registers and this stack before it and that stack after it
pub record Passes (code : List ℕ) (bare : Bare) (i : Placed) (registers stack after : List Kind) : Type 0 where
  pub stands : HasInstruction code i
  pub target : IsTarget code i.place → stack ≡ []
  pub applies : Applies bare (instruction_of i.insn) registers stack after
  pub branch : IsTrue (jumps i.insn.op) → after ≡ []
  pub goes_on : IsTrue (falls i.insn.op) → place_after i < length code

-- The states that are met: the one of the method's entry, and what follows a met state at which nothing is wrong.
-- After the last instruction another pass begins at place 0.
pub data IsMet (code : List ℕ) (bare : Bare) : ℕ → List Kind → List Kind → Type 0 where
  met_entry : IsMet code bare 0 (declared bare) []
  met_next : (i : Placed) (registers stack after : List Kind) → IsMet code bare i.place registers stack
      → Passes code bare i registers stack after → place_after i < length code
      → IsMet code bare (place_after i) (with_raised (instruction_of i.insn) registers) (if falls i.insn.op then after else [])
  met_again : (i : Placed) (registers stack after : List Kind) → IsMet code bare i.place registers stack
      → Passes code bare i registers stack after → place_after i ≡ length code
      → IsMet code bare 0 (with_raised (instruction_of i.insn) registers) []

-- the first failure of an instruction's rule on a stack: its register, the cells that it takes, the room
pub data RuleFails (bare : Bare) (i : Instruction) (stack : List Kind) : BareKind → Type 0 where
  fails_local : (x : ℕ) → register_of i ≡ Some x → register_count bare ≤ x → RuleFails bare i stack (NoLocal x)
  fails_cells : IfSome (register_of i) (λ x. x < register_count bare) → length stack < cells_taken i → RuleFails bare i stack Underflow
  fails_room : IfSome (register_of i) (λ x. x < register_count bare) → (rest : List Kind) → stack ≡ shorts (cells_taken i) ++ rest
      → bare.max_stack < length (shorts (cells_given i) ++ rest) → RuleFails bare i stack Overflow

-- no target is fallen into with cells on the stack
abbrev pub LandsEmpty : List ℕ → Placed → List Kind → Type 0
LandsEmpty code i stack = IsTarget code i.place → stack ≡ []

-- no branch is left with cells on the stack
abbrev pub LeavesEmpty : Placed → List Kind → Type 0
LeavesEmpty i after = IsTrue (jumps i.insn.op) → after ≡ []

-- what is wrong first at an instruction with these registers and this stack before it: it is a target that is fallen into with cells on the
-- stack; its rule; it is a branch that is left with cells on the stack; it is the last and falls through
pub data IsWrong (code : List ℕ) (bare : Bare) (i : Placed) (registers stack : List Kind) : BareKind → Type 0 where
  wrong_target : IsTarget code i.place → stack ≢ [] → IsWrong code bare i registers stack StackAtTarget
  wrong_rule :
      (kind : BareKind)
      → LandsEmpty code i stack
      → RuleFails bare (instruction_of i.insn) stack kind
      → IsWrong code bare i registers stack kind
  wrong_branch :
      (after : List Kind)
      → LandsEmpty code i stack
      → Applies bare (instruction_of i.insn) registers stack after
      → IsTrue (jumps i.insn.op)
      → after ≢ []
      → IsWrong code bare i registers stack StackAtBranch
  wrong_end :
      (after : List Kind)
      → LandsEmpty code i stack
      → Applies bare (instruction_of i.insn) registers stack after
      → LeavesEmpty i after
      → IsTrue (falls i.insn.op)
      → place_after i ≡ length code
      → IsWrong code bare i registers stack FallsOff

-- the reasons to refuse a method: its first flaw, or what is wrong with a met state of a well-formed one
pub data IsRefused (code : List ℕ) (bare : Bare) : BareFault → Type 0 where
  refused_flaw : (first : BareFault) → IsFirstFlaw code first → IsRefused code bare first
  refused_state : (i : Placed) (registers stack : List Kind) (kind : BareKind) → IsWellFormed code → HasInstruction code i
      → IsMet code bare i.place registers stack → IsWrong code bare i registers stack kind
      → IsRefused code bare (fault i.place kind)

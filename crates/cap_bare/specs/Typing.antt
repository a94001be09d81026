-- Card typings of a bare method: what a verifier on the card accepts (Leroy, "Bytecode verification on Java smart
-- cards", 2002). Its requirement R1: the stack is empty at every branch, once its operands are popped, and at
-- every branch target. Its requirement R2: each register has one type throughout the method.
use Rattle.std.specs.Prelude.{ℕ, ◌+◌, ◌<◌, ◌≤◌, ◌≡◌, List, [], ◌++◌, length, replicate, slice_get, IfSome}
use Rattle.std.specs.Prelude.{IsSomeAnd, IsTrue, MatchBool}
use Rattle.cap_bare.specs.declared.format.Bare.{Bare}
use Rattle.cap_bare.specs.declared.instruction.Instruction.{Instruction}
use Rattle.jc_decode.specs.declared.insn.Placed.{Placed}
use Rattle.jc_decode.specs.Listing.{falls, jumps}
use Rattle.jc_decode.specs.Places.{place_after}
use Rattle.cap_bare.specs.Effects.{register_of, register_read, register_written, cells_taken, cells_given}
use Rattle.cap_bare.specs.Format.{instruction_of}
use Rattle.cap_bare.specs.Code.{HasInstruction, IsTarget, IsWellFormed}

-- The types of cells. Of the verifier's types only two occur where all values are shorts: that of a register into
-- which nothing was stored, and that of shorts.
pub data Kind : Type 0 where
  bottom : Kind
  short : Kind

-- the order of the types
pub data IsBelow : Kind → Kind → Type 0 where
  below_itself : {k : Kind} → IsBelow k k
  below_short : IsBelow bottom short

-- a type of so many shorts
abbrev pub shorts : ℕ → List Kind
shorts n = replicate n short

-- arguments and local variables
abbrev pub register_count : Bare → ℕ
register_count bare = bare.nargs + bare.max_locals

-- each number of the header fits the four bits that a compact header has for it (JCVM 2.2, section 6.9.2)
pub record IsCompact (bare : Bare) : Type 0 where
  pub arguments : bare.nargs ≤ 15
  pub locals : bare.max_locals ≤ 15
  pub stack : bare.max_stack ≤ 15

-- an instruction's rule applies to a register list and to a stack, top first, and gives the stack after it
pub record Applies (bare : Bare) (i : Instruction) (registers stack after : List Kind) : Type 0 where
  pub local : IfSome (register_of i) (λ x. x < register_count bare)
  pub read : IfSome (register_read i) (λ x. IsSomeAnd (slice_get registers x) (λ k. IsBelow k short))
  pub rest : List Kind
  pub takes : stack ≡ shorts (cells_taken i) ++ rest
  pub gives : after ≡ shorts (cells_given i) ++ rest
  pub room : length after ≤ bare.max_stack

-- What one instruction asks of the register list and of the stacks before all places: its rule applies, what it
-- stores is below its register's type, a branch leaves the stack empty, and the next place has the stack that it
-- gives, or the empty one where it doesn't fall through. The last instruction doesn't fall through.
pub record IsTyped (code : List ℕ) (bare : Bare) (registers : List Kind) (stacks : ℕ → List Kind) (i : Placed) : Type 0 where
  pub after : List Kind
  pub applies : Applies bare (instruction_of i.insn) registers (stacks i.place) after
  pub stored : IfSome (register_written (instruction_of i.insn)) (λ x. IsSomeAnd (slice_get registers x) (λ k. IsBelow short k))
  pub branch : IsTrue (jumps i.insn.op) → after ≡ []
  pub next : MatchBool (falls i.insn.op) ((place_after i < length code) × (stacks (place_after i) ≡ after))
      (stacks (place_after i) ≡ [])

-- a card typing of a well-formed method: one register list, and a stack before each place
pub record BareTyping (code : List ℕ) (bare : Bare) : Type 0 where
  pub well_formed : IsWellFormed code
  pub registers : List Kind
  pub stacks : ℕ → List Kind
  pub sized : length registers ≡ register_count bare
  pub arguments : (x : ℕ) → x < bare.nargs → IsSomeAnd (slice_get registers x) (λ k. IsBelow short k)
  pub entry : stacks 0 ≡ []
  pub targets : (place : ℕ) → IsTarget code place → stacks place ≡ []
  pub typed : (i : Placed) → HasInstruction code i → IsTyped code bare registers stacks i

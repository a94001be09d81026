-- A walk of the verifier along the code of a method, from the first place to the end. The marked places are the method's own
-- targets, or those that a target index lists.
use Rattle.std.specs.Prelude.{◌≡◌, ℕ, ◌+◌, ◌*◌, ◌<◌, ◌≤◌, Bool, true, if◌then◌else◌, List, [], ◌∷◌}
use Rattle.std.specs.Prelude.{◌++◌, ◌⊎◌, length, sum_by, MatchBool, IsTrue, Option, Some, None, IsSomeAnd}
use Rattle.jc_base.specs.declared.ty.Ty.{Ty}
use Rattle.jc_base.specs.declared.ty.Ty.TheVariants.{Class}
use Rattle.jc_base.specs.declared.record.Handler.{Handler}
use Rattle.jc_base.specs.Class.{ClassTable, IsClass}
use Rattle.jc_base.specs.Order.{IsJoin, rises_left}
use Rattle.jc_base.specs.World.{IsWorld}
use Rattle.jc_decode.specs.declared.insn.Placed.{Placed}
use Rattle.jc_decode.specs.Listing.{listing, falls, jumps}
use Rattle.jc_control.specs.Method.{IsMethodOf}
use Rattle.jc_control.specs.WellFormed.{IsWellFormed}
use Rattle.jc_decode.specs.Laws.{InstructionsAreListed}
use Rattle.jc_rules.specs.declared.rule.Outcome.{Outcome}
use Rattle.jc_rules.specs.Demand.{Frame}
use Rattle.jc_rules.specs.Stack.{cells}
use Rattle.jc_rules.specs.Apply.{frame_of}
use Rattle.card_typing.specs.declared.fault.CardFault.{CardFault}
use Rattle.card_typing.specs.declared.fault.CardKind.{CardKind}
use Rattle.card_typing.specs.declared.fault.CardKind.TheVariants.{StackAtBranch, FallsOff}
use Rattle.card_typing.specs.Place.{IsEntry, IsFallenInto}
use Rattle.card_typing.specs.Met.{Arrives, IsOpenTo, IsPassed, GoesTo, IsMetAfter, IsMet}
use Rattle.card_typing.specs.Refusal.{IsWrong, IsRefusedAfter}
use Rattle.card_typing.specs.Pass.{IsQuiet, IsStillAfter}
use Rattle.card_typing.specs.Laws.{MetIsSound, MetIsOne, RuleIsOfRecord}
use Rattle.card_verify.specs.declared.verify.Verifier.{Verifier}
use Rattle.card_verify.specs.declared.pass.Arrival.{Arrival}
use Rattle.card_verify.specs.Verifier.{method, world_of}
use Rattle.card_verify.specs.Counted.{instruction_count}

-- a well-formed method of a world, and what is known of its rules and of the states that are met over the marked places
pub record IsVerifier (v : Verifier) (marked : ℕ → Type 0) : Type 0 where
  pub known : IsMethodOf (world_of v) (method v)
  pub formed : IsWellFormed (method v)
  pub world : IsWorld (world_of v)
  pub sound : MetIsSound (world_of v) (method v) marked
  pub one : MetIsOne (world_of v) (method v) marked
  pub order : InstructionsAreListed
  pub records : RuleIsOfRecord (world_of v)

-- the lent slices have the lengths that the method declares
pub record HasSlices (v : Verifier) (regs stack : List Ty) : Type 0 where
  pub registers : length regs ≡ (method v).rec.nargs + (method v).rec.max_locals
  pub cells : length stack ≡ (method v).rec.max_stack

-- a walk comes to a place, which may be the end, after so many visits: the state with which it goes on is met, and no
-- handler begins at the method's first place once that is passed
pub record IsComing (v : Verifier) (marked : ℕ → Type 0) (visits at : ℕ) (arrival : Arrival) (regs stack : List Ty) : Type 0 where
  pub met :
      (q : ℕ) (given : List Ty)
      → GoesTo (method v) at q
      → Arrives (world_of v) (method v) arrival.may_fall (cells stack arrival.depth) q given
      → IsMetAfter (world_of v) (method v) marked visits q (record { regs = regs; stack = given })
  pub fallen : MatchBool arrival.may_fall (IsFallenInto (method v) at) (¬ (IsFallenInto (method v) at))
  pub inside : arrival.may_fall ≡ true → at < length (method v).code
  pub begins : 0 < at → ¬ (IsEntry (method v) 0)
  pub slices : HasSlices v regs stack
  pub depth : arrival.depth ≤ (method v).rec.max_stack

-- how many cells it comes with
abbrev pub left : Arrival → ℕ
left arrival = if arrival.may_fall then arrival.depth else 0

-- a marked place is fallen into with cells on the stack
abbrev pub IsBlocked : (ℕ → Type 0) → ℕ → Arrival → Type 0
IsBlocked marked place arrival = (0 < left arrival) × marked place

-- control comes to a handler's entry in another way too
abbrev pub IsShared : (ℕ → Type 0) → ℕ → Arrival → Type 0
IsShared marked place arrival = (arrival.may_fall ≡ true) ⊎ marked place

-- the stack with which it comes there may stand at the place
pub record IsLanded (v : Verifier) (marked : ℕ → Type 0) (place : ℕ) (arrival : Arrival) (before : List Ty) (stack : List Ty)
    : Type 0 where
  pub arrives : Arrives (world_of v) (method v) arrival.may_fall (cells before arrival.depth) place stack
  pub suits : IsOpenTo (method v) marked place stack

-- a cell alone on a stack that has room for one, and else none
abbrev pub IsPut : List Ty → Ty → List Ty → ℕ → Type 0
IsPut before ty after depth =
    ((length before ≡ 0) × (depth ≡ 0))
    ⊎ (¬ (length before ≡ 0) × (depth ≡ 1) × (cells after depth ≡ ty ∷ []))

-- or it may not
pub record IsMislanded (v : Verifier) (marked : ℕ → Type 0) (arrival : Arrival) (before after : List Ty) (fault : CardFault) : Type
    0 where
  pub arrives : Arrives (world_of v) (method v) arrival.may_fall (cells before arrival.depth) fault.place (cells after fault.depth)
  pub wrong :
      (i : Placed) (regs : List Ty)
      → i.place ≡ fault.place
      → IsWrong (world_of v) (method v) marked i (frame_of regs after fault.depth) fault.kind (frame_of regs after fault.depth)
  pub within : fault.depth ≤ length after

-- something is wrong at an instruction with this frame; what is kept stands in the slices
pub record IsFailing (v : Verifier) (marked : ℕ → Type 0) (i : Placed) (regs stack regs_after stack_after : List Ty)
    (fault : CardFault) : Type 0 where
  pub place : fault.place ≡ i.place
  pub wrong :
      IsWrong (world_of v) (method v) marked i (record { regs = regs; stack = stack }) fault.kind
      (frame_of regs_after stack_after fault.depth)
  pub within : fault.depth ≤ length stack_after

-- what the rule of an instruction leaves is in order: no cells after a branch or switch, and the code goes on after what falls through
pub record IsLeftWell (v : Verifier) (i : Placed) (depth : ℕ) : Type 0 where
  pub branch : IsTrue (jumps i.insn.op) → depth ≡ 0
  pub goes_on : IsTrue (falls i.insn.op) → i.place + i.insn.len < length (method v).code

-- or it is not
abbrev pub IsLeftWrong : Verifier → Placed → ℕ → CardKind → Type 0
IsLeftWrong v i depth StackAtBranch = IsTrue (jumps i.insn.op) × ¬ (depth ≡ 0)
IsLeftWrong v i depth FallsOff =
    (IsTrue (jumps i.insn.op) → depth ≡ 0)
    × IsTrue (falls i.insn.op)
    × (length (method v).code ≤ i.place + i.insn.len)
IsLeftWrong v i depth _ = ⊥

-- the rule of an instruction has applied, and nothing is wrong
pub record IsStepped (v : Verifier) (marked : ℕ → Type 0) (i : Placed) (regs stack regs_after stack_after : List Ty) (o : Outcome)
    : Type 0 where
  pub passed :
      IsPassed (world_of v) (method v) marked i (record { regs = regs; stack = stack })
      (frame_of regs_after stack_after o.depth) o
  pub rises :
      MatchBool o.rose
      (sum_by (rises_left (world_of v).classes) regs_after < sum_by (rises_left (world_of v).classes) regs)
      (regs_after ≡ regs)
  pub slices : HasSlices v regs_after stack_after
  pub depth : o.depth ≤ (method v).rec.max_stack

-- nothing is wrong at an instruction
pub record IsVisited (v : Verifier) (marked : ℕ → Type 0) (i : Placed) (arrival : Arrival)
    (regs stack regs_after stack_after : List Ty) (o : Outcome) : Type 0 where
  pub given : List Ty
  pub arrives : Arrives (world_of v) (method v) arrival.may_fall (cells stack arrival.depth) i.place given
  pub stepped : IsStepped v marked i regs given regs_after stack_after o

-- or something is
pub record IsStopped (v : Verifier) (marked : ℕ → Type 0) (i : Placed) (arrival : Arrival)
    (regs stack regs_after stack_after : List Ty) (fault : CardFault) : Type 0 where
  pub given : List Ty
  pub arrives : Arrives (world_of v) (method v) arrival.may_fall (cells stack arrival.depth) i.place given
  pub fails : IsFailing v marked i regs given regs_after stack_after fault

-- ---- a pass

-- after so many visits a pass can begin with these registers: what is met then is met
pub record CanBeginPass (v : Verifier) (marked : ℕ → Type 0) (visits : ℕ) (regs stack : List Ty) : Type 0 where
  pub met :
      (given : List Ty)
      → Arrives (world_of v) (method v) true [] 0 given
      → IsMetAfter (world_of v) (method v) marked visits 0 (record { regs = regs; stack = given })
  pub slices : HasSlices v regs stack

-- one can begin, after any number of visits
abbrev pub CanPass : Verifier → (ℕ → Type 0) → List Ty → List Ty → Type 0
CanPass v marked regs stack = (visits : ℕ) × CanBeginPass v marked visits regs stack

-- a pass that began after any number of visits ends with one more for each instruction, and another can begin
abbrev pub IsPassedOver : Verifier → (ℕ → Type 0) → List Ty → List Ty → List Ty → List Ty → Type 0
IsPassedOver v marked regs stack regs_after stack_after =
    (visits : ℕ)
    → CanBeginPass v marked visits regs stack
    → CanBeginPass v marked (visits + instruction_count (method v)) regs_after stack_after

-- the registers after a pass: less is left for them to rise; or they are as before, and nothing was wrong
abbrev pub HasLessLeft : Verifier → List Ty → List Ty → Type 0
HasLessLeft v regs regs_after = sum_by (rises_left (world_of v).classes) regs_after < sum_by (rises_left (world_of v).classes) regs

pub record IsSettled (v : Verifier) (marked : ℕ → Type 0) (regs regs_after : List Ty) : Type 0 where
  pub same : regs_after ≡ regs
  pub quiet : IsQuiet (world_of v) (method v) marked regs true [] (listing (method v).code)

-- something is wrong in a pass that began after so many visits, and each visit before it is a step
pub record IsRefusedInPass (v : Verifier) (marked : ℕ → Type 0) (visits : ℕ) (fault : CardFault) (kept : Frame)
    (before after : ℕ) : Type 0 where
  pub more : ℕ
  pub refused : IsRefusedAfter (world_of v) (method v) marked (visits + more) fault kept
  pub counted : before + more ≤ after

-- what stands in the registers after some instructions: a register rose; or none did, and if nothing is wrong at the
-- others then nothing was wrong at any
abbrev pub IsProgress : Verifier → (ℕ → Type 0) → List Ty → Bool → List Ty → Bool → List Ty → List Placed → Type 0
IsProgress v marked begun rose regs may_fall given yielded =
    MatchBool rose
    (HasLessLeft v begun regs)
    ((regs ≡ begun)
    × ((rest : List Placed)
    → yielded ++ rest ≡ listing (method v).code
    → IsQuiet (world_of v) (method v) marked begun may_fall given rest
    → IsQuiet (world_of v) (method v) marked begun true [] (listing (method v).code)))

-- ---- pass after pass

-- so many passes are over, of which each raised a register and visited each instruction in a step at the least
pub record IsUnderWay (v : Verifier) (marked : ℕ → Type 0) (passes : ℕ) (regs stack : List Ty) (before after : ℕ) : Type 0 where
  pub begun : CanBeginPass v marked (passes * instruction_count (method v)) regs stack
  pub raising : (n : ℕ) → n < passes → ¬ (IsStillAfter (world_of v) (method v) marked n)
  pub counted : before + passes * instruction_count (method v) ≤ after

-- the verifier is done: a pass that began with these registers, which are met there, has raised none
pub record IsFinished (v : Verifier) (marked : ℕ → Type 0) (regs : List Ty) : Type 0 where
  pub met :
      (given : List Ty)
      → Arrives (world_of v) (method v) true [] 0 given
      → IsMet (world_of v) (method v) marked 0 (record { regs = regs; stack = given })
  pub quiet : IsQuiet (world_of v) (method v) marked regs true [] (listing (method v).code)

-- ---- handlers

-- the join of a class, if there is one, and another, is a class
abbrev pub IsJoined : ClassTable → Option ℕ → ℕ → ℕ → Type 0
IsJoined t None other c = c ≡ other
IsJoined t (Some class) other c = IsClass t c × IsJoin t (Class class) (Class other) (Class c)

-- what becomes of the class so far where a handler is looked at: its join with the one that is caught, if the handler begins at the place
pub record IsCaughtWith (t : ClassTable) (place : ℕ) (h : Handler) (before after : Option ℕ) : Type 0 where
  pub here : h.entry ≡ place → IsSomeAnd after (IsJoined t before h.class)
  pub other : ¬ (h.entry ≡ place) → after ≡ before

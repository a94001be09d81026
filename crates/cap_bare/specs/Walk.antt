-- The walk along the instructions of the code for their types, by the number of cells before each. These words are
-- computed; what they say of a method is proved of them on `bare_verify`.
use Rattle.std.specs.Prelude.{ℕ, ◌+◌, ◌-◌, ◌≡◌, ◌⊎◌, ℤ, pos, negsuc, Bool, false, ◌&&◌, ◌==◌, nat_lt, List}
use Rattle.std.specs.Prelude.{[], ◌∷◌, length, Option, Some, None, Result, Ok, Err, if◌then◌else◌}
use Rattle.std.specs.List.{list_any}
use Rattle.jc_decode.specs.declared.insn.Placed.{Placed}
use Rattle.jc_decode.specs.Listing.{falls, jumps, targets}
use Rattle.jc_decode.specs.Places.{place_after}
use Rattle.cap_bare.specs.declared.format.Bare.{Bare}
use Rattle.cap_bare.specs.declared.instruction.Instruction.{Instruction}
use Rattle.cap_bare.specs.declared.fault.BareFault.{BareFault}
use Rattle.cap_bare.specs.declared.fault.BareKind.{BareKind}
use Rattle.cap_bare.specs.declared.fault.BareKind.TheVariants.{NoLocal, Underflow, Overflow, StackAtTarget, StackAtBranch, FallsOff}
use Rattle.cap_bare.specs.Format.{instruction_of}
use Rattle.cap_bare.specs.Effects.{register_of, cells_taken, cells_given}
use Rattle.cap_bare.specs.Code.{instructions, IsWellFormed, IsFirstFlaw, fault}
use Rattle.cap_bare.specs.Typing.{register_count}

-- whether the code has an instruction at a place, which may lie before the code
abbrev pub is_place : List ℕ → ℤ → Bool
is_place code (pos place) = list_any (λ i. i.place == place) (instructions code)
is_place code (negsuc n) = false

abbrev pub is_at : ℕ → ℤ → Bool
is_at place (pos target) = target == place
is_at place (negsuc n) = false

-- whether an instruction leads to a place
abbrev pub leads_to : List ℕ → ℕ → Placed → Bool
leads_to code place i = list_any (is_at place) (targets code i)

-- whether an instruction of the code does
abbrev pub is_target : List ℕ → ℕ → Bool
is_target code place = list_any (leads_to code place) (instructions code)

abbrev pub if_local : Bare → Option ℕ → ℕ → Result ℕ BareKind → Result ℕ BareKind
if_local bare None depth rest = rest
if_local bare (Some x) depth rest = if nat_lt x (register_count bare) then rest else Err (NoLocal x)

-- the number of cells after an instruction, over a stack of so many shorts
abbrev pub applied : Bare → Instruction → ℕ → Result ℕ BareKind
applied bare i depth =
    if_local bare (register_of i) depth
    (if nat_lt depth (cells_taken i) then Err Underflow
    else if nat_lt bare.max_stack (depth - cells_taken i + cells_given i) then Err Overflow
    else Ok (depth - cells_taken i + cells_given i))

abbrev pub left : List ℕ → Placed → Result ℕ BareKind → Result ℕ BareKind
left code i (Err kind) = Err kind
left code i (Ok after) =
    if jumps i.insn.op && nat_lt 0 after then Err StackAtBranch
    else if falls i.insn.op then (if place_after i == length code then Err FallsOff else Ok after)
    else Ok 0

-- the number of cells before the next place, or what is wrong at an instruction
abbrev pub passed : List ℕ → Bare → Placed → ℕ → Result ℕ BareKind
passed code bare i depth =
    if nat_lt 0 depth && is_target code i.place then Err StackAtTarget else left code i (applied bare (instruction_of i.insn) depth)

abbrev pub then_on : ℕ → Result ℕ BareKind → (ℕ → Result (Unit {0}) BareFault) → Result (Unit {0}) BareFault
then_on place (Ok after) rest = rest after
then_on place (Err kind) rest = Err (fault place kind)

-- what is wrong first, along instructions before which the stack has so many cells
abbrev pub first_wrong : List ℕ → Bare → ℕ → List Placed → Result (Unit {0}) BareFault
first_wrong code bare depth [] = Ok tt
first_wrong code bare depth (i ∷ is) = then_on i.place (passed code bare i depth) (λ after. first_wrong code bare after is)

-- what the walks find: nothing wrong in a well-formed method; its first flaw; or what is wrong first in a well-formed one
abbrev pub WalksFind : List ℕ → Bare → Result (Unit {0}) BareFault → Type 0
WalksFind code bare (Ok u) = IsWellFormed code × (first_wrong code bare 0 (instructions code) ≡ Ok tt)
WalksFind code bare (Err f) = IsFirstFlaw code f ⊎ (IsWellFormed code × (first_wrong code bare 0 (instructions code) ≡ Err f))

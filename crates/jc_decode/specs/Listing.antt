-- The instructions of a method's code, and where each leads.
use Rattle.std.specs.Prelude.{negsuc, Bool, ℤ, pos, ◌+ℤ◌, map, not, ◌||◌, ◌&&◌, ◌==◌, nat_le, if◌then◌else◌}
use Rattle.std.specs.Prelude.{◌≡◌, ◌+◌, ℕ, zero, suc, List, [], ◌∷◌, length, Result, Ok, Err, IsErr}
use Rattle.jc_decode.specs.declared.insn.Insn.{Insn}
use Rattle.jc_decode.specs.declared.insn.Placed.{Placed}
use Rattle.jc_decode.specs.declared.insn.CodeEnd.{CodeEnd}
use Rattle.std.proofs.Common.{refl}
use Rattle.jc_decode.specs.Layout.{layout_of, opcode}
use Rattle.jc_decode.specs.Decoding.{decoded}
use Rattle.jc_decode.specs.Cases.{cases, is_switch}

-- what follows an instruction in a list that has begun
abbrev pub listed : ℕ → Result Insn CodeEnd → (ℕ → List Placed) → List Placed
listed at (Ok i) rest = record { place = at; insn = i } ∷ rest (at + i.len)
listed at (Err e) rest = []

-- at most so many instructions
unfoldable pub at_most : ℕ → List ℕ → ℕ → List Placed
at_most zero code at = []
at_most (suc n) code at = listed at (decoded code at) (at_most n code)

-- the instructions from a place on: one is decoded after another, and where none is the list ends
unfoldable pub listing_from : List ℕ → ℕ → List Placed
listing_from code at = at_most (length code) code at

-- the instructions of a method's code, and their places
unfoldable pub listing : List ℕ → List Placed
listing code = listing_from code 0

-- the list has the instructions that are found from a place on, each at the place where the one before it ends, to
-- where none is
abbrev pub ListsFound : (ℕ → Result Insn CodeEnd) → ℕ → List Placed → Type 0
ListsFound found at [] = IsErr (found at)
ListsFound found at (p ∷ ps) = (p.place ≡ at) × (found at ≡ Ok p.insn) × ListsFound found (at + p.insn.len) ps

-- those that are decoded from the code
abbrev pub Lists : List ℕ → ℕ → List Placed → Type 0
Lists code at ps = ListsFound (decoded code) at ps

-- the place after the last instruction of a list that begins at a place
abbrev pub end_from : ℕ → List Placed → ℕ
end_from at [] = at
end_from at (p ∷ ps) = end_from (at + p.insn.len) ps

-- where the instructions of the code end: at the end of the code, or where none is decoded
abbrev pub listing_end : List ℕ → ℕ
listing_end code = end_from 0 (listing code)

-- whether this is the opcode of a jump with one target: the conditionals and goto, short and wide
abbrev pub is_branch : ℕ → Bool
is_branch op = (nat_le 96 op && nat_le op 112) || (nat_le 152 op && nat_le op 168)

-- whether the instruction after may come next: not after goto, a switch, a return, athrow and goto_w
abbrev pub falls : ℕ → Bool
falls op = not (op == 112 || (nat_le 115 op && nat_le op 122) || op == 147 || op == 168)

-- the place so far from another; it may lie before the code
abbrev pub target : ℕ → ℤ → ℤ
target place offset = pos place +ℤ offset

-- whether an instruction of this opcode names places to go to
abbrev pub jumps : ℕ → Bool
jumps op = is_branch op || is_switch op

-- where an instruction of the code may lead: a jump's target; of a switch the default, then the targets
-- of the cases in order
unfoldable pub targets : List ℕ → Placed → List ℤ
targets code p =
    if jumps p.insn.op
    then target p.place p.insn.x ∷ map (λ c. target p.place c.offset) (cases code p.place p.insn)
    else []

abbrev plain : ℕ → ℕ → Placed
plain place op = record { place = place; insn = record { op = op; x = pos 0; y = pos 0; z = pos 0; len = 1 } }

-- nop, sspush 258, return, and what is no instruction
short : listing (0 ∷ 17 ∷ 1 ∷ 2 ∷ 122 ∷ 185 ∷ []) ≡ plain 0 0
    ∷ record { place = 1; insn = record { op = 17; x = pos 258; y = pos 0; z = pos 0; len = 3 } }
    ∷ plain 4 122 ∷ []
unfolding listing listing_from at_most decoded layout_of opcode
short = refl

-- a goto that leads before the code
back : targets (112 ∷ 255 ∷ [])
    (record { place = 0; insn = record { op = 112; x = negsuc 0; y = pos 0; z = pos 0; len = 2 } })
    ≡ negsuc 0 ∷ []
unfolding targets cases layout_of opcode
back = refl

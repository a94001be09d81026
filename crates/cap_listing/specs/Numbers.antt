-- The numbers of an instruction in a listing: its operands in their order and then the cases of a switch.
use Rattle.std.specs.Prelude.{ℕ, ◌+◌, ◌∷◌, [], ◌++◌, List, drop, map, ℤ, pos, negsuc, ◌-ℤ◌, int_le, Bool, true}
use Rattle.std.specs.Prelude.{false, ◌&&◌, if◌then◌else◌, Result, Ok, Err, FitsSigned, ⊤}
use Rattle.std.specs.Int.{w32}
use Rattle.std.specs.Fmt.{signed_decimal}
use Rattle.cap_listing.specs.Words.{spaced}
use Rattle.jc_decode.specs.declared.layout.Operand.{Operand}
use Rattle.jc_decode.specs.declared.layout.Operand.TheVariants.{Absent, U1, U2, S1, S2, S4, DupWords, SwapWords, ArrayType, TestedType}
use Rattle.jc_decode.specs.declared.layout.Cases.{Cases}
use Rattle.jc_decode.specs.declared.layout.Cases.TheVariants.{Range, Pairs}
use Rattle.jc_decode.specs.declared.layout.Cases.TheVariants.{Absent as NoCases}
use Rattle.jc_decode.specs.declared.layout.Layout.{Layout}
use Rattle.jc_decode.specs.declared.insn.CodeEnd.{CodeEnd}
use Rattle.jc_decode.specs.declared.insn.Insn.{Insn}
use Rattle.jc_decode.specs.declared.insn.Case.{Case}
use Rattle.jc_decode.specs.Layout.{layout_of}
use Rattle.jc_decode.specs.Listing.{jumps, target}
use Rattle.jc_decode.specs.Encoding.{operand_bytes}

-- an operand as it is shown, where there is one
abbrev pub shown_operand : Operand → ℤ → List ℤ
shown_operand Absent v = []
shown_operand U1 v = v ∷ []
shown_operand U2 v = v ∷ []
shown_operand S1 v = v ∷ []
shown_operand S2 v = v ∷ []
shown_operand S4 v = v ∷ []
shown_operand DupWords v = v ∷ []
shown_operand SwapWords v = v ∷ []
shown_operand ArrayType v = v ∷ []
shown_operand TestedType v = v ∷ []

-- the first operand of a branch or switch is shown as the place to which it leads
abbrev pub shown_first : Bool → ℕ → ℤ → ℤ
shown_first true place v = target place v
shown_first false place v = v

-- a case: its target, and before it the key where the table has keys
abbrev pub shown_case : Cases → ℕ → Case → List ℤ
shown_case NoCases place c = []
shown_case Range place c = target place c.offset ∷ []
shown_case (Pairs key) place c = c.key ∷ target place c.offset ∷ []

abbrev pub shown_cases : Cases → ℕ → List Case → List ℤ
shown_cases k place [] = []
shown_cases k place (c ∷ cs) = shown_case k place c ++ shown_cases k place cs

abbrev pub numbers_by : Result Layout CodeEnd → ℕ → Insn → List Case → List ℤ
numbers_by (Err e) place i cs = []
numbers_by (Ok l) place i cs =
    shown_operand l.x (shown_first (jumps i.op) place i.x)
    ++ (shown_operand l.y i.y ++ (shown_operand l.z i.z ++ shown_cases l.cases place cs))

-- the numbers of the instruction i with these cases at a place
abbrev pub numbers_of : ℕ → Insn → List Case → List ℤ
numbers_of place i cs = numbers_by (layout_of i.op) place i cs

-- numbers, each after a space
abbrev pub shown : List ℤ → List ℕ
shown ns = spaced (map signed_decimal ns)

-- numbers of 32 bits
abbrev pub AreShown : List ℤ → Type 0
AreShown [] = ⊤
AreShown (z ∷ zs) = FitsSigned w32 z × AreShown zs

-- ---- the bytes for which numbers stand, whatever they are

-- the distance from a place, or the number itself
abbrev pub read_first : Bool → ℕ → ℤ → ℤ
read_first true place n = n -ℤ pos place
read_first false place n = n

-- the number where it lies between two others, and else 0
abbrev pub between : ℤ → ℤ → ℤ → ℤ
between low high n = if int_le low n && int_le n high then n else pos 0

-- the number where the operand may have it, and else 0
abbrev pub kept : Operand → ℤ → ℤ
kept Absent n = pos 0
kept S1 n = between (negsuc 127) (pos 127) n
kept S2 n = between (negsuc 32767) (pos 32767) n
kept S4 n = between (negsuc 2147483647) (pos 2147483647) n
kept U2 n = between (pos 0) (pos 65535) n
kept _ n = between (pos 0) (pos 255) n

abbrev pub kept_bytes : Operand → ℤ → List ℕ
kept_bytes o n = operand_bytes o (kept o n)

-- the bytes of a table of cases
abbrev pub table_of : Cases → ℕ → List ℤ → List ℕ
table_of NoCases place ns = []
table_of Range place [] = []
table_of Range place (n ∷ ns) = kept_bytes S2 (n -ℤ pos place) ++ table_of Range place ns
table_of (Pairs key) place [] = []
table_of (Pairs key) place (k ∷ []) = []
table_of (Pairs key) place (k ∷ n ∷ ns) = kept_bytes key k ++ (kept_bytes S2 (n -ℤ pos place) ++ table_of (Pairs key) place ns)

-- the first number; 0 where there is none
abbrev pub first_number : List ℤ → ℤ
first_number [] = pos 0
first_number (n ∷ ns) = n

-- the numbers after that of an operand
abbrev pub after_operand : Operand → List ℤ → List ℤ
after_operand Absent ns = ns
after_operand U1 ns = drop 1 ns
after_operand U2 ns = drop 1 ns
after_operand S1 ns = drop 1 ns
after_operand S2 ns = drop 1 ns
after_operand S4 ns = drop 1 ns
after_operand DupWords ns = drop 1 ns
after_operand SwapWords ns = drop 1 ns
after_operand ArrayType ns = drop 1 ns
after_operand TestedType ns = drop 1 ns

-- the bytes of the operands after the first, and of the table
abbrev pub later_bytes : Layout → ℕ → List ℤ → List ℕ
later_bytes l place ns =
    kept_bytes l.y (first_number ns)
    ++ (kept_bytes l.z (first_number (after_operand l.y ns)) ++ table_of l.cases place (after_operand l.z (after_operand l.y ns)))

abbrev pub block_by : Result Layout CodeEnd → ℕ → ℕ → List ℤ → List ℕ
block_by (Err e) place op ns = []
block_by (Ok l) place op ns =
    op ∷ (kept_bytes l.x (read_first (jumps op) place (first_number ns)) ++ later_bytes l place (after_operand l.x ns))

-- the bytes of an instruction of this opcode at a place whose numbers these are
abbrev pub block_of : ℕ → ℕ → List ℤ → List ℕ
block_of place op ns = block_by (layout_of op) place op ns

-- The bytes of an instruction: its opcode, its operands and, of a switch, the table that stands in a code
-- (JCVM 2.2, chapter 7).
use Rattle.std.specs.Prelude.{pos, negsuc, ◌≡◌, ◌+◌, ◌-◌, ℕ, ℤ, unsigned_abs, List, [], ◌∷◌, ◌++◌, length, take}
use Rattle.std.specs.Prelude.{drop, Result, Ok, Err, IsTrue, if◌then◌else◌}
use Rattle.std.proofs.Common.{refl}
use Rattle.std.specs.Int.{cast_unsigned, w8, w16, w32}
use Rattle.byteorder.specs.Endian.{big_bytes}
use Rattle.jc_decode.specs.declared.layout.Operand.{Operand}
use Rattle.jc_decode.specs.declared.layout.Operand.TheVariants.{Absent, S1, S2, S4}
use Rattle.jc_decode.specs.declared.layout.Layout.{Layout}
use Rattle.jc_decode.specs.declared.insn.Insn.{Insn}
use Rattle.jc_decode.specs.declared.insn.CodeEnd.{CodeEnd}
use Rattle.jc_decode.specs.Layout.{opcode, operand_width, total_width, layout_of}
use Rattle.jc_decode.specs.Decoding.{allows, decoded, FitsOperand}
use Rattle.jc_decode.specs.Cases.{cases, is_table}

-- the number whose bytes an operand is written as: two's complement for a signed one
abbrev pub bits : Operand → ℤ → ℕ
bits Absent v = 0
bits S1 v = cast_unsigned w8 v
bits S2 v = cast_unsigned w16 v
bits S4 v = cast_unsigned w32 v
bits _ v = unsigned_abs v

-- an operand's bytes
abbrev pub operand_bytes : Operand → ℤ → List ℕ
operand_bytes o v = big_bytes (operand_width o) (bits o v)

-- the instruction allows this operand
abbrev pub Allows : Operand → ℤ → Type 0
Allows o v = FitsOperand o v × IsTrue (allows o (bits o v))

-- the instruction exists and allows its operands
abbrev pub AllowsBy : Insn → Result Layout CodeEnd → Type 0
AllowsBy i (Ok l) = Allows l.x i.x × Allows l.y i.y × Allows l.z i.z
AllowsBy i (Err e) = ⊥

abbrev pub IsAllowed : Insn → Type 0
IsAllowed i = AllowsBy i (layout_of i.op)

-- the bytes of the table of the switch i at a place of the code; what is no switch has none
abbrev pub table_bytes : Layout → List ℕ → ℕ → Insn → List ℕ
table_bytes l xs at i =
    if is_table l.cases then take (i.len - (1 + total_width l)) (drop (at + 1 + total_width l) xs) else []

-- the bytes before the table: the opcode, and the operands in their order
abbrev pub head_bytes : Layout → Insn → List ℕ
head_bytes l i = i.op ∷ (operand_bytes l.x i.x ++ (operand_bytes l.y i.y ++ operand_bytes l.z i.z))

abbrev pub encoding_by : Result Layout CodeEnd → List ℕ → ℕ → Insn → List ℕ
encoding_by (Ok l) xs at i = head_bytes l i ++ table_bytes l xs at i
encoding_by (Err e) xs at i = []

-- the bytes of the instruction i; where it is a switch, its table is the one at this place of the code
unfoldable pub encoding : List ℕ → ℕ → Insn → List ℕ
encoding xs at i = encoding_by (layout_of i.op) xs at i

-- the instruction i as long as its bytes
abbrev pub sized : List ℕ → Insn → Insn
sized bytes i = record i { len = length bytes }

-- wherever these bytes stand, the instruction i begins there, with the cases of the switch at a place of
-- the code
pub record ReadsBack (xs : List ℕ) (at : ℕ) (i : Insn) (bytes : List ℕ) : Type 0 where
  pub insn : (before after : List ℕ) → decoded (before ++ (bytes ++ after)) (length before) ≡ Ok (sized bytes i)
  pub cases : (before after : List ℕ) → cases (before ++ (bytes ++ after)) (length before) (sized bytes i) ≡ cases xs at i

-- iipush -2
minus_two : encoding [] 0 (record { op = 20; x = negsuc 1; y = pos 0; z = pos 0; len = 5 }) ≡ 20 ∷ 255 ∷ 255 ∷ 255 ∷ 254 ∷ []
unfolding encoding layout_of opcode
minus_two = refl

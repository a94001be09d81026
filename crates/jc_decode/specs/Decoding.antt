-- The instruction at a place of a method's code (JCVM 2.2, chapter 7): its opcode, then its operands one
-- after the other, the highest byte first, then the table of a switch.
use Rattle.std.specs.Prelude.{[], ◌∷◌, ◌<◌, ◌≤◌, ℕ, ◌+◌, ◌-◌, ◌*◌, ◌/◌, ◌%◌}
use Rattle.std.specs.Prelude.{◌≡◌, ◌^◌, ℤ, pos, ◌-ℤ◌, int_lt, unsigned_abs, negsuc, List, length, Option, Some, None}
use Rattle.std.specs.Prelude.{Result, Ok, Err, Bool, true, false, not, ◌||◌, ◌&&◌, ◌==◌, nat_le, if◌then◌else◌, FitsSigned}
use Rattle.std.proofs.Common.{refl}
use Rattle.std.specs.List.{find, range_with_len}
use Rattle.std.specs.Result.{result_unwrap_or}
use Rattle.std.specs.Int.{cast_signed, w8, w16, w32}
use Rattle.cap_bytes.specs.Number.{number_at}
use Rattle.jc_decode.specs.declared.layout.Operand.{Operand}
use Rattle.jc_decode.specs.declared.layout.Operand.TheVariants.{Absent, S1, S2, S4, DupWords, SwapWords, ArrayType, TestedType}
use Rattle.jc_decode.specs.declared.layout.Cases.{Cases}
use Rattle.jc_decode.specs.declared.layout.Cases.TheVariants.{Range, Pairs}
use Rattle.jc_decode.specs.declared.layout.Cases.TheVariants.{Absent as NoCases}
use Rattle.jc_decode.specs.declared.layout.Layout.{Layout}
use Rattle.jc_decode.specs.declared.insn.CodeEnd.{CodeEnd}
use Rattle.jc_decode.specs.declared.insn.CodeEnd.TheVariants.{Cut, BadOperand, NoOpcode, OutOfScope}
use Rattle.jc_decode.specs.declared.insn.Insn.{Insn}
use Rattle.jc_decode.specs.declared.insn.Operands.{Operands}
use Rattle.jc_decode.specs.Layout.{opcode, operand_width, total_width, layout_of}

infixl 10 ◌>>=◌
abbrev pub ◌>>=◌ : {A B : Type 0} → Result A CodeEnd → (A → Result B CodeEnd) → Result B CodeEnd
Ok x >>= f = f x
Err e >>= f = Err e

-- what bytes must reach to
abbrev pub or_cut : {A : Type 0} → Option A → Result A CodeEnd
or_cut None = Err Cut
or_cut (Some x) = Ok x

-- the bytes reach to this place
abbrev pub within_bytes : List ℕ → ℕ → Result ℕ CodeEnd
within_bytes xs end = if nat_le end (length xs) then Ok end else Err Cut

-- the operand that begins at this place is forbidden
abbrev pub bad_byte : Option ℕ → CodeEnd
bad_byte None = Cut
bad_byte (Some b) = BadOperand b

abbrev pub bad_operand : List ℕ → ℕ → CodeEnd
bad_operand xs at = bad_byte (number_at 1 at xs)

-- the operand of dup_x: m is from 1 to 4, and n is 0 or from m to m + 4
abbrev pub is_dup_words : ℕ → Bool
is_dup_words b = nat_le 1 (b / 16) && nat_le (b / 16) 4 && (b % 16 == 0 || (nat_le (b / 16) (b % 16) && nat_le (b % 16) (b / 16 + 4)))

-- the operand of swap_x: m and n are 1 or 2
abbrev pub is_swap_words : ℕ → Bool
is_swap_words b = nat_le 1 (b / 16) && nat_le (b / 16) 2 && nat_le 1 (b % 16) && nat_le (b % 16) 2

-- the primitive types of arrays: 10 boolean, 11 byte, 12 short, 13 int
abbrev pub is_array_type : ℕ → Bool
is_array_type b = nat_le 10 b && nat_le b 13

-- the types that are tested: 0 a class, 10 to 13 arrays of primitives, 14 an array of a class
abbrev pub is_tested_type : ℕ → Bool
is_tested_type b = b == 0 || (nat_le 10 b && nat_le b 14)

-- whether the instruction allows the operand whose bytes are this number
abbrev pub allows : Operand → ℕ → Bool
allows DupWords b = is_dup_words b
allows SwapWords b = is_swap_words b
allows ArrayType b = is_array_type b
allows TestedType b = is_tested_type b
allows _ b = true

-- the number that an operand's bytes are, read as unsigned
abbrev pub operand_number : Operand → List ℕ → ℕ → Option ℕ
operand_number Absent xs at = Some 0
operand_number o xs at = number_at (operand_width o) at xs

-- what that number means: two's complement for a signed operand, and 0 for an absent one
abbrev pub value : Operand → ℕ → ℤ
value Absent n = pos 0
value S1 n = cast_signed w8 n
value S2 n = cast_signed w16 n
value S4 n = cast_signed w32 n
value _ n = pos n

-- the operand at a place, if the bytes reach and the instruction allows it
abbrev pub operand_at : Operand → List ℕ → ℕ → Result ℤ CodeEnd
operand_at o xs at = do
  n ← or_cut (operand_number o xs at)
  if allows o n then Ok (value o n) else Err (BadOperand n)

-- the bytes of one pair of a lookup switch, whose key is of this form
abbrev pub pair_width : Operand → ℕ
pair_width key = operand_width key + 2

-- the key of the n-th pair of a table of pairs
abbrev pub key_at : Operand → List ℕ → ℕ → ℕ → ℤ
key_at key xs table n = result_unwrap_or (operand_at key xs (table + pair_width key * n)) (pos 0)

-- whether the n-th key is above the one before it
abbrev pub rises : Operand → List ℕ → ℕ → ℕ → Bool
rises key xs table n = int_lt (key_at key xs table (n - 1)) (key_at key xs table n)

-- how many cases a table from low to high has
abbrev pub range_count : ℤ → ℤ → ℕ
range_count low high = unsigned_abs (high -ℤ low) + 1

-- the end of a table of pairs, if no key of it stands out of order
abbrev pub keys_rise : Operand → List ℕ → ℕ → ℕ → Option ℕ → Result ℕ CodeEnd
keys_rise key xs table end None = Ok end
keys_rise key xs table end (Some n) = Err (bad_operand xs (table + pair_width key * n))

-- the place after a table of so many pairs, if the bytes reach and each key is above the one before it
abbrev pub pairs_end : Operand → List ℕ → ℕ → ℕ → Result ℕ CodeEnd
pairs_end key xs table count = do
  end ← within_bytes xs (table + pair_width key * count)
  keys_rise key xs table end (find (λ n. not (rises key xs table n)) (range_with_len 1 (count - 1)))

-- the place after an offset for each number from low to high, whose bytes end where the table begins
abbrev pub range_end : Operand → List ℕ → ℕ → ℤ → ℤ → Result ℕ CodeEnd
range_end bound xs table low high =
    if int_lt high low then Err (bad_operand xs (table - operand_width bound)) else within_bytes xs (table + 2 * range_count low high)

abbrev pub end_of_cases : Cases → Operand → List ℕ → ℕ → ℤ → ℤ → Result ℕ CodeEnd
end_of_cases NoCases bound xs table y z = Ok table
end_of_cases Range bound xs table y z = range_end bound xs table y z
end_of_cases (Pairs key) bound xs table y z = pairs_end key xs table (unsigned_abs y)

-- the place after a switch's table, which begins at this place; y and z are the operands before it
abbrev pub table_end : Layout → List ℕ → ℕ → ℤ → ℤ → Result ℕ CodeEnd
table_end l xs table y z = end_of_cases l.cases l.z xs table y z

-- the instruction of this opcode at a place, with these operands, or why there is none
abbrev pub decoded_as : ℕ → Layout → List ℕ → ℕ → Result Insn CodeEnd
decoded_as op l xs at = do
  table ← within_bytes xs (at + 1 + total_width l)
  x ← operand_at l.x xs (at + 1)
  y ← operand_at l.y xs (at + 1 + operand_width l.x)
  z ← operand_at l.z xs (at + 1 + operand_width l.x + operand_width l.y)
  end ← table_end l xs table y z
  Ok (record { op = op; x = x; y = y; z = z; len = end - at })

abbrev pub decoded_by : ℕ → Result Layout CodeEnd → List ℕ → ℕ → Result Insn CodeEnd
decoded_by op (Ok l) xs at = decoded_as op l xs at
decoded_by op (Err e) xs at = Err e

-- an opcode with its operands
abbrev pub with_operands : ℕ → Operands → Insn
with_operands op o = record { op = op; x = o.x; y = o.y; z = o.z; len = o.len }

abbrev pub with_operands_or : ℕ → Result Operands CodeEnd → Result Insn CodeEnd
with_operands_or op (Ok o) = Ok (with_operands op o)
with_operands_or op (Err e) = Err e

-- whether the bytes of an operand are tested
abbrev pub is_tested : Operand → Bool
is_tested DupWords = true
is_tested SwapWords = true
is_tested ArrayType = true
is_tested TestedType = true
is_tested _ = false

-- the instruction at a place of the code, or why there is none
unfoldable pub decoded : List ℕ → ℕ → Result Insn CodeEnd
decoded xs at = do
  op ← or_cut (number_at 1 at xs)
  l ← layout_of op
  decoded_as op l xs at

-- an operand's value lies in the range of its form
abbrev pub FitsOperand : Operand → ℤ → Type 0
FitsOperand Absent v = v ≡ pos 0
FitsOperand S1 v = FitsSigned w8 v
FitsOperand S2 v = FitsSigned w16 v
FitsOperand S4 v = FitsSigned w32 v
FitsOperand o (pos n) = n < 256 ^ operand_width o
FitsOperand o (negsuc n) = ⊥

-- the operands of an instruction lie in the ranges of its layout
abbrev pub FitsLayout : Insn → Result Layout CodeEnd → Type 0
FitsLayout i (Ok l) = FitsOperand l.x i.x × FitsOperand l.y i.y × FitsOperand l.z i.z
FitsLayout i (Err e) = ⊥

-- an instruction is an opcode at least, and its bytes are bytes of the code
pub record IsWithin (xs : List ℕ) (at : ℕ) (i : Insn) : Type 0 where
  pub one : 1 ≤ i.len
  pub reaches : at + i.len ≤ length xs

-- the instruction i begins at this place: its opcode stands there, then its operands, then the table
pub record Begins (xs : List ℕ) (at : ℕ) (i : Insn) : Type 0 where
  pub opcode : number_at 1 at xs ≡ Some i.op
  pub layout : Layout
  pub is_layout : layout_of i.op ≡ Ok layout
  pub reaches : at + 1 + total_width layout ≤ length xs
  pub x : operand_at layout.x xs (at + 1) ≡ Ok i.x
  pub y : operand_at layout.y xs (at + 1 + operand_width layout.x) ≡ Ok i.y
  pub z : operand_at layout.z xs (at + 1 + operand_width layout.x + operand_width layout.y) ≡ Ok i.z
  pub ends : table_end layout xs (at + 1 + total_width layout) i.y i.z ≡ Ok (at + i.len)

-- sspush 258; the second byte of an invokestatic, read as nop; dup_x of two words below one; half a goto_w; jsr; opcode 185
push : decoded (17 ∷ 1 ∷ 2 ∷ []) 0 ≡ Ok (record { op = 17; x = pos 258; y = pos 0; z = pos 0; len = 3 })
unfolding decoded layout_of opcode
push = refl

within : decoded (141 ∷ 0 ∷ 7 ∷ []) 1 ≡ Ok (record { op = 0; x = pos 0; y = pos 0; z = pos 0; len = 1 })
unfolding decoded layout_of opcode
within = refl

few_words : decoded (63 ∷ 33 ∷ []) 0 ≡ Err (BadOperand 33)
unfolding decoded layout_of opcode
few_words = refl

half : decoded (168 ∷ 0 ∷ []) 0 ≡ Err Cut
unfolding decoded layout_of opcode
half = refl

subroutine : decoded (113 ∷ 0 ∷ []) 0 ≡ Err (OutOfScope 113)
unfolding decoded layout_of opcode
subroutine = refl

beyond : decoded (185 ∷ []) 0 ≡ Err (NoOpcode 185)
unfolding decoded layout_of opcode
beyond = refl

-- an slookupswitch of no pair; one whose keys are equal
no_pair : decoded (117 ∷ 0 ∷ 5 ∷ 0 ∷ 0 ∷ []) 0 ≡ Ok (record { op = 117; x = pos 5; y = pos 0; z = pos 0; len = 5 })
unfolding decoded layout_of opcode
no_pair = refl

equal_keys : decoded (117 ∷ 0 ∷ 5 ∷ 0 ∷ 2 ∷ 3 ∷ 4 ∷ 0 ∷ 9 ∷ 3 ∷ 4 ∷ 0 ∷ 9 ∷ []) 0 ≡ Err (BadOperand 3)
unfolding decoded layout_of opcode
equal_keys = refl

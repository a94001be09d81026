-- The cases of a switch: an offset for each number from low to high, or pairs of a key and an offset
-- (JCVM 2.2, chapter 7: stableswitch, itableswitch, slookupswitch, ilookupswitch).
use Rattle.std.specs.Prelude.{◌<ℤ◌, slice_get, Some, negsuc, ◌∷◌, ◌++◌, take, drop, true, false, ◌≡◌, ◌+◌}
use Rattle.std.specs.Prelude.{◌*◌, ℕ, ℤ, pos, ◌+ℤ◌, unsigned_abs, List, [], map, Result, Ok, Err, IsTrue, Bool, ◌&&◌}
use Rattle.std.specs.Prelude.{nat_le}
use Rattle.std.proofs.Common.{refl}
use Rattle.std.specs.List.{range_with_len}
use Rattle.std.specs.Int.{cast_unsigned, w16}
use Rattle.byteorder.specs.Endian.{big_bytes}
use Rattle.std.specs.Result.{result_unwrap_or}
use Rattle.jc_decode.specs.declared.layout.Operand.TheVariants.{S2}
use Rattle.jc_decode.specs.declared.layout.Operand.{Operand}
use Rattle.jc_decode.specs.declared.layout.Layout.{Layout}
use Rattle.jc_decode.specs.declared.layout.Cases.{Cases}
use Rattle.jc_decode.specs.declared.layout.Cases.TheVariants.{Range, Pairs}
use Rattle.jc_decode.specs.declared.layout.Cases.TheVariants.{Absent as NoCases}
use Rattle.jc_decode.specs.declared.insn.Insn.{Insn}
use Rattle.jc_decode.specs.declared.insn.Case.{Case}
use Rattle.jc_decode.specs.declared.insn.CodeEnd.{CodeEnd}
use Rattle.jc_decode.specs.Layout.{opcode, operand_width, total_width, layout_of}
use Rattle.jc_decode.specs.Decoding.{operand_at, key_at, pair_width, range_count, decoded}

-- the offset at a place of a table
abbrev pub offset_at : List ℕ → ℕ → ℤ
offset_at xs at = result_unwrap_or (operand_at S2 xs at) (pos 0)

-- the case of low + n, in a table of offsets that begins at this place
abbrev pub range_case : List ℕ → ℕ → ℤ → ℕ → Case
range_case xs table low n = record { key = low +ℤ pos n; offset = offset_at xs (table + 2 * n) }

-- the n-th case of a table of pairs that begins at this place
abbrev pub pair_case : List ℕ → ℕ → Operand → ℕ → Case
pair_case xs table key n =
    record { key = key_at key xs table n; offset = offset_at xs (table + pair_width key * n + operand_width key) }

abbrev pub cases_in : Cases → List ℕ → ℕ → Insn → List Case
cases_in NoCases xs table i = []
cases_in Range xs table i = map (range_case xs table i.y) (range_with_len 0 (range_count i.y i.z))
cases_in (Pairs key) xs table i = map (pair_case xs table key) (range_with_len 0 (unsigned_abs i.y))

abbrev pub cases_by : Result Layout CodeEnd → List ℕ → ℕ → Insn → List Case
cases_by (Ok l) xs at i = cases_in l.cases xs (at + 1 + total_width l) i
cases_by (Err e) xs at i = []

-- the cases of the switch i at a place, in the table's order; what is no switch has none
unfoldable pub cases : List ℕ → ℕ → Insn → List Case
cases xs at i = cases_by (layout_of i.op) xs at i

abbrev pub is_table : Cases → Bool
is_table NoCases = false
is_table Range = true
is_table (Pairs key) = true

abbrev pub has_cases : Result Layout CodeEnd → Bool
has_cases (Ok l) = is_table l.cases
has_cases (Err e) = false

-- whether this is the opcode of a switch: a table of cases follows its operands
abbrev pub is_switch : ℕ → Bool
is_switch op = has_cases (layout_of op)

-- whether the opcode is from 115 to 118
abbrev pub is_from_115 : ℕ → Bool
is_from_115 op = nat_le 115 op && nat_le op 118

abbrev pub is_range : Cases → Bool
is_range NoCases = false
is_range Range = true
is_range (Pairs key) = false

abbrev pub has_range : Result Layout CodeEnd → Bool
has_range (Ok l) = is_range l.cases
has_range (Err e) = false

-- whether this is the opcode of a switch with an offset for each number from low to high
abbrev pub is_table_switch : ℕ → Bool
is_table_switch op = has_range (layout_of op)

-- each key is above the one before it
abbrev pub KeysRise : List Case → Type 0
KeysRise cs = (n : ℕ) (c d : Case) → slice_get cs n ≡ Some c → slice_get cs (n + 1) ≡ Some d → c.key <ℤ d.key

abbrev pub with_default : ℤ → Result Insn CodeEnd → Result Insn CodeEnd
with_default x (Ok i) = Ok (record i { x = x })
with_default x (Err e) = Err e

-- where i is a switch, it is the one at this place of the code but for its default
abbrev pub HasTable : List ℕ → ℕ → Insn → Type 0
HasTable xs at i = IsTrue (is_switch i.op) → with_default i.x (decoded xs at) ≡ Ok i

abbrev pub offset_place_in : Cases → ℕ → ℕ → ℕ
offset_place_in NoCases table n = table
offset_place_in Range table n = table + 2 * n
offset_place_in (Pairs key) table n = table + pair_width key * n + operand_width key

abbrev pub offset_place_by : Result Layout CodeEnd → ℕ → ℕ → ℕ
offset_place_by (Ok l) at n = offset_place_in l.cases (at + 1 + total_width l) n
offset_place_by (Err e) at n = at

-- the place of the offset of the n-th case of the switch i at a place
unfoldable pub offset_place : ℕ → Insn → ℕ → ℕ
offset_place at i n = offset_place_by (layout_of i.op) at n

-- the two bytes of an offset in place of those at a place
abbrev pub with_offset : List ℕ → ℕ → ℤ → List ℕ
with_offset xs place offset = take place xs ++ (big_bytes 2 (cast_unsigned w16 offset) ++ drop (place + 2) xs)

-- a case that leads so far
abbrev pub leading : ℤ → Case → Case
leading offset c = record c { offset = offset }

-- a stableswitch from -1 to 0
table : cases (115 ∷ 0 ∷ 5 ∷ 255 ∷ 255 ∷ 0 ∷ 0 ∷ 0 ∷ 16 ∷ 255 ∷ 254 ∷ []) 0
    (record { op = 115; x = pos 5; y = negsuc 0; z = pos 0; len = 11 })
    ≡ record { key = negsuc 0; offset = pos 16 } ∷ record { key = pos 0; offset = negsuc 1 } ∷ []
unfolding cases layout_of opcode
table = refl

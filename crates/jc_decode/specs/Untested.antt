-- An instruction as its bytes tell it where one is known to begin: no operand and no key is tested.
use Rattle.std.specs.Prelude.{ℕ, ℤ, ◌+◌, ◌-◌, ◌*◌, List, Result, Ok, Err, unsigned_abs, unwrap_or}
use Rattle.std.specs.Result.{result_unwrap_or}
use Rattle.cap_bytes.specs.Number.{number_at}
use Rattle.jc_decode.specs.declared.layout.Operand.{Operand}
use Rattle.jc_decode.specs.declared.layout.Cases.{Cases}
use Rattle.jc_decode.specs.declared.layout.Cases.TheVariants.{Range, Pairs}
use Rattle.jc_decode.specs.declared.layout.Cases.TheVariants.{Absent as NoCases}
use Rattle.jc_decode.specs.declared.layout.Layout.{Layout}
use Rattle.jc_decode.specs.declared.insn.CodeEnd.{CodeEnd}
use Rattle.jc_decode.specs.declared.insn.Insn.{Insn}
use Rattle.jc_decode.specs.declared.insn.Operands.{Operands}
use Rattle.jc_decode.specs.Layout.{operand_width, total_width, layout_of, no_operands}
use Rattle.jc_decode.specs.Decoding.{with_operands, within_bytes, operand_number, value, range_count, pair_width}

-- what the bytes of an operand mean, whether or not it is allowed
abbrev pub untested_operand : Operand → List ℕ → ℕ → ℤ
untested_operand o xs at = value o (unwrap_or (operand_number o xs at) 0)

-- the place after a switch's table, whatever its keys are, and the place before it where the bytes do not reach
abbrev pub untested_end : Cases → List ℕ → ℕ → ℤ → ℤ → ℕ
untested_end NoCases xs table y z = table
untested_end Range xs table y z = result_unwrap_or (within_bytes xs (table + 2 * range_count y z)) table
untested_end (Pairs key) xs table y z = result_unwrap_or (within_bytes xs (table + pair_width key * unsigned_abs y)) table

-- the operands of an instruction at a place, and the number of its bytes
abbrev pub untested_operands : Layout → List ℕ → ℕ → Operands
untested_operands l xs at = record {
  x = untested_operand l.x xs (at + 1);
  y = untested_operand l.y xs (at + 1 + operand_width l.x);
  z = untested_operand l.z xs (at + 1 + operand_width l.x + operand_width l.y);
  len = untested_end l.cases xs (at + 1 + total_width l)
      (untested_operand l.y xs (at + 1 + operand_width l.x))
      (untested_operand l.z xs (at + 1 + operand_width l.x + operand_width l.y))
      - at;
}

-- the instruction of this opcode at a place
abbrev pub untested_as : ℕ → Layout → List ℕ → ℕ → Insn
untested_as op l xs at = with_operands op (untested_operands l xs at)

-- the operands of an opcode, none where it is that of no instruction
abbrev pub known_layout : Result Layout CodeEnd → Layout
known_layout (Ok l) = l
known_layout (Err e) = no_operands

abbrev pub untested_of : ℕ → List ℕ → ℕ → Insn
untested_of op xs at = untested_as op (known_layout (layout_of op)) xs at

-- the instruction at a place, where one begins
unfoldable pub untested : List ℕ → ℕ → Insn
untested xs at = untested_of (unwrap_or (number_at 1 at xs) 0) xs at

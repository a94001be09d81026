-- How the operands of a layout are read where they are not tested.
use Rattle.std.specs.Prelude.{◌≡◌, Bool, true, false, ◌&&◌, if◌then◌else◌, ⊤}
use Rattle.jc_decode.specs.declared.layout.Operand.{Operand}
use Rattle.jc_decode.specs.declared.layout.Operand.TheVariants as operands
use Rattle.jc_decode.specs.declared.layout.Cases.{Cases}
use Rattle.jc_decode.specs.declared.layout.Cases.TheVariants as tables
use Rattle.jc_decode.specs.declared.layout.Layout.{Layout}
use Rattle.jc_decode.specs.declared.reading.Reading.{Reading}
use Rattle.jc_decode.specs.declared.reading.Reading.TheVariants.{Plain, Byte, SignedByte, Short, SignedShort, More}
use Rattle.jc_decode.specs.Layout.{one, no_operands}

-- whether there is no operand
abbrev pub is_absent : Operand → Bool
is_absent operands.Absent = true
is_absent operands.U1 = false
is_absent operands.U2 = false
is_absent operands.S1 = false
is_absent operands.S2 = false
is_absent operands.S4 = false
is_absent operands.DupWords = false
is_absent operands.SwapWords = false
is_absent operands.ArrayType = false
is_absent operands.TestedType = false

abbrev pub has_no_cases : Cases → Bool
has_no_cases tables.Absent = true
has_no_cases tables.Range = false
has_no_cases (tables.Pairs key) = false

-- how one operand is read
abbrev pub reading_of : Operand → Reading
reading_of operands.Absent = Plain
reading_of operands.U1 = Byte
reading_of operands.U2 = Short
reading_of operands.S1 = SignedByte
reading_of operands.S2 = SignedShort
reading_of operands.S4 = More
reading_of operands.DupWords = More
reading_of operands.SwapWords = More
reading_of operands.ArrayType = More
reading_of operands.TestedType = More

-- how those of a layout are read
abbrev pub reading : Layout → Reading
reading l = if is_absent l.y && (is_absent l.z && has_no_cases l.cases) then reading_of l.x else More

-- what a way of reading says of the layout
abbrev pub Reads : Reading → Layout → Type 0
Reads Plain l = l ≡ no_operands
Reads Byte l = l ≡ one operands.U1
Reads SignedByte l = l ≡ one operands.S1
Reads Short l = l ≡ one operands.U2
Reads SignedShort l = l ≡ one operands.S2
Reads More l = ⊤

-- An operand's number is kept where the operand may have it.
use Rattle.std.proofs.Common.{◌≡◌, List, ◌++◌}
use Rattle.std.proofs.Common.{arith}
use Rattle.std.specs.Prelude.{ℤ}
use Rattle.std.proofs.lemmas.Bool.{le-leb}
use Rattle.jc_decode.specs.declared.layout.Operand.{Operand}
use Rattle.jc_decode.specs.Decoding.{FitsOperand}
use Rattle.jc_decode.specs.Encoding.{operand_bytes}
use Rattle.cap_listing.specs.Numbers.{kept, kept_bytes, shown_operand, first_number, after_operand}

pub kept-same : (o : Operand) (v : ℤ) → FitsOperand o v → kept o v ≡ v
kept-same x v h = grind (arith, le-leb)

-- an operand is read off the first of the numbers that are shown
pub after-shown : (o : Operand) (v : ℤ) (more : List ℤ) → after_operand o (shown_operand o v ++ more) ≡ more
after-shown x v more = grind (arith)

-- an operand's bytes, where `read` undoes what is shown
pub shown-bytes : (o : Operand) (read : ℤ → ℤ) (shown v : ℤ) (more : List ℤ) → read shown ≡ v → FitsOperand o v
    → kept_bytes o (read (first_number (shown_operand o shown ++ more))) ≡ operand_bytes o v
shown-bytes x read shown v more e h = grind (arith, kept-same)

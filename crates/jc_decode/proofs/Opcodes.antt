-- The code's table of opcodes is the definition's, opcode by opcode.
use Rattle.std.proofs.Common.{◌≡◌, ◌∙◌, ℕ, ◌+◌, ◌-◌, ◌<◌, ◌≤◌, List, refl, sym, ap, arith, get_or}
use Rattle.std.specs.List.{range_with_len}
use Rattle.std.specs.Prelude.{map}
use Rattle.std.proofs.lemmas.List.FromFn.{get_or-map-range_with_len}
use Rattle.jc_decode.specs.declared.layout.TheConstants.{OPCODES}
use Rattle.jc_decode.specs.declared.layout.Opcode.{Opcode}
use Rattle.jc_decode.specs.declared.layout.Opcode.TheVariants.{Reserved, Unused}
use Rattle.jc_decode.specs.Layout.{opcode}

OPCODES-is : OPCODES ≡ map opcode (range_with_len 0 185)
unfolding opcode
OPCODES-is = refl

-- what stands at an opcode's place of the table
pub OPCODES-at : (op : ℕ) (d : Opcode) → op < 185 → get_or OPCODES op d ≡ opcode op
OPCODES-at op d h = ap (λ (t : List Opcode). get_or t op d) OPCODES-is ∙ get_or-map-range_with_len opcode 0 185 op op d h (omega arith)

-- each of so many stands for what the first does
stands-as : (first count op : ℕ) → map opcode (range_with_len first count) ≡ map (λ (n : ℕ). opcode first) (range_with_len first count)
    → first ≤ op → op < first + count → opcode first ≡ opcode op
stands-as first count op h low high =
    let o = opcode first in
    sym (get_or-map-range_with_len (λ (n : ℕ). o) first count (op - first) op o (omega arith) (omega arith))
    ∙ ap (λ (t : List Opcode). get_or t (op - first) o) (sym h)
    ∙ get_or-map-range_with_len opcode first count (op - first) op o (omega arith) (omega arith)

-- the opcodes after the last instruction: the standard has none but two that it reserves
pub unused : (op : ℕ) → 185 ≤ op → op < 254 → Unused ≡ opcode op
unfolding opcode
unused op low high = stands-as 185 69 op refl low (omega arith)

pub reserved : (op : ℕ) → 254 ≤ op → op < 256 → Reserved ≡ opcode op
unfolding opcode
reserved op low high = stands-as 254 2 op refl low (omega arith)

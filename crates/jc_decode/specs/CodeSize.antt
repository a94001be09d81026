-- The plain size of a method's code.
use Rattle.std.specs.Prelude.{◌≡◌, ◌+◌, ◌-◌, ℕ, List, [], ◌∷◌, length}
use Rattle.std.proofs.Common.{refl}
use Rattle.jc_decode.specs.declared.insn.Placed.{Placed}
use Rattle.jc_decode.specs.Decoding.{decoded}
use Rattle.jc_decode.specs.Layout.{layout_of, opcode}
use Rattle.jc_decode.specs.Listing.{listing, listing_from, at_most, listing_end}
use Rattle.jc_decode.specs.Forms.{plain_length}

-- the plain lengths of instructions: 2 for a load or store of a register, 3 for a conditional or goto, and the length
-- otherwise
abbrev pub plain_sum : List Placed → ℕ
plain_sum [] = 0
plain_sum (i ∷ is) = plain_length i.insn + plain_sum is

-- bytes from a place where decoding stops count one each
unfoldable pub plain_code_size : List ℕ → ℕ
plain_code_size code = plain_sum (listing code) + (length code - listing_end code)

-- sload_0, goto, and a byte that is no instruction
three : plain_code_size (28 ∷ 112 ∷ 2 ∷ 185 ∷ []) ≡ 6
unfolding plain_code_size listing listing_from at_most decoded layout_of opcode
three = refl

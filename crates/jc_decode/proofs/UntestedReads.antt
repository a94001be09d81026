-- Where an instruction is decoded, its bytes tell it without a test.
use Rattle.std.proofs.Common.{◌≡◌, ◌≤◌, ◌+◌, ◌-◌, ℕ, Bool, true, false, cond, Ok, Err, List, length}
use Rattle.std.proofs.Common.{refl, ap, ◌∙◌, arith}
use Rattle.std.specs.Prelude.{ℤ, unwrap_or}
use Rattle.jc_decode.specs.declared.layout.Operand.{Operand}
use Rattle.jc_decode.specs.declared.layout.Cases.{Cases}
use Rattle.jc_decode.specs.declared.layout.Layout.{Layout}
use Rattle.jc_decode.specs.declared.insn.CodeEnd.TheVariants.{BadOperand}
use Rattle.jc_decode.specs.declared.insn.Insn.{Insn}
use Rattle.jc_decode.specs.Layout.{operand_width, total_width}
use Rattle.jc_decode.specs.Decoding.{or_cut, operand_at, operand_number, allows, value, end_of_cases, is_tested, decoded}
use Rattle.jc_decode.specs.Untested.{untested_operand, untested_end, untested}
use Rattle.jc_decode.proofs.Decoded.{from_bind, or_cut-ok, reached-within, pairs_end-ok, range_end-ok, Begins-decoded}

-- an operand that is allowed is what its bytes mean
operand-untested : (o : Operand) (xs : List ℕ) (at : ℕ) (v : ℤ) → operand_at o xs at ≡ Ok v → untested_operand o xs at ≡ v
operand-untested o xs at v h =
    from_bind (or_cut (operand_number o xs at)) _ v h (λ n n_is h1.
    ap (λ r. value o (unwrap_or r 0)) (or_cut-ok (operand_number o xs at) n n_is) ∙ by_test (allows o n) n h1)
  where
    by_test : (b : Bool) (n : ℕ) → cond b (Ok (value o n)) (Err (BadOperand n)) ≡ Ok v → value o n ≡ v
    by_test true n k = cc
    by_test false n k = absurd (cc)

-- a table ends where its keys are not looked at
end-untested : (l : Layout) (c : Cases) (xs : List ℕ) (table : ℕ) (y z : ℤ) (e : ℕ) → end_of_cases c l.z xs table y z ≡ Ok e
    → untested_end c xs table y z ≡ e
end-untested l y xs table y2 z e h = grind (arith, range_end-ok, reached-within, pairs_end-ok)

pub untested-decoded : (xs : List ℕ) (at : ℕ) (i : Insn) → decoded xs at ≡ Ok i → untested xs at ≡ i
unfolding untested
untested-decoded xs at i h =
    let b = Begins-decoded xs at i h in
    let x = operand-untested b.layout.x xs (at + 1) i.x b.x in
    let y = operand-untested b.layout.y xs (at + 1 + operand_width b.layout.x) i.y b.y in
    let z = operand-untested b.layout.z xs (at + 1 + operand_width b.layout.x + operand_width b.layout.y) i.z b.z in
    let end = end-untested b.layout b.layout.cases xs (at + 1 + total_width b.layout) i.y i.z (at + i.len) b.ends in
    let len : at + i.len - at ≡ i.len = omega arith in
    rw (b.opcode, b.is_layout, x, y, z, end, len) refl

-- what is read of bytes that reach, where they are not tested
pub read_within : (o : Operand) (xs : List ℕ) (at : ℕ) → at + operand_width o ≤ length xs → is_tested o ≡ false
    → operand_at o xs at ≡ Ok (untested_operand o xs at)
read_within x xs at h e = grind (arith)

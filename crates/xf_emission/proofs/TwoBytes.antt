-- Each target of an instruction takes two bytes of it.
use Rattle.std.proofs.Common.{◌≡◌, ◌≤◌, ◌+◌, ◌*◌, ℕ, Bool, true, false, if◌then◌else◌, Result, Ok, Err, List, [], ◌∷◌, length}
use Rattle.std.proofs.Common.{map, refl, sym, ap, ◌∙◌, arith}
use Rattle.std.specs.Prelude.{not, ◌||◌, nat_le, replicate}
use Rattle.std.specs.List.{range_with_len}
use Rattle.std.proofs.lemmas.Bool.Decides.{nat_tests}
use Rattle.std.proofs.Math.Nat.{add-mul}
use Rattle.std.proofs.lemmas.List.{length-map}
use Rattle.std.proofs.lemmas.List.FromFn.{length-map-range_with_len}
use Rattle.jc_decode.specs.declared.layout.Layout.{Layout}
use Rattle.jc_decode.specs.declared.insn.CodeEnd.{CodeEnd}
use Rattle.jc_decode.specs.declared.insn.Placed.{Placed}
use Rattle.jc_decode.specs.Layout.{total_width, layout_of, opcode}
use Rattle.cap_bytes.specs.Bytes.{AreBytes}
use Rattle.jc_decode.specs.Decoding.{decoded, end_of_cases}
use Rattle.jc_decode.specs.Cases.{cases}
use Rattle.jc_decode.specs.Listing.{jumps, target, targets}
use Rattle.jc_decode.proofs.Decoded.{Begins-decoded, range_end-ok, pairs_end-ok}
use Rattle.jc_decode.proofs.Passed.{passed-at, or-rest}
use Rattle.jc_decode.proofs.Ranges.{op-fits}
use Rattle.jc_decode.proofs.Tables.{cases-by}

-- what jumps has an operand at least
abbrev has_operand_by : Result Layout CodeEnd → Bool
has_operand_by (Ok l) = nat_le 1 (total_width l)
has_operand_by (Err e) = true

abbrev has_operand : ℕ → Bool
has_operand op = not (jumps op) || has_operand_by (layout_of op)

has_operand-all : map has_operand (range_with_len 0 256) ≡ replicate 256 true
unfolding layout_of opcode
has_operand-all = refl

module _ (xs : List ℕ) (p : Placed) (bytes : AreBytes xs) (h : decoded xs p.place ≡ Ok p.insn) (l : Layout) (is : layout_of p.insn.op ≡ Ok l)
    (ends : end_of_cases l.cases l.z xs (p.place + 1 + total_width l) p.insn.y p.insn.z ≡ Ok (p.place + p.insn.len)) where
  long : 1 + total_width l + 2 * length (cases xs p.place p.insn) ≤ p.insn.len
  long = rw (cases-by xs p.place p.insn l l.cases is refl) (grind (arith, range_end-ok, length-map-range_with_len, pairs_end-ok, add-mul))

  by-jump : (j : Bool) → jumps p.insn.op ≡ j
      → 2 * length (if j then target p.place p.insn.x ∷ map (λ c. target p.place c.offset) (cases xs p.place p.insn) else []) ≤ p.insn.len
  by-jump true e =
      let passed = or-rest (jumps p.insn.op) (has_operand_by (layout_of p.insn.op))
      (passed-at has_operand has_operand-all p.insn.op (op-fits xs p.place p.insn bytes h)) e in
      let wide : nat_le 1 (total_width l) ≡ true = ap has_operand_by (sym is) ∙ passed in
      let one : 1 ≤ total_width l = grind (arith, nat_tests, wide) in
      omega (arith, long, one, length-map (cases xs p.place p.insn) (λ c. target p.place c.offset))
  by-jump false e = omega arith

pub two-bytes : (xs : List ℕ) (p : Placed) → AreBytes xs → decoded xs p.place ≡ Ok p.insn → 2 * length (targets xs p) ≤ p.insn.len
unfolding targets
two-bytes xs p bytes h =
    let b = Begins-decoded xs p.place p.insn h in
    by-jump xs p bytes h b.layout b.is_layout b.ends (jumps p.insn.op) refl

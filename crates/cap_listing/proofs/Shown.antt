-- The numbers of an instruction fit 32 bits.
use Rattle.std.proofs.Common.{◌≡◌, ◌≤◌, ◌+◌, ◌*◌, ℕ, zero, suc, Bool, true, Result, Ok, Err, List, [], ◌∷◌}
use Rattle.std.proofs.Common.{◌++◌, map, refl, sym, subst, arith, rules}
use Rattle.std.specs.Prelude.{ℤ, pos, FitsSigned}
use Rattle.std.specs.Int.{w16, w32}
use Rattle.std.specs.List.{range_with_len}
use Rattle.std.specs.Result.{result_unwrap_or}
use Rattle.jc_decode.specs.declared.layout.Operand.{Operand}
use Rattle.jc_decode.specs.declared.layout.Operand.TheVariants.{Absent, U1, U2, S1, S2, S4, DupWords, SwapWords, ArrayType, TestedType}
use Rattle.jc_decode.specs.declared.layout.Cases.{Cases}
use Rattle.jc_decode.specs.declared.layout.Cases.TheVariants.{Range, Pairs}
use Rattle.jc_decode.specs.declared.layout.Layout.{Layout}
use Rattle.jc_decode.specs.declared.insn.CodeEnd.{CodeEnd}
use Rattle.jc_decode.specs.declared.insn.Insn.{Insn}
use Rattle.jc_decode.specs.declared.insn.Case.{Case}
use Rattle.jc_decode.specs.Layout.{total_width}
use Rattle.cap_bytes.specs.Bytes.{AreBytes}
use Rattle.jc_decode.specs.Decoding.{decoded, operand_at, FitsOperand, FitsLayout}
use Rattle.jc_decode.specs.Cases.{cases, cases_in, range_case, pair_case}
use Rattle.jc_decode.specs.Listing.{jumps, target}
use Rattle.jc_decode.proofs.Decoded.{Begins-decoded}
use Rattle.jc_decode.proofs.Ranges.{FitsOperand-read, FitsLayout-decoded, offset-decoded}
use Rattle.jc_decode.proofs.Tables.{cases-by}
use Rattle.cap_listing.specs.Numbers.{shown_operand, shown_first, shown_cases, numbers_by, numbers_of, AreShown}
use Rattle.jc_decode.proofs.KeySearches.{fits-wide}

shown-append : (ys zs : List ℤ) → AreShown ys → AreShown zs → AreShown (ys ++ zs)
shown-append [] zs h k = k
shown-append (y ∷ ys) zs h k = (h.0, shown-append ys zs h.1 k)

-- and where it is shown
operand-shown : (o : Operand) (z : ℤ) → FitsSigned w32 z → AreShown (shown_operand o z)
operand-shown x z h = grind (arith)

-- a target of a short distance
target-fits : (place : ℕ) (x : ℤ) → place ≤ 65535 → FitsSigned w16 x → FitsSigned w32 (target place x)
target-fits place y h k = grind (arith)

first-fits : (j : Bool) (place : ℕ) (x : ℤ) → place ≤ 65535 → FitsSigned w32 x → (j ≡ true → FitsSigned w16 x)
    → FitsSigned w32 (shown_first j place x)
first-fits x place x2 h k f = grind (arith, target-fits)

-- what is read of a table
read-fits : (o : Operand) (xs : List ℕ) (p : ℕ) → AreBytes xs → FitsOperand o (result_unwrap_or (operand_at o xs p) (pos 0))
read-fits o xs p are = by (operand_at o xs p) refl
  where
    none : (k : Operand) → FitsOperand k (pos 0)
    none Absent = refl
    none U1 = omega arith
    none U2 = omega arith
    none S1 = omega arith
    none S2 = omega arith
    none S4 = omega arith
    none DupWords = omega arith
    none SwapWords = omega arith
    none ArrayType = omega arith
    none TestedType = omega arith

    by : (r : Result ℤ CodeEnd) → operand_at o xs p ≡ r → FitsOperand o (result_unwrap_or r (pos 0))
    by (Ok v) e = FitsOperand-read o xs p v are e
    by (Err f) e = none o

ranges-shown : (xs : List ℕ) (place t : ℕ) (low : ℤ) (n a : ℕ) → AreBytes xs → place ≤ 65535
    → AreShown (shown_cases Range place (map (range_case xs t low) (range_with_len a n)))
ranges-shown xs place t low zero a are h = search rules
ranges-shown xs place t low (suc n) a are h = (target-fits place _ h (read-fits S2 xs (t + 2 * a) are), ranges-shown xs place t low n (a + 1) are h)

pairs-shown : (key : Operand) (xs : List ℕ) (place t n a : ℕ) → AreBytes xs → place ≤ 65535
    → AreShown (shown_cases (Pairs key) place (map (pair_case xs t key) (range_with_len a n)))
pairs-shown key xs place t zero a are h = search rules
pairs-shown key xs place t (suc n) a are h =
    (fits-wide key _ (read-fits key xs _ are), (target-fits place _ h (read-fits S2 xs _ are), pairs-shown key xs place t n (a + 1) are h))

table-shown : (k : Cases) (xs : List ℕ) (place t : ℕ) (i : Insn) → AreBytes xs → place ≤ 65535 → AreShown (shown_cases k place (cases_in k xs t i))
table-shown x xs place t i are h = grind (arith, ranges-shown, pairs-shown)

pub numbers-shown : (place : ℕ) (code : List ℕ) (at : ℕ) (i : Insn) → place ≤ 65535 → AreBytes code → decoded code at ≡ Ok i
    → AreShown (numbers_of place i (cases code at i))
numbers-shown place code at i h are is =
    let b = Begins-decoded code at i is in
    let l = b.layout in
    let fits = subst (FitsLayout i) b.is_layout (FitsLayout-decoded code at i are is) in
    let x = operand-shown l.x (shown_first (jumps i.op) place i.x)
    (first-fits (jumps i.op) place i.x h (fits-wide l.x i.x fits.0) (offset-decoded code at i are is)) in
    let y = operand-shown l.y i.y (fits-wide l.y i.y fits.1) in
    let z = operand-shown l.z i.z (fits-wide l.z i.z fits.2) in
    let table = subst (λ (cs : List Case). AreShown (shown_cases l.cases place cs)) (sym (cases-by code at i l l.cases b.is_layout refl))
    (table-shown l.cases code place (at + 1 + total_width l) i are h) in
    subst (λ (r : Result Layout CodeEnd). AreShown (numbers_by r place i (cases code at i))) (sym b.is_layout)
    (shown-append _ _ x (shown-append _ _ y (shown-append _ _ z table)))

-- How many targets an instruction has: each takes two bytes of the code.
use Rattle.std.proofs.Common.{◌≡◌, ◌≤◌, ◌<◌, ◌+◌, ◌*◌, ◌/◌, ℕ, Bool, true, false, if◌then◌else◌, Result, Ok, Err, List, []}
use Rattle.std.proofs.Common.{◌∷◌, length, map, refl, ap, arith}
use Rattle.std.specs.Prelude.{unsigned_abs}
use Rattle.std.proofs.Math.Nat.{add-mul}
use Rattle.std.proofs.lemmas.List.{length-map}
use Rattle.std.proofs.lemmas.List.FromFn.{length-map-range_with_len}
use Rattle.jc_decode.specs.declared.layout.Cases.{Cases}
use Rattle.jc_decode.specs.declared.layout.Cases.TheVariants.{Range, Pairs}
use Rattle.jc_decode.specs.declared.layout.Cases.TheVariants.{Absent as NoCases}
use Rattle.jc_decode.specs.declared.layout.Layout.{Layout}
use Rattle.jc_decode.specs.declared.insn.CodeEnd.{CodeEnd}
use Rattle.jc_decode.specs.declared.insn.Insn.{Insn}
use Rattle.jc_decode.specs.declared.insn.Placed.{Placed}
use Rattle.jc_decode.specs.Layout.{operand_width, total_width, layout_of}
use Rattle.jc_decode.specs.Decoding.{range_count, decoded}
use Rattle.jc_decode.specs.Cases.{cases, range_case, pair_case}
use Rattle.jc_decode.specs.Listing.{jumps, target, targets}
use Rattle.jc_decode.proofs.Tables.{cases-by, range_table, pairs_table}
use Rattle.jc_decode.proofs.Defaults.{no_cases}
use Rattle.jc_decode.proofs.KeySearches.{has-table}

few-cases : (xs : List ℕ) (at : ℕ) (i : Insn) → decoded xs at ≡ Ok i → 2 * length (cases xs at i) ≤ length xs
few-cases xs at i h = by_layout (layout_of i.op) refl
  where
    by_cases : (l : Layout) (k : Cases) → layout_of i.op ≡ Ok l → l.cases ≡ k → 2 * length (cases xs at i) ≤ length xs
    by_cases l NoCases is_layout is = omega (arith, ap length (cases-by xs at i l NoCases is_layout is))
    by_cases l Range is_layout is =
        let t = at + 1 + total_width l in
        let inside = range_table xs at i l (has-table xs at i h) is_layout is in
        omega (arith, inside.1, ap length (cases-by xs at i l Range is_layout is), length-map-range_with_len (range_case xs t i.y) 0 (range_count i.y i.z))
    by_cases l (Pairs key) is_layout is =
        let t = at + 1 + total_width l in
        let inside = pairs_table xs at i l key (has-table xs at i h) is_layout is in
        omega (
          arith,
          inside,
          ap length (cases-by xs at i l (Pairs key) is_layout is),
          length-map-range_with_len (pair_case xs t key) 0 (unsigned_abs i.y),
          add-mul (operand_width key) 2 (unsigned_abs i.y),
        )

    by_layout : (r : Result Layout CodeEnd) → layout_of i.op ≡ r → 2 * length (cases xs at i) ≤ length xs
    by_layout (Ok l) is = by_cases l l.cases is refl
    by_layout (Err e) is = omega (arith, ap length (no_cases xs at i e is))

pub few-targets : (xs : List ℕ) (p : Placed) → length xs ≤ 32767 → p.place < length xs → decoded xs p.place ≡ Ok p.insn
    → p.place / 2 + length (targets xs p) ≤ 32768
unfolding targets
few-targets xs p short inside h = by (jumps p.insn.op)
  where
    by : (b : Bool) → p.place / 2 + length (if b then target p.place p.insn.x ∷ map (λ c. target p.place c.offset) (cases xs p.place p.insn) else [])
        ≤ 32768
    by true = omega (arith, few-cases xs p.place p.insn h, length-map (cases xs p.place p.insn) (λ c. target p.place c.offset))
    by false = omega arith

-- An instruction has few targets.
use Rattle.std.proofs.Common.{◌≡◌, ◌≤◌, ◌+◌, ◌*◌, ℕ, Bool, true, false, cond, Ok, List, [], ◌∷◌, length, refl, arith}
use Rattle.std.specs.Prelude.{map, unsigned_abs}
use Rattle.std.proofs.Math.Nat.{mul-le-mul_right}
use Rattle.std.proofs.lemmas.List.{length-map}
use Rattle.std.proofs.lemmas.List.FromFn.{length-map-range_with_len}
use Rattle.jc_decode.specs.declared.insn.Case.{Case}
use Rattle.jc_decode.specs.declared.insn.Insn.{Insn}
use Rattle.jc_decode.specs.declared.layout.Cases.{Cases}
use Rattle.jc_decode.specs.declared.layout.Cases.TheVariants.{Range, Pairs}
use Rattle.jc_decode.specs.declared.layout.Cases.TheVariants.{Absent as NoCases}
use Rattle.jc_decode.specs.Layout.{total_width}
use Rattle.jc_decode.specs.Decoding.{decoded, range_count, pair_width, Begins}
use Rattle.jc_decode.specs.Cases.{cases, range_case, pair_case, HasTable}
use Rattle.jc_decode.specs.Listing.{jumps, target, targets}
use Rattle.jc_decode.specs.Laws.{TargetsAreFew}
use Rattle.jc_decode.proofs.Decoded.{Begins-decoded}
use Rattle.jc_decode.proofs.Tables.{cases-by, range_table, pairs_table}

module _ (code : List ℕ) (at : ℕ) (i : Insn) (d : decoded code at ≡ Ok i) where
  has_table : HasTable code at i
  has_table = λ switch. rw d refl

  pub cases-few : length (cases code at i) ≤ length code
  cases-few = by_cases b.layout.cases refl
    where
      b : Begins code at i
      b = Begins-decoded code at i d

      by_cases : (k : Cases) → b.layout.cases ≡ k → length (cases code at i) ≤ length code
      by_cases NoCases is = rw (cases-by code at i b.layout NoCases b.is_layout is) (omega arith)
      by_cases Range is =
          let table = range_table code at i b.layout has_table b.is_layout is in
          rw (cases-by code at i b.layout Range b.is_layout is)
          (omega (arith, table.1, length-map-range_with_len (range_case code (at + 1 + total_width b.layout) i.y) 0 (range_count i.y i.z)))
      by_cases (Pairs key) is =
          let table = pairs_table code at i b.layout key has_table b.is_layout is in
          let wide : 1 * unsigned_abs i.y ≤ pair_width key * unsigned_abs i.y = mul-le-mul_right (unsigned_abs i.y) (omega arith) in
          rw (cases-by code at i b.layout (Pairs key) b.is_layout is)
          (omega (arith, table, wide, length-map-range_with_len (pair_case code (at + 1 + total_width b.layout) key) 0 (unsigned_abs i.y)))

pub targets-few : TargetsAreFew
unfolding targets
targets-few code p d = by_test (jumps p.insn.op) refl
  where
    by_test : (b : Bool) → jumps p.insn.op ≡ b
        → length (cond b (target p.place p.insn.x ∷ map (λ (c : Case). target p.place c.offset) (cases code p.place p.insn)) []) ≤ length code + 1
    by_test true e = let few = cases-few code p.place p.insn d in omega (arith, length-map (cases code p.place p.insn) (λ (c : Case). target p.place c.offset))
    by_test false e = omega arith

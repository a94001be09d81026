-- How long an instruction is, and its bytes.
use Rattle.std.proofs.Common.{◌≡◌, ◌+◌, ◌-◌, ℕ, Bool, true, false, cond, Result, Ok, Err, List, [], ◌++◌, length, take, drop, refl, arith}
use Rattle.std.proofs.Common.{length-append}
use Rattle.std.proofs.lemmas.List.{length-drop, length-take}
use Rattle.jc_decode.specs.declared.layout.Cases.{Cases}
use Rattle.jc_decode.specs.declared.layout.Cases.TheVariants.{Range, Pairs}
use Rattle.jc_decode.specs.declared.layout.Cases.TheVariants.{Absent as NoCases}
use Rattle.jc_decode.specs.declared.layout.Layout.{Layout}
use Rattle.jc_decode.specs.declared.insn.Insn.{Insn}
use Rattle.jc_decode.specs.declared.insn.CodeEnd.{CodeEnd}
use Rattle.jc_decode.specs.Layout.{total_width, layout_of}
use Rattle.jc_decode.specs.Decoding.{decoded, end_of_cases}
use Rattle.jc_decode.specs.Cases.{is_table, has_cases, HasTable}
use Rattle.jc_decode.specs.Encoding.{AllowsBy, IsAllowed, head_bytes, encoding, encoding_by}
use Rattle.jc_decode.specs.Forms.{length_of, bytes_by}
use Rattle.jc_decode.proofs.Decoded.{Begins-decoded}
use Rattle.jc_decode.proofs.Tables.{table_within}
use Rattle.jc_decode.proofs.ReadBack.{length-head_bytes}

-- an instruction's bytes are as many as it is long
pub length-encoding : (xs : List ℕ) (at : ℕ) (i : Insn) → IsAllowed i → HasTable xs at i → length (encoding xs at i) ≡ length_of i
unfolding encoding
length-encoding xs at i allowed has = by_layout (layout_of i.op) refl allowed
  where
    by_layout : (r : Result Layout CodeEnd) → layout_of i.op ≡ r → AllowsBy i r → length (encoding_by r xs at i) ≡ cond (has_cases r) i.len
        (bytes_by r)
    by_layout (Err e) is a = absurd a
    by_layout (Ok l) is a = by_table (is_table l.cases) refl
      where
        by_table : (b : Bool) → is_table l.cases ≡ b
            → length (head_bytes l i ++ cond b (take (i.len - (1 + total_width l)) (drop (at + 1 + total_width l) xs)) [])
            ≡ cond b i.len (1 + total_width l)
        by_table true e =
            let within = table_within xs at i l has is e in
            omega (
              arith,
              within.0,
              within.1,
              length-head_bytes l i,
              length-append (head_bytes l i) (take (i.len - (1 + total_width l)) (drop (at + 1 + total_width l) xs)),
              length-take (i.len - (1 + total_width l)) (drop (at + 1 + total_width l) xs),
              length-drop (at + 1 + total_width l) xs,
            )
        by_table false e = omega (arith, length-head_bytes l i, length-append (head_bytes l i) [])

-- an instruction that is decoded is as long as it says
pub length-decoded : (xs : List ℕ) (at : ℕ) (i : Insn) → decoded xs at ≡ Ok i → length_of i ≡ i.len
length-decoded xs at i h =
    let b = Begins-decoded xs at i h in
    let l = b.layout in
    rw b.is_layout (by_cases l.cases refl b.ends)
  where
    by_cases : (k : Cases) → (Begins-decoded xs at i h).layout.cases ≡ k
        → end_of_cases k (Begins-decoded xs at i h).layout.z xs (at + 1 + total_width (Begins-decoded xs at i h).layout) i.y i.z ≡ Ok (at + i.len)
        → cond (is_table k) i.len (1 + total_width (Begins-decoded xs at i h).layout) ≡ i.len
    by_cases NoCases is ends = let e : at + 1 + total_width (Begins-decoded xs at i h).layout ≡ at + i.len = cc in omega (arith, e)
    by_cases Range is ends = refl
    by_cases (Pairs key) is ends = refl

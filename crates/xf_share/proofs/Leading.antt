-- The places to which an instruction leads, as the numbers of labels.
use Rattle.std.proofs.Common.{arith}
use Rattle.std.proofs.Common.{◌≡◌, ℕ, List, [], ◌∷◌, ◌++◌, map, Some, None, get_or, Contains, append_assoc, refl, sym, ap, ◌∙◌}
use Rattle.std.specs.Prelude.{ℤ, pos, slice_get, ◌≤ℤ◌, ◌<ℤ◌}
use Rattle.jc_control.proofs.PlacesWithin.{target-range}
use Rattle.jc_control.specs.WellFormed.{HasInstruction}
use Rattle.jc_decode.specs.declared.insn.Placed.{Placed}
use Rattle.jc_decode.specs.Listing.{targets}
use Rattle.vm_step.specs.Settled.{place_number}
use Rattle.xf_share.specs.Numbering.{IsReadable}

pub target-fits : (code : List ℕ) (i : Placed) (t : ℤ) → IsReadable code → HasInstruction code i → Contains (targets code i) t
    → (pos 0 ≤ℤ t) × (t <ℤ pos 65536)
target-fits code i t readable stands leads = grind (arith, target-range)

pub first-number : (ts : List ℤ) (t : ℤ) (n : ℕ) → slice_get ts 0 ≡ Some t → pos n ≡ t → n ≡ get_or (map place_number ts) 0 0
first-number [] t n at is = absurd (cc)
first-number (u ∷ ts) t n at is = let same : u ≡ t = cc in ap place_number (is ∙ sym same)

pub no-number : (ts : List ℤ) → slice_get ts 0 ≡ None → 0 ≡ get_or (map place_number ts) 0 0
no-number [] none = refl
no-number (t ∷ ts) none = absurd (cc)

pub labels-more : (ls : List ℕ) (n : ℕ) (t : ℤ) (rest after : List ℤ) (whole : List ℕ) → rest ≡ t ∷ after → pos n ≡ t
    → ls ++ map place_number rest ≡ whole → (ls ++ n ∷ []) ++ map place_number after ≡ whole
labels-more ls n t rest after whole step is so_far = grind (arith, append_assoc, map)

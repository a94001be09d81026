-- A branch leads at most 128 bytes back and 127 bytes on.
use Rattle.std.proofs.Common.{◌≡◌, sym, ℕ, ◌+◌, ◌≤◌, ⊎_elim, List, arith, Contains}
use Rattle.std.proofs.lemmas.Int.{ints}
use Rattle.std.specs.Prelude.{ℤ, pos, negsuc, FitsSigned}
use Rattle.std.specs.Int.{w8}
use Rattle.jc_decode.specs.declared.insn.Placed.{Placed}
use Rattle.cap_bytes.specs.Bytes.{AreBytes}
use Rattle.jc_decode.specs.Listing.{targets, target}
use Rattle.jc_decode.proofs.Ranges.{FitsLayout-decoded}
use Rattle.cap_bare.specs.Code.{HasInstruction, IsTarget}
use Rattle.cap_bare.specs.Window.{IsTrailing, IsFromOn}
use Rattle.cap_bare.proofs.Operands.{distance-fits}
use Rattle.cap_bare.proofs.Instructions.{fetched-bare, fetched-decoded, stands-here}
use Rattle.cap_bare.proofs.Places.{leads-one}

-- a target is near a place, if it lies in the code
abbrev pub IsNear : ℕ → ℤ → Type 0
IsNear place (pos target) = (target ≤ place + 127) × (place ≤ target + 128)
IsNear place (negsuc n) = Unit {0}

near-sum : (place : ℕ) (distance t : ℤ) → FitsSigned w8 distance → target place distance ≡ t → IsNear place t
near-sum place distance x h e = grind (arith, ints)

module _ (code : List ℕ) (bytes : AreBytes code) where
  near : (i : Placed) (t : ℤ) → HasInstruction code i → Contains (targets code i) t → IsNear i.place t
  near i t s c =
      let found = (stands-here code i s).found in
      let one = leads-one code i t s c in
      let fits = FitsLayout-decoded code i.place i.insn bytes (fetched-decoded code i.place i.insn found) in
      near-sum i.place i.insn.x t (distance-fits i.insn (fetched-bare code i.place i.insn found) one.0 fits) (sym one.1)

  -- what branches to a place stands in the window that begins at a trailing instruction
  pub target-near : (place : ℕ) (t : IsTarget code place) → IsNear t.from.place (pos place)
  target-near place t = near t.from (pos place) t.stands t.leads

  pub target-trails : (from place : ℕ) → IsTrailing code from place → (t : IsTarget code place) → from ≤ t.from.place
  target-trails from place h t = let near = target-near place t in ⊎_elim (λ e. omega arith) (λ le. omega (arith, near.0, near.1)) h.far

  -- where a branch leads is not before the instruction that trails it
  from-on : (from place : ℕ) (t : ℤ) → IsTrailing code from place → IsNear place t → IsFromOn from t
  from-on from place x h near = grind (arith, ⊎_elim, near)

  pub leads-from-on : (from : ℕ) (i : Placed) (t : ℤ) → IsTrailing code from i.place → HasInstruction code i
      → Contains (targets code i) t → IsFromOn from t
  leads-from-on from i t h s c = from-on from i.place t h (near i t s c)

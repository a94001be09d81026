-- The places that an instruction names, one by one.
use Rattle.std.proofs.Common.{◌≡◌, ◌<◌, ◌-◌, ℕ, zero, suc, true, false, Some, None, List, ◌∷◌, refl, ap, arith}
use Rattle.std.specs.Prelude.{slice_get}
use Rattle.std.specs.Option.{option_map}
use Rattle.std.proofs.lemmas.Option.{slice_get-map}
use Rattle.jc_decode.specs.declared.insn.Placed.{Placed}
use Rattle.jc_decode.specs.Cases.{cases}
use Rattle.jc_decode.specs.Listing.{jumps, target, targets}

slice_get-later : {X : Type 0} (x : X) (xs : List X) (n : ℕ) → 0 < n → slice_get (x ∷ xs) n ≡ slice_get xs (n - 1)
slice_get-later x xs zero h = absurd (omega arith)
slice_get-later x xs (suc n) h = ap (slice_get xs) (omega arith)

pub targets-none : (code : List ℕ) (p : Placed) (n : ℕ) → jumps p.insn.op ≡ false → slice_get (targets code p) n ≡ None
unfolding targets
targets-none code p n h = rw h refl

-- the default, or the only one
pub targets-first : (code : List ℕ) (p : Placed) → jumps p.insn.op ≡ true → slice_get (targets code p) 0 ≡ Some (target p.place p.insn.x)
unfolding targets
targets-first code p h = rw h refl

-- those of the cases
pub targets-later : (code : List ℕ) (p : Placed) (n : ℕ) → jumps p.insn.op ≡ true → 0 < n
    → slice_get (targets code p) n ≡ option_map (λ c. target p.place c.offset) (slice_get (cases code p.place p.insn) (n - 1))
unfolding targets
targets-later code p n h later = grind (arith, slice_get-later, slice_get-map)

pub ruleset target_facts = (targets-none, targets-first, targets-later)

-- Where the instructions of a method stand, and that control finds one wherever it comes.
use Rattle.std.proofs.Common.{◌≡◌, ℕ, ◌==◌, Bool, true, false, cond, List, [], ◌∷◌, inl, inr, refl, sym, ap, subst}
use Rattle.std.specs.Prelude.{Some, find}
use Rattle.std.proofs.lemmas.Bool.{eqb-true, eq-eqb}
use Rattle.jc_base.specs.Each.{IsAmong}
use Rattle.jc_base.proofs.Tests.{found-passes}
use Rattle.jc_base.proofs.Eaching.{Contains-from_IsAmong, IsAmong-from_Contains}
use Rattle.jc_decode.specs.declared.insn.Placed.{Placed}
use Rattle.jc_decode.specs.Listing.{listing}
use Rattle.jc_control.specs.WellFormed.{HasInstruction, IsPlace}
use Rattle.vm_step.specs.Methods.{instruction_at}

-- an element that passes is found, or one before it
found-some : {X : Type 0} (p : X → Bool) (xs : List X) (x : X) → IsAmong x xs → p x ≡ true → (y : X) × (find p xs ≡ Some y)
found-some p [] x among h = absurd among
found-some {X} p (y ∷ ys) x (inl here) h = (y, ap (λ b. cond b (Some y) (find p ys)) (subst (λ z. p z ≡ true) (sym here) h))
found-some {X} p (y ∷ ys) x (inr later) h = go (p y) (found-some p ys x later h)
  where
    go : (b : Bool) → (z : X) × (find p ys ≡ Some z) → (z : X) × (cond b (Some y) (find p ys) ≡ Some z)
    go true rest = (y, refl)
    go false rest = rest

-- the instruction at a place
pub record IsThere (code : List ℕ) (place : ℕ) (i : Placed) : Type 0 where
  pub stands : HasInstruction code i
  pub at : i.place ≡ place

pub instruction-there : (code : List ℕ) (place : ℕ) (i : Placed) → instruction_at code place ≡ Some i → IsThere code place i
unfolding instruction_at
instruction-there code place i e =
    let found = found-passes (λ (x : Placed). x.place == place) (listing code) i e in
    record { stands = Contains-from_IsAmong i (listing code) found.1; at = eqb-true i.place place found.0 }

pub place-instruction : (code : List ℕ) (place : ℕ) → IsPlace code place → (i : Placed) × (instruction_at code place ≡ Some i)
unfolding instruction_at
place-instruction code place here =
    found-some (λ (x : Placed). x.place == place) (listing code) here.0 (IsAmong-from_Contains here.0 (listing code) here.1)
    (eq-eqb here.0.place place here.2)

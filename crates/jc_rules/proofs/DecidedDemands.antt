-- A want and a demand are decided.
use Rattle.std.proofs.Common.{◌≡◌, ℕ, ◌≤◌, ◌⊎◌, inl, inr, Bool, true, false, not, ◌&&◌, ◌||◌, ◌==◌, nat_le}
use Rattle.std.proofs.Common.{MatchBool, Option, IsSomeAnd, slice_get, refl, arith}
use Rattle.std.proofs.lemmas.Bool.Decides.{nat_tests}
use Rattle.jc_base.specs.declared.ty.Ty.{Ty}
use Rattle.jc_base.specs.Class.{ClassTable}
use Rattle.jc_base.specs.Laws.{IsOrderOfTypes}
use Rattle.jc_base.specs.Order.{Below, is_below}
use Rattle.jc_rules.proofs.Types.{below-computed, below-told}
use Rattle.jc_ops.specs.declared.operation.Want.{Want}
use Rattle.jc_rules.specs.declared.demand.Demand.{Demand}
use Rattle.jc_rules.specs.Demand.{Frame, Meets, Satisfies}
use Rattle.jc_rules.specs.Demand.{meets}
use Rattle.jc_rules.specs.Demand.{met_at, satisfies, AreDecided}

either : (a b : Bool) (P Q : Type 0) → MatchBool a P (¬ P) → MatchBool b Q (¬ Q) → MatchBool (a || b) (P ⊎ Q) (¬ (P ⊎ Q))
either true b P Q p q = inl p
either false true P Q p q = inr q
either false false P Q p q = λ h. neither h
  where
    neither : P ⊎ Q → ⊥
    neither (inl h) = p h
    neither (inr h) = q h

negated : (a : Bool) (P : Type 0) → MatchBool a P (¬ P) → MatchBool (not a) (¬ P) (¬ (¬ P))
negated x y p = grind (arith)

both : (a b : Bool) (P Q : Type 0) → MatchBool a P (¬ P) → MatchBool b Q (¬ Q) → MatchBool (a && b) (P × Q) (¬ (P × Q))
both x b z u p q = grind (arith)

at-most : (a b : ℕ) → MatchBool (nat_le a b) (a ≤ b) (¬ (a ≤ b))
at-most a b = go (nat_le a b) refl
  where
    go : (x : Bool) → nat_le a b ≡ x → MatchBool x (a ≤ b) (¬ (a ≤ b))
    go true e = grind (arith, nat_tests)
    go false e = λ h. grind (arith, nat_tests)

equal-decided : (a b : ℕ) → MatchBool (a == b) (a ≡ b) (¬ (a ≡ b))
equal-decided a b = go (a == b) refl
  where
    go : (x : Bool) → (a == b) ≡ x → MatchBool x (a ≡ b) (¬ (a ≡ b))
    go true e = grind (arith, nat_tests)
    go false e = λ h. grind (arith, nat_tests)

module _ (t : ClassTable) (are : IsOrderOfTypes t) where
  below-decided : (a b : Ty) → MatchBool (is_below t a b) (Below t a b) (¬ (Below t a b))
  below-decided a b = go (is_below t a b) refl
    where
      go : (x : Bool) → is_below t a b ≡ x → MatchBool x (Below t a b) (¬ (Below t a b))
      go true e = below-told t are a b e
      go false e = λ h. let q : is_below t a b ≡ true = below-computed t are h in absurd (cc)

  want-decided : (want : Want) (found : Ty) → MatchBool (meets t want found) (Meets t want found) (¬ (Meets t want found))
  want-decided x found = grind (arith, below-decided, equal-decided)

  met-decided : (want : Want) (o : Option Ty) → MatchBool (met_at t want o) (IsSomeAnd o (Meets t want)) (¬ (IsSomeAnd o (Meets t want)))
  met-decided want y = grind (arith, want-decided)

  demand-decided : (f : Frame) (d : Demand) → MatchBool (satisfies t f d) (Satisfies t f d) (¬ (Satisfies t f d))
  demand-decided f y = grind (arith, at-most, met-decided, slice_get, both)

  pub are-decided : AreDecided t
  are-decided = record { want = want-decided; demand = demand-decided }

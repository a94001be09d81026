-- Elements that were gone over.
use Rattle.std.proofs.Common.{◌≡◌, ℕ, Bool, List, [], ◌∷◌, ◌++◌, length, Option, refl, subst, arith}
use Rattle.std.proofs.lemmas.List.{append-nil}
use Rattle.cap_desc.specs.DescriptorFormat.{MethodDescriptor, ClassDescriptor}
use Rattle.jc_decode.specs.declared.symbols.Laid.{Laid}
use Rattle.cap_write.specs.Condition.{AreElements, methods_for}

-- of all methods those that are left have the rest of the list
pub record IsSoFar (info : List ℕ) (all left : List (Option MethodDescriptor)) (laid rest : List (Option Laid)) : Type 0 where
  pub each : (others : List (Option MethodDescriptor)) → AreElements info (left ++ others) rest → AreElements info (all ++ others) laid

pub so_end : (info : List ℕ) (set : ℕ → Bool) (all left : List ClassDescriptor) (laid rest : List (Option Laid))
    → IsSoFar info (methods_for set all) (methods_for set left) laid rest → left ≡ [] → rest ≡ [] → AreElements info (methods_for set all) laid
so_end info set all left laid rest s e r =
    let t : IsSoFar info (methods_for set all) [] laid [] = subst (λ xs. IsSoFar info (methods_for set all) [] laid xs) r
    (subst (λ xs. IsSoFar info (methods_for set all) (methods_for set xs) laid rest) e s) in
    subst (λ xs. AreElements info xs laid) (append-nil (methods_for set all)) (t.each [] tt)

pub none_left : (rest : List (Option Laid)) → length rest ≡ 0 → rest ≡ []
none_left [] e = refl
none_left (l ∷ ls) e = absurd (omega arith)

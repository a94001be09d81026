-- Each numbered method is one that the Descriptor of its package describes.
use Rattle.std.proofs.Common.{◌≡◌, ℕ, suc, ◌+◌, Bool, true, false, cond, List, [], ◌∷◌, ◌++◌, Some, refl, subst, inl}
use Rattle.std.proofs.Common.{inr, arith}
use Rattle.std.specs.Prelude.{All, slice_get}
use Rattle.std.proofs.lemmas.Bool.{false≢true}
use Rattle.std.proofs.lemmas.List.Elements.{All-nil, All-cons, All-append}
use Rattle.cap_desc.specs.DescriptorFormat as described
use Rattle.cap_desc.specs.DescriptorFormat.{MethodDescriptor}
use Rattle.cap_desc.specs.Members.{methods_of, methods_in, methods_but}
use Rattle.cap_package.specs.PackageRecord.{PackageRecord}
use Rattle.jc_resolve.specs.Numbering.{NumberedMethod, numbered_method, methods_of_class}
use Rattle.jc_resolve.specs.Numbering.{methods_of_classes, methods_after, numbered_methods}
use Rattle.jc_resolve.proofs.Faultless.{IsOneOf, one_of_front, one_of_after}

-- ---- the methods of classes

in_rest : {X : Type 0} (b : Bool) (xs ys : List X) (x : X) → IsOneOf ys x → IsOneOf (cond b (xs ++ ys) ys) x
in_rest x xs ys x2 h = grind (arith, one_of_after)

in_later : {X : Type 0} (b : Bool) (xs ys : List X) (x : X) → IsOneOf ys x → IsOneOf (cond b ys (xs ++ ys)) x
in_later x xs ys x2 h = grind (arith, one_of_after)

pub from-any : (cs : List described.ClassDescriptor) (c : described.ClassDescriptor) (m : MethodDescriptor) → IsOneOf cs c → IsOneOf c.methods m
    → IsOneOf (methods_of cs) m
from-any [] c m one h = absurd one
from-any (d ∷ ds) c m (inl same) h = one_of_front d.methods (methods_of ds) m (subst (λ (x : described.ClassDescriptor). IsOneOf x.methods m) same h)
from-any (d ∷ ds) c m (inr one) h = one_of_after d.methods (methods_of ds) m (from-any ds c m one h)

module _ (interfaces : ℕ → Bool) where
  pub from-class : (cs : List described.ClassDescriptor) (c : described.ClassDescriptor) (m : MethodDescriptor) → IsOneOf cs c
      → interfaces c.class_ref ≡ false → IsOneOf c.methods m → IsOneOf (methods_but interfaces cs) m
  from-class [] c m one e h = absurd one
  from-class (d ∷ ds) c m (inl same) e h = grind (arith, false≢true, one_of_front)
  from-class (d ∷ ds) c m (inr one) e h = in_later (interfaces d.class_ref) d.methods (methods_but interfaces ds) m (from-class ds c m one e h)

  pub from-interface : (cs : List described.ClassDescriptor) (c : described.ClassDescriptor) (m : MethodDescriptor) → IsOneOf cs c
      → interfaces c.class_ref ≡ true → IsOneOf c.methods m → IsOneOf (methods_in interfaces cs) m
  from-interface [] c m one e h = absurd one
  from-interface (d ∷ ds) c m (inl same) e h = grind (arith, one_of_front, false≢true)
  from-interface (d ∷ ds) c m (inr one) e h = in_rest (interfaces d.class_ref) d.methods (methods_in interfaces ds) m (from-interface ds c m one e h)

-- ---- numbered methods

-- a method of a class that its package describes
pub record IsDescribed (ps : List PackageRecord) (m : NumberedMethod) : Type 0 where
  pub «package» : slice_get ps m.home ≡ Some m.of_package
  pub class : IsOneOf m.of_package.description.items.classes m.class
  pub method : IsOneOf m.class.methods m.record_of

module _ (ps : List PackageRecord) where
  in_class : (k : ℕ) (p : PackageRecord) (n : ℕ) (c : described.ClassDescriptor) → slice_get ps k ≡ Some p → IsOneOf p.description.items.classes c
      → (i : ℕ) (ms : List MethodDescriptor) → ((m : MethodDescriptor) → IsOneOf ms m → IsOneOf c.methods m)
      → All (IsDescribed ps) (methods_of_class k p n c i ms)
  in_class k p n c at one i [] all = All-nil (IsDescribed ps)
  in_class k p n c at one i (m ∷ ms) all =
      All-cons (IsDescribed ps) (numbered_method k p n c i m) (methods_of_class k p n c (i + 1) ms)
      (record { «package» = at; class = one; method = all m (inl refl) })
      (in_class k p n c at one (i + 1) ms (λ l h. all l (inr h)))

  in_classes : (k : ℕ) (p : PackageRecord) → slice_get ps k ≡ Some p → (n : ℕ) (cs : List described.ClassDescriptor)
      → ((c : described.ClassDescriptor) → IsOneOf cs c → IsOneOf p.description.items.classes c)
      → All (IsDescribed ps) (methods_of_classes k p n cs)
  in_classes k p at n [] all = All-nil (IsDescribed ps)
  in_classes k p at n (c ∷ cs) all =
      All-append (IsDescribed ps) (methods_of_class k p n c 0 c.methods) (methods_of_classes k p (n + 1) cs)
      (in_class k p n c at (all c (inl refl)) 0 c.methods (λ m h. h))
      (in_classes k p at (n + 1) cs (λ d h. all d (inr h)))

  in_packages : (k : ℕ) (qs : List PackageRecord) → ((j : ℕ) (q : PackageRecord) → slice_get qs j ≡ Some q → slice_get ps (k + j) ≡ Some q)
      → All (IsDescribed ps) (methods_after k qs)
  in_packages k [] all = All-nil (IsDescribed ps)
  in_packages k (q ∷ qs) all =
      let here : k + 0 ≡ k = omega arith in
      All-append (IsDescribed ps) (methods_of_classes k q 0 q.description.items.classes) (methods_after (k + 1) qs)
      (in_classes k q (rw here at (all 0 q refl)) 0 q.description.items.classes (λ c h. h))
      (in_packages (k + 1) qs (λ j r e. let next : (k + 1) + j ≡ k + suc j = omega arith in rw next (all (suc j) r e)))

  pub all-described : All (IsDescribed ps) (numbered_methods ps)
  all-described = in_packages 0 ps (λ j q e. let same : 0 + j ≡ j = omega arith in rw same e)

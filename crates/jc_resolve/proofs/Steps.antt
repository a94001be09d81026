-- The lists of classes and methods, package by package and class by class.
use Rattle.std.proofs.Common.{◌≡◌, ℕ, ◌+◌, List, ◌∷◌, ◌++◌, map, append_assoc, arith}
use Rattle.std.proofs.lemmas.List.{map-append}
use Rattle.cap_desc.specs.DescriptorFormat as described
use Rattle.cap_package.specs.PackageRecord.{PackageRecord}
use Rattle.jc_resolve.specs.Numbering.{NumberedClass, NumberedMethod, numbered_classes_of, classes_after}
use Rattle.jc_resolve.specs.Numbering.{methods_of_class, methods_of_classes, methods_after}

module _ {Y : Type 0} (f : NumberedMethod → Y) (ys : List Y) (k : ℕ) (p : PackageRecord) where
  pub classes_step : (n : ℕ) (c : described.ClassDescriptor) (cs : List described.ClassDescriptor) → ys ++ map f (methods_of_classes k p n (c ∷ cs))
      ≡ (ys ++ map f (methods_of_class k p n c 0 c.methods)) ++ map f (methods_of_classes k p (n + 1) cs)
  classes_step n c cs = grind (arith, map-append, append_assoc)

  pub methods_step : (ps : List PackageRecord) → ys ++ map f (methods_after k (p ∷ ps))
      ≡ (ys ++ map f (methods_of_classes k p 0 p.description.items.classes)) ++ map f (methods_after (k + 1) ps)
  methods_step ps = grind (arith, map-append, append_assoc)

pub packages_step : {Y : Type 0} (f : NumberedClass → Y) (ys : List Y) (k : ℕ) (p : PackageRecord) (ps : List PackageRecord)
    → ys ++ map f (classes_after k (p ∷ ps)) ≡ (ys ++ map f (numbered_classes_of k p)) ++ map f (classes_after (k + 1) ps)
packages_step f ys k p ps = grind (arith, map-append, append_assoc)

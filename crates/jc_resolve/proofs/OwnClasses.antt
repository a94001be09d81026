-- The classes that a Descriptor describes are its package's own: no reference has its high bit set.
use Rattle.std.proofs.Common.{◌≡◌, ℕ, ◌<◌, Bool, ◌&&◌, ltb, cond, List, [], ◌∷◌, map, inl, inr, Some, None, refl, arith}
use Rattle.std.proofs.Common.{ap}
use Rattle.std.specs.List.{filter_map}
use Rattle.std.proofs.lemmas.Bool.{ltb-true}
use Rattle.cap_class.specs.ClassFormat as of_class
use Rattle.cap_desc.specs.DescriptorFormat.{ClassDescriptor}
use Rattle.cap_components.specs.declared.fault.PackFault.{PackFault}
use Rattle.cap_components.specs.declared.fault.PackFault.TheVariants.{ClassUndescribed}
use Rattle.cap_package.specs.NameChecks.{not_own_fault, is_class_at}
use Rattle.cap_package.specs.PackageRecord.{PackageRecord}
use Rattle.cap_package.specs.StandsFor.{StandsFor}
use Rattle.cap_package.proofs.StaticsKnown.{three_empty}
use Rattle.jc_resolve.proofs.Faultless.{IsOneOf, faultless}

one_of_map : (cs : List ClassDescriptor) (c : ClassDescriptor) → IsOneOf cs c → IsOneOf (map (λ (d : ClassDescriptor). d.class_ref) cs) c.class_ref
one_of_map [] c one = absurd one
one_of_map (d ∷ ds) c (inl e) = inl (ap (λ (x : ClassDescriptor). x.class_ref) e)
one_of_map (d ∷ ds) c (inr one) = inr (one_of_map ds c one)

below : (n : ℕ) (low there : Bool) (fault : PackFault) → ltb n 0x8000 ≡ low → cond (low && there) None (Some fault) ≡ None → n < 0x8000
below n y there fault e none = grind (arith, ltb-true)

own : (classes : List of_class.Class) (n : ℕ) → not_own_fault classes n ≡ None → n < 0x8000
unfolding not_own_fault
own classes n none = below n (ltb n 0x8000) (is_class_at classes n) (ClassUndescribed n) refl none

module _ (p : PackageRecord) (agreed : StandsFor p.parts p) where
  abbrev references : List ℕ
  references = map (λ (c : ClassDescriptor). c.class_ref) p.description.items.classes

  are_own : filter_map (not_own_fault p.classes) references ≡ []
  are_own = grind (arith, three_empty)

  pub own-reference : (c : ClassDescriptor) → IsOneOf p.description.items.classes c → c.class_ref < 0x8000
  own-reference c one =
      own p.classes c.class_ref (faultless (not_own_fault p.classes) references c.class_ref are_own (one_of_map p.description.items.classes c one))

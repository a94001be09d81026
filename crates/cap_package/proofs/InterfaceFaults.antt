-- The least fault of the methods of interfaces, class by class.
use Rattle.std.proofs.Common.{◌≡◌, ℕ, Bool, true, false, List, ◌∷◌, Option, refl}
use Rattle.std.proofs.lemmas.List.Sums.{fold-append}
use Rattle.cap_desc.specs.DescriptorFormat.{ClassDescriptor, MethodDescriptor}
use Rattle.cap_desc.specs.Members.{methods_in}
use Rattle.cap_components.specs.declared.fault.PackFault.{PackFault}
use Rattle.cap_components.specs.Order.{least_from}

pub least_interface : (fault : MethodDescriptor → Option PackFault) (set : ℕ → Bool) (c : ClassDescriptor) (cs : List ClassDescriptor)
    (before : Option PackFault) → set c.class_ref ≡ true
    → least_from before fault (methods_in set (c ∷ cs)) ≡ least_from (least_from before fault c.methods) fault (methods_in set cs)
least_interface fault set c cs before e = rw e (fold-append _ before c.methods (methods_in set cs))

pub least_class : (fault : MethodDescriptor → Option PackFault) (set : ℕ → Bool) (c : ClassDescriptor) (cs : List ClassDescriptor)
    (before : Option PackFault) → set c.class_ref ≡ false
    → least_from before fault (methods_in set (c ∷ cs)) ≡ least_from before fault (methods_in set cs)
least_class fault set c cs before e = rw e refl

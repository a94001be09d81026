-- The fault of a class whose record was searched for.
use Rattle.std.proofs.Common.{arith}
use Rattle.std.proofs.Common.{◌≡◌, ℕ, List, Option}
use Rattle.cap_class.specs.ClassFormat.{Class}
use Rattle.cap_desc.specs.DescriptorFormat as described
use Rattle.cap_components.specs.Descriptions.{Description}
use Rattle.cap_components.specs.declared.fault.PackFault.{PackFault}
use Rattle.cap_package.specs.ClassSearch.{record_at}
use Rattle.cap_package.specs.CountChecks.{instance_by, instance_fault}

pub fault_found : (all : List Class) (d : Description) (c : described.ClassDescriptor) (reference : ℕ) (entry : Option Class) (fault : Option PackFault)
    → reference ≡ c.class_ref → entry ≡ record_at reference all → fault ≡ instance_by d c entry → fault ≡ instance_fault all d c
unfolding instance_fault
fault_found all d c reference entry fault same found is = grind (arith)

-- The records of a Descriptor by the offsets of their classes (JCVM 2.2, sections 6.8 and 6.13).
use Rattle.std.specs.Prelude.{◌≡◌, ℕ, Bool, List, [], ◌∷◌, Option, Some, count_by, ◌==◌}
use Rattle.cap_class.specs.ClassFormat.{Class}
use Rattle.cap_desc.specs.DescriptorFormat as described
use Rattle.jc_resolve.specs.declared.fault.RecordPlace.{RecordPlace}

-- a record describes the class at an offset
abbrev pub describes_at : ℕ → described.ClassDescriptor → Bool
describes_at offset d = d.class_ref == offset

-- one of the records describes a class
abbrev pub IsDescribedOnce : List described.ClassDescriptor → Class → Type 0
IsDescribedOnce ds c = count_by (describes_at c.offset) ds ≡ 1

-- each of some classes is
abbrev pub AreDescribedOnce : List described.ClassDescriptor → List Class → Type 0
AreDescribedOnce ds [] = Unit {0}
AreDescribedOnce ds (c ∷ cs) = IsDescribedOnce ds c × AreDescribedOnce ds cs

-- ---- records that are numbered, by the offsets of their classes; one package stands for itself

abbrev pub place_at : ℕ → RecordPlace
place_at offset = record { «package» = 0; offset = offset }

abbrev pub spot_of_record : described.ClassDescriptor → Option RecordPlace
spot_of_record d = Some (place_at d.class_ref)

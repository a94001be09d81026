-- The methods of a package's classes before and after they are written anew. A method is named by its position in the
-- Descriptor, since its offset changes.
use Rattle.std.specs.Prelude.{◌+◌, ℕ, Bool, List, [], ◌∷◌, ◌++◌, length, take, drop, find, Option, Some, None, ◌==◌}
use Rattle.std.specs.Prelude.{if◌then◌else◌}
use Rattle.cap_desc.specs.DescriptorFormat.{MethodDescriptor, ClassDescriptor}
use Rattle.cap_components.specs.PackageRecord.{PackageRecord, described_methods, names_interface}
use Rattle.jc_decode.specs.declared.symbols.Laid.{Laid}

-- a method as it was: its position among the methods of classes, its record in the Descriptor, and the code that is laid for
-- it, if any
pub record FormerMethod : Type 0 where
  pub number : ℕ
  pub method : MethodDescriptor
  pub laid : Option Laid

-- the same, with its record as it is now
pub record Change : Type 0 where
  pub source : FormerMethod
  pub now : MethodDescriptor

-- ---- the code that is laid, one element for each method of the Descriptor

-- the elements for the methods of the classes whose references are not in a set
abbrev pub laid_but : (ℕ → Bool) → List ClassDescriptor → List (Option Laid) → List (Option Laid)
laid_but set [] laid = []
laid_but set (c ∷ cs) laid = if set c.class_ref then laid_but set cs (drop (length c.methods) laid)
    else take (length c.methods) laid ++ laid_but set cs (drop (length c.methods) laid)

abbrev pub sources_from : ℕ → List MethodDescriptor → List (Option Laid) → List FormerMethod
sources_from number [] laid = []
sources_from number (m ∷ ms) [] = []
sources_from number (m ∷ ms) (l ∷ ls) = record { number = number; method = m; laid = l } ∷ sources_from (number + 1) ms ls

-- the methods of the classes of a package
abbrev pub sources : PackageRecord → List (Option Laid) → List FormerMethod
sources p laid = sources_from 0 (described_methods p) (laid_but (names_interface p.classes) p.description.items.classes laid)

-- ---- before and after

abbrev pub changes_of : List FormerMethod → List MethodDescriptor → List Change
changes_of [] ms = []
changes_of (s ∷ ss) [] = []
changes_of (s ∷ ss) (m ∷ ms) = record { source = s; now = m } ∷ changes_of ss ms

-- each method of the classes of p, with that of q at the same position
abbrev pub changes : PackageRecord → List (Option Laid) → PackageRecord → List Change
changes p laid q = changes_of (sources p laid) (described_methods q)

abbrev pub stood_at : ℕ → Change → Bool
stood_at offset c = c.source.method.method_offset == offset

abbrev pub offset_by : ℕ → Option Change → ℕ
offset_by offset None = offset
offset_by offset (Some c) = c.now.method_offset

-- where the method stands now that stood at an offset; an offset at which none stood stays
unfoldable pub now_at : List Change → ℕ → ℕ
now_at changes offset = offset_by offset (find (stood_at offset) changes)

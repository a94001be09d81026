-- Methods are named by their positions among the methods of classes in the Descriptor.
use Rattle.std.specs.Prelude.{◌≡◌, ℕ, List, Option, Some, slice_get}
use Rattle.cap_desc.specs.DescriptorFormat.{MethodDescriptor}
use Rattle.cap_components.specs.Parts.{Lent}
use Rattle.cap_components.specs.PackageRecord.{PackageRecord, described_methods}
use Rattle.cap_package.specs.StandsFor.{StandsFor}
use Rattle.jc_decode.specs.declared.symbols.Laid.{Laid}
use Rattle.law_package.specs.Changes.{changes, now_at}
use Rattle.law_package.specs.Rewritten.{IsRewritten}

-- the method at a position stands at an offset
pub record Names (p : PackageRecord) (offset position : ℕ) : Type 0 where
  pub method : MethodDescriptor
  pub there : slice_get (described_methods p) position ≡ Some method
  pub stands : method.method_offset ≡ offset

-- an offset that named a method names the one at the same position when it is renewed
abbrev pub NamesStay : Type 0
NamesStay = (parts : List Lent) (p q : PackageRecord) (laid : List (Option Laid)) → StandsFor parts p → IsRewritten p laid q
    → (offset position : ℕ) → Names p offset position → Names q (now_at (changes p laid q) offset) position

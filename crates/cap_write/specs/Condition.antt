-- What is asked of the code that a package is written with.
use Rattle.std.specs.Prelude.{◌≡◌, ◌≤◌, ◌+◌, ℕ, Bool, List, [], ◌∷◌, ◌++◌, length, map, Option, Some, None}
use Rattle.std.specs.Prelude.{if◌then◌else◌}
use Rattle.cap_method.specs.MethodFormat.{Header}
use Rattle.cap_desc.specs.DescriptorFormat.{MethodDescriptor, ClassDescriptor}
use Rattle.cap_components.specs.PackageRecord.{PackageRecord, names_interface}
use Rattle.cap_package.specs.HeaderChecks.{header_in}
use Rattle.jc_decode.specs.declared.symbols.Laid.{Laid}
use Rattle.law_package.specs.Laying.{IsFor}

abbrev pub handler_sum : List (Option Laid) → ℕ
handler_sum [] = 0
handler_sum (None ∷ ls) = handler_sum ls
handler_sum (Some l ∷ ls) = length l.handlers + handler_sum ls

-- ---- an element for each method record

-- the method records of classes in order; of a class that is an interface nothing is asked but their number
abbrev pub no_method : MethodDescriptor → Option MethodDescriptor
no_method m = None

abbrev pub methods_for : (ℕ → Bool) → List ClassDescriptor → List (Option MethodDescriptor)
methods_for interfaces [] = []
methods_for interfaces (c ∷ cs) =
    (if interfaces c.class_ref then map no_method c.methods else map Some c.methods) ++ methods_for interfaces cs

-- the element of a method: of a class, what may be laid under its header; of an interface, None
abbrev pub IsElement : List ℕ → Option MethodDescriptor → Option Laid → Type 0
IsElement info None None = Unit {0}
IsElement info None (Some l) = ⊥
IsElement info (Some m) l = (h : Header) → header_in info m.method_offset ≡ Some h → IsFor h l

abbrev pub AreElements : List ℕ → List (Option MethodDescriptor) → List (Option Laid) → Type 0
AreElements info [] [] = Unit {0}
AreElements info [] (l ∷ ls) = ⊥
AreElements info (m ∷ ms) [] = ⊥
AreElements info (m ∷ ms) (l ∷ ls) = IsElement info m l × AreElements info ms ls

-- the list has an element for each method record of the Descriptor, in order, and all together have at most 255 handlers
pub record MayBeLaid (p : PackageRecord) (laid : List (Option Laid)) : Type 0 where
  pub elements : AreElements p.methods.info (methods_for (names_interface p.classes) p.description.items.classes) laid
  pub few : handler_sum laid ≤ 255

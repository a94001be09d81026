-- Which code may be laid for the methods of a package.
use Rattle.std.specs.Prelude.{◌≡◌, ◌≤◌, ◌+◌, true, List, length, All, Option, Some, None}
use Rattle.cap_method.specs.MethodFormat.{Header}
use Rattle.cap_components.specs.PackageRecord.{PackageRecord}
use Rattle.cap_package.specs.HeaderChecks.{header_in, is_abstract}
use Rattle.cap_laying.specs.HandlerTable.{AreInside}
use Rattle.jc_decode.specs.declared.symbols.Laid.{Laid}
use Rattle.law_package.specs.Changes.{FormerMethod, sources}

-- code of a method: of 1 to 32,767 bytes, with the method's arguments and at most 255 registers, and handlers that lie in it
pub record IsCodeFor (h : Header) (laid : Laid) : Type 0 where
  pub some : 1 ≤ length laid.code
  pub short : length laid.code ≤ 32767
  pub arguments : laid.nargs ≡ h.nargs
  pub registers : laid.nargs + laid.max_locals ≤ 255
  pub inside : AreInside (length laid.code) laid.handlers

-- where there is none, the method is abstract
abbrev pub IsFor : Header → Option Laid → Type 0
IsFor h None = is_abstract h ≡ true
IsFor h (Some laid) = IsCodeFor h laid

abbrev pub FitsHeader : PackageRecord → FormerMethod → Type 0
FitsHeader p s = (h : Header) → header_in p.methods.info s.method.method_offset ≡ Some h → IsFor h s.laid

abbrev pub AreLaidFor : PackageRecord → List (Option Laid) → Type 0
AreLaidFor p laid = All (FitsHeader p) (sources p laid)

-- The target index that is written with a package, in the world that the package makes (JCVM 2.2, section 6.1.2; Leroy 2002,
-- section 3).
use Rattle.std.specs.Prelude.{◌≡◌, ◌<◌, ◌≤◌, ℕ, false, List, [], ◌∷◌, length, Option, Some, None}
use Rattle.cap_package.specs.PackageRecord.{PackageRecord}
use Rattle.cap_package.specs.Parts.{Lent}
use Rattle.cap_package.specs.StandsFor.{StandsFor}
use Rattle.cap_index.specs.TargetIndex.{IsIndexOf}
use Rattle.cap_write.specs.NewIndex.{keeps_index}
use Rattle.cap_write.specs.WrittenPackage.{IsWritten}
use Rattle.jc_base.specs.declared.record.MethodRec.{MethodRec}
use Rattle.jc_base.specs.World.{Linked}
use Rattle.jc_control.specs.Asked.{AllHave, IsOfLast}
use Rattle.jc_control.specs.ExactIndex.{HasExactIndex}
use Rattle.jc_decode.specs.declared.symbols.Laid.{Laid}
use Rattle.jc_link.specs.World.{IsLinked}
use Rattle.law_package.specs.Rewritten.{IsRewritten}
use Rattle.law_relink.specs.Last.{and_last}
use Rattle.law_relink.specs.Replaced.{AreMethodsOf}

-- ---- before

-- the code is laid for a method with code, and has 1 to 32,767 bytes
pub record IsNewCode (r : MethodRec) (laid : Laid) : Type 0 where
  pub filled : 0 < r.code_len
  pub some : 1 ≤ length laid.code
  pub short : length laid.code ≤ 32767

-- each of the methods has an element, in order, and what is laid is so
abbrev pub AreNewCodes : List MethodRec → List (Option Laid) → Type 0
AreNewCodes [] [] = Unit {0}
AreNewCodes [] (l ∷ ls) = ⊥
AreNewCodes (r ∷ rs) [] = ⊥
AreNewCodes (r ∷ rs) (None ∷ ls) = AreNewCodes rs ls
AreNewCodes (r ∷ rs) (Some l ∷ ls) = IsNewCode r l × AreNewCodes rs ls

-- a target index is written with the package: no other component has its tag, and its info is not too long
pub record HasRoomForIndex (p : PackageRecord) (laid : List (Option Laid)) : Type 0 where
  pub free : keeps_index p ≡ false
  pub short : ¬ (IsIndexOf laid None)

-- ---- after

-- each method with code of the last package has the exact target index of its code
abbrev pub HaveExactIndexes : Linked → Type 0
HaveExactIndexes w = AllHave (IsOfLast w) (HasExactIndex w)

-- so it is in the world that packages make of which the last is written with other code and a target index
abbrev pub WrittenIndexIsExact : Type 0
WrittenIndexIsExact =
    (parts new_parts : List Lent) (ps : List PackageRecord) (p q : PackageRecord) (laid : List (Option Laid)) (roles : List ℕ)
    (w new : Linked) (before own : List MethodRec)
    → StandsFor parts p
    → StandsFor new_parts q
    → IsRewritten p laid q
    → IsWritten p laid new_parts
    → IsLinked (and_last ps p) roles w
    → IsLinked (and_last ps q) roles new
    → AreMethodsOf w before own
    → AreNewCodes own laid
    → HasRoomForIndex p laid
    → HaveExactIndexes new

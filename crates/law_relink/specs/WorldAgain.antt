-- Packages of which the last one is written with other code make a world again.
use Rattle.std.specs.Prelude.{ℕ, List, Option}
use Rattle.cap_package.specs.PackageRecord.{PackageRecord}
use Rattle.cap_package.specs.Parts.{Lent}
use Rattle.cap_package.specs.StandsFor.{StandsFor}
use Rattle.jc_base.specs.declared.record.MethodRec.{MethodRec}
use Rattle.jc_base.specs.World.{Linked}
use Rattle.jc_decode.specs.declared.symbols.Laid.{Laid}
use Rattle.jc_link.specs.World.{IsLinked}
use Rattle.law_package.specs.Rewritten.{IsRewritten}
use Rattle.law_relink.specs.Last.{and_last}
use Rattle.law_laid.specs.Apart.{IsSameBut}
use Rattle.law_relink.specs.Replaced.{AreMethodsOf, EachMayReplace, MethodsAreReplaced}

-- the packages with a last one that is written anew make a world too, which is the former one but for code
pub record LinksAgain (ps : List PackageRecord) (q : PackageRecord) (roles : List ℕ) (w : Linked) : Type 0 where
  pub world : Linked
  pub linked : IsLinked (and_last ps q) roles world
  pub same : IsSameBut w world

abbrev pub LinkAgain : Type 0
LinkAgain =
    (parts new_parts : List Lent) (ps : List PackageRecord) (p q : PackageRecord) (laid : List (Option Laid)) (roles : List ℕ)
    (w : Linked) (before own : List MethodRec)
    → StandsFor parts p
    → StandsFor new_parts q
    → IsRewritten p laid q
    → IsLinked (and_last ps p) roles w
    → AreMethodsOf w before own
    → EachMayReplace own laid
    → LinksAgain ps q roles w

-- in that world each method has what is laid for it, and those of the other packages are as they were
abbrev pub LaidMethodsStand : Type 0
LaidMethodsStand =
    (parts new_parts : List Lent) (ps : List PackageRecord) (p q : PackageRecord) (laid : List (Option Laid)) (roles : List ℕ)
    (w new : Linked) (before own : List MethodRec)
    → StandsFor parts p
    → StandsFor new_parts q
    → IsRewritten p laid q
    → IsLinked (and_last ps p) roles w
    → IsLinked (and_last ps q) roles new
    → AreMethodsOf w before own
    → EachMayReplace own laid
    → MethodsAreReplaced before own laid w new

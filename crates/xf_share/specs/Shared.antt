-- A package whose methods share registers (Chaitin 1982; Leroy 2002, section 4).
use Rattle.std.specs.Prelude.{◌≡◌, ℕ, List, Option}
use Rattle.cap_package.specs.PackageRecord.{PackageRecord}
use Rattle.cap_package.specs.Parts.{Lent}
use Rattle.cap_package.specs.StandsFor.{StandsFor}
use Rattle.law_package.specs.Rewritten.{IsRewritten}
use Rattle.cap_write.specs.WrittenPackage.{IsWritten}
use Rattle.card_verify.specs.Counting.{IsByIndex}
use Rattle.jc_base.specs.World.{Linked}
use Rattle.jc_control.specs.Asked.{AllHave, IsOfLast}
use Rattle.jc_decode.specs.declared.symbols.Laid.{Laid}
use Rattle.jc_link.specs.World.{IsLinked}
use Rattle.law_index.specs.WrittenIndex.{HasRoomForIndex}
use Rattle.law_laid.specs.Apart.{IsSameBut}
use Rattle.law_relink.specs.Last.{and_last}
use Rattle.law_share.specs.Laws.{EndInStep}
use Rattle.law_shared_world.specs.Laws.{HaveNoMore}
use Rattle.law_shared_world.specs.SharedCode.{AreSharedOf, laid_locals, locals_of_last}
use Rattle.xf_share.specs.declared.fewer.Fewer.{Fewer}
use Rattle.xf_share.specs.Ends.{HaveCardTypings}

-- Each method with code has a card typing. The parts stand for a package that makes a world with the libraries, in which each method
-- with code has a card typing too and no more registers, and in which every run ends in step with that of the former world.
pub record KeepsRuns (packages : List PackageRecord) (roles : List ℕ) (w : Linked) (parts : List Lent) : Type 0 where
  pub accepted : HaveCardTypings w
  pub libraries : List PackageRecord
  pub source : PackageRecord
  pub are : packages ≡ and_last libraries source
  pub made : PackageRecord
  pub stands : StandsFor parts made
  pub world : Linked
  pub linked : IsLinked (and_last libraries made) roles world
  pub carded : HaveCardTypings world
  pub no_more : HaveNoMore w world
  pub in_step : EndInStep w world

-- The methods of the package are written anew with what is laid for them, and every other file is kept but for what tells of methods. So
-- the package that is made is the source with this code, and the new world the former one but for its code. Where it has room for a target
-- index, each of its methods with code has one, over which a card typing exists.
pub record IsSharedAnew (source made : PackageRecord) (w new : Linked) (parts : List Lent) : Type 0 where
  pub laid : List (Option Laid)
  pub code : AreSharedOf w laid
  pub written : IsWritten source laid parts
  pub rewritten : IsRewritten source laid made
  pub same : IsSameBut w new
  pub counted : locals_of_last new ≡ laid_locals laid
  pub served : HasRoomForIndex source laid → AllHave (IsOfLast new) (λ m. IsByIndex new m.number)

-- the parts keep the runs of the last package, and are written so
pub record IsShared (packages : List PackageRecord) (roles : List ℕ) (w : Linked) (parts : List Lent) : Type 0 where
  pub keeps : KeepsRuns packages roles w parts
  pub anew : IsSharedAnew keeps.source keeps.made w keeps.world parts

-- these parts, and how many registers the methods with code of the last package have beside their arguments, before and after
pub record IsSharedFrom (packages : List PackageRecord) (roles : List ℕ) (w : Linked) (fewer : Fewer) : Type 0 where
  pub shared : IsShared packages roles w fewer.parts
  pub before : fewer.before ≡ locals_of_last w
  pub after : fewer.after ≡ locals_of_last shared.keeps.world

-- so of the world that the packages make with the roles
pub record AreShared (packages : List PackageRecord) (roles : List ℕ) (parts : List Lent) : Type 0 where
  pub world : Linked
  pub linked : IsLinked packages roles world
  pub shared : IsShared packages roles world parts

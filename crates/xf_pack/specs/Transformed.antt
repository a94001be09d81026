-- A package in the form that a verifier on the card accepts (Leroy 2002, section 4).
use Rattle.std.specs.Prelude.{◌≡◌, ℕ, List, Option}
use Rattle.cap_package.specs.PackageRecord.{PackageRecord}
use Rattle.cap_package.specs.Parts.{Lent}
use Rattle.cap_package.specs.StandsFor.{StandsFor}
use Rattle.law_package.specs.Rewritten.{IsRewritten}
use Rattle.cap_write.specs.WrittenPackage.{IsWritten}
use Rattle.card_typing.specs.Typing.{HasCardTyping}
use Rattle.card_verify.specs.Counting.{IsByIndex}
use Rattle.jc_base.specs.World.{Linked}
use Rattle.jc_control.specs.Asked.{AllHave, IsOfLast}
use Rattle.jc_control.specs.Method.{IsMethodOf}
use Rattle.jc_decode.specs.declared.symbols.Laid.{Laid}
use Rattle.jc_link.specs.World.{IsLinked}
use Rattle.law_index.specs.WrittenIndex.{HasRoomForIndex}
use Rattle.law_relink.specs.Last.{and_last}
use Rattle.law_alike.specs.Ends.{EndsAlike}
use Rattle.law_laid.specs.Apart.{IsSameBut}
use Rattle.law_transform.specs.Laid.{AreLaidOf}
use Rattle.xf_pack.specs.Ends.{AreAcceptedLibraries, IsTypedLast}

-- The libraries are accepted, and the last package has its typings. The parts stand for a package that makes a world with the
-- libraries, in which each method with code has a card typing, and every run ends as it does in the former world.
pub record KeepsBehaviour (packages : List PackageRecord) (roles : List ℕ) (w : Linked) (parts : List Lent) : Type 0 where
  pub accepted : AreAcceptedLibraries w
  pub typed : IsTypedLast w
  pub libraries : List PackageRecord
  pub source : PackageRecord
  pub are : packages ≡ and_last libraries source
  pub made : PackageRecord
  pub stands : StandsFor parts made
  pub world : Linked
  pub linked : IsLinked (and_last libraries made) roles world
  pub carded : AllHave (IsMethodOf world) (HasCardTyping world)
  pub alike : EndsAlike w world

-- The methods of the package are written anew with what is laid for them, and every other file is kept but for what tells of
-- methods. So the package that is made is the source with this code, and the new world the former one but for its code. Where
-- it has room for a target index, each of its methods with code has one, over which a card typing exists.
pub record IsWrittenAnew (source made : PackageRecord) (w new : Linked) (parts : List Lent) : Type 0 where
  pub laid : List (Option Laid)
  pub code : AreLaidOf w laid
  pub written : IsWritten source laid parts
  pub rewritten : IsRewritten source laid made
  pub same : IsSameBut w new
  pub served : HasRoomForIndex source laid → AllHave (IsOfLast new) (λ m. IsByIndex new m.number)

-- the parts keep the behaviour of the last package, and are written so
pub record IsTransformed (packages : List PackageRecord) (roles : List ℕ) (w : Linked) (parts : List Lent) : Type 0 where
  pub keeps : KeepsBehaviour packages roles w parts
  pub anew : IsWrittenAnew keeps.source keeps.made w keeps.world parts

-- the same of the world that the packages make with the roles
pub record AreTransformed (packages : List PackageRecord) (roles : List ℕ) (parts : List Lent) : Type 0 where
  pub world : Linked
  pub linked : IsLinked packages roles world
  pub transformed : IsTransformed packages roles world parts

-- Why a package is not transformed.
use Rattle.std.specs.Prelude.{◌≡◌, ◌≢◌, ℕ, List, Option}
use Rattle.cap_package.specs.PackageRecord.{PackageRecord}
use Rattle.cap_write.specs.WrittenPackage.{IsPartTooLong}
use Rattle.card_typing.specs.declared.fault.CardFault.{CardFault}
use Rattle.card_typing.specs.Refusal.{IsRefused}
use Rattle.card_typing.specs.Typing.{HasCardTyping}
use Rattle.first_fault.specs.First.{IsFirst}
use Rattle.jc_base.specs.declared.ty.Ty.TheVariants.{Top}
use Rattle.jc_base.specs.World.{Linked}
use Rattle.jc_control.specs.Asked.{AllHave, AllHaveBelow, IsFirstWithout, IsOfLast, IsOfLibrary}
use Rattle.jc_control.specs.Method.{Method}
use Rattle.jc_decode.specs.declared.symbols.Laid.{Laid}
use Rattle.jc_flow.specs.declared.inference.FlowEnd.{FlowEnd}
use Rattle.jc_flow.specs.declared.inference.FlowEnd.TheVariants as flow
use Rattle.jc_flow.specs.Infer.{TellsEnd}
use Rattle.jc_link.specs.Fault.{link_place}
use Rattle.jc_link.specs.World.{IsLinked, conditions}
use Rattle.law_relink.specs.Last.{and_last}
use Rattle.jc_rules.specs.Demand.{Frame}
use Rattle.jc_rules.specs.Flow.{HasFlowTyping}
use Rattle.law_transform.specs.Laid.{AreLaidOf, HasLaidCode}
use Rattle.xf_pack.specs.declared.transforming.MethodLimit.{MethodLimit}
use Rattle.xf_pack.specs.declared.transforming.TransformEnd.{TransformEnd}
use Rattle.xf_pack.specs.declared.transforming.TransformEnd.TheVariants.{Link, Library, Typing, Limit, PartLong, Memory}
use Rattle.xf_pack.specs.Limits.{PassesLimit}

-- each method with code of the libraries has a card typing
abbrev pub AreAcceptedLibraries : Linked → Type 0
AreAcceptedLibraries w = AllHave (IsOfLibrary w) (HasCardTyping w)

-- each method with code of the last package has a dataflow typing in which each register that is no argument starts as Top
abbrev pub IsTypedLast : Linked → Type 0
IsTypedLast w = AllHave (IsOfLast w) (λ m. HasFlowTyping w m Top)

-- the method of this number is the first with code of a library that has no card typing, and is refused so
pub record IsRefusedLibrary (w : Linked) (number : ℕ) (fault : CardFault) : Type 0 where
  pub method : Method
  pub numbered : method.number ≡ number
  pub first : IsFirstWithout (IsOfLibrary w) (HasCardTyping w) method
  pub kept : Frame
  pub refused : IsRefused w method fault kept

-- the libraries are accepted, and the method of this number is the first of the last package without a typing, for this reason
pub record IsUntypedLast (w : Linked) (number : ℕ) (end : FlowEnd) : Type 0 where
  pub libraries : AreAcceptedLibraries w
  pub method : Method
  pub numbered : method.number ≡ number
  pub first : IsFirstWithout (IsOfLast w) (λ m. HasFlowTyping w m Top) method
  pub known : end ≢ flow.Memory
  pub tells : TellsEnd w method end

-- the last package has its typings too, and the method of this number is the first that passes a limit
pub record IsLimited (w : Linked) (number : ℕ) (limit : MethodLimit) : Type 0 where
  pub libraries : AreAcceptedLibraries w
  pub typed : IsTypedLast w
  pub method : Method
  pub numbered : method.number ≡ number
  pub of_last : IsOfLast w method
  pub earlier : AllHaveBelow (IsOfLast w) (HasLaidCode w) number
  pub passes : PassesLimit w method limit

-- no method passes a limit, and the Method component of the last package would be too long with what is laid for them
pub record IsPartLong (packages : List PackageRecord) (w : Linked) (n : ℕ) : Type 0 where
  pub libraries : AreAcceptedLibraries w
  pub typed : IsTypedLast w
  pub earlier : List PackageRecord
  pub source : PackageRecord
  pub are : packages ≡ and_last earlier source
  pub laid : List (Option Laid)
  pub code : AreLaidOf w laid
  pub long : IsPartTooLong source laid n

-- the ends where the packages make a world; where the libraries are not accepted, that is told, and memory plays no part
abbrev pub TellsOf : List PackageRecord → Linked → TransformEnd → Type 0
TellsOf packages w (Link fault) = ⊥
TellsOf packages w (Library method fault) = IsRefusedLibrary w method fault
TellsOf packages w (Typing method end) = IsUntypedLast w method end
TellsOf packages w (Limit method limit) = IsLimited w method limit
TellsOf packages w (PartLong n) = IsPartLong packages w n
TellsOf packages w Memory = AreAcceptedLibraries w

-- they make one, of which the end tells
pub record TellsLinked (packages : List PackageRecord) (roles : List ℕ) (end : TransformEnd) : Type 0 where
  pub world : Linked
  pub linked : IsLinked packages roles world
  pub tells : TellsOf packages world end

-- the first thing that fails, in this order: linking, the methods of the libraries, the typings of the last package, the limits of its
-- methods, and that of its Method component
abbrev pub TellsTransform : List PackageRecord → List ℕ → TransformEnd → Type 0
TellsTransform packages roles (Link fault) = IsFirst link_place (conditions packages roles) fault
TellsTransform packages roles (Library method fault) = TellsLinked packages roles (Library method fault)
TellsTransform packages roles (Typing method end) = TellsLinked packages roles (Typing method end)
TellsTransform packages roles (Limit method limit) = TellsLinked packages roles (Limit method limit)
TellsTransform packages roles (PartLong n) = TellsLinked packages roles (PartLong n)
TellsTransform packages roles Memory = Unit {0}

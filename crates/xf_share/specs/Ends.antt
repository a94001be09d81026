-- Why the registers of a package are not shared.
use Rattle.std.specs.Prelude.{◌≡◌, ℕ, List, Option}
use Rattle.cap_package.specs.PackageRecord.{PackageRecord}
use Rattle.cap_write.specs.WrittenPackage.{IsPartTooLong}
use Rattle.card_typing.specs.declared.fault.CardFault.{CardFault}
use Rattle.card_typing.specs.Refusal.{IsRefused}
use Rattle.card_typing.specs.Typing.{HasCardTyping}
use Rattle.first_fault.specs.First.{IsFirst}
use Rattle.jc_base.specs.World.{Linked}
use Rattle.jc_control.specs.Asked.{AllHave, AllHaveBelow, IsFirstWithout, IsOfLast}
use Rattle.jc_control.specs.Method.{Method, IsMethodOf}
use Rattle.jc_decode.specs.Symbols.{plain_size}
use Rattle.jc_decode.specs.declared.symbols.Laid.{Laid}
use Rattle.jc_link.specs.Fault.{link_place}
use Rattle.jc_link.specs.World.{IsLinked, conditions}
use Rattle.jc_rules.specs.Demand.{Frame}
use Rattle.law_relink.specs.Last.{and_last}
use Rattle.law_renumbered.specs.Numbers.{AreNumbersOf}
use Rattle.law_renumbered.specs.Symbols.{renumbered_method}
use Rattle.law_shared_world.specs.SharedCode.{AreSharedOf, HasSharedCode}
use Rattle.xf_layout.specs.Shortest.{ReachesTooFar}
use Rattle.xf_share.specs.declared.sharing.ShareEnd.{ShareEnd}
use Rattle.xf_share.specs.declared.sharing.ShareEnd.TheVariants.{Link, Refused, MethodLong, PartLong, Memory}

-- each method with code has a card typing
abbrev pub HaveCardTypings : Linked → Type 0
HaveCardTypings w = AllHave (IsMethodOf w) (HasCardTyping w)

-- the method of this number is the first with code that has no card typing, and is refused so
pub record IsRefusedFirst (w : Linked) (number : ℕ) (fault : CardFault) : Type 0 where
  pub method : Method
  pub numbered : method.number ≡ number
  pub first : IsFirstWithout (IsMethodOf w) (HasCardTyping w) method
  pub kept : Frame
  pub refused : IsRefused w method fault kept

-- all methods are accepted, and the method of this number is the first of the last package whose code with shared registers is longer
-- than code of a method may be, in its shortest bytes; the number told is its plain size
pub record IsSharedTooLong (w : Linked) (number n : ℕ) : Type 0 where
  pub accepted : HaveCardTypings w
  pub method : Method
  pub numbered : method.number ≡ number
  pub of_last : IsOfLast w method
  pub earlier : AllHaveBelow (IsOfLast w) (HasSharedCode w) number
  pub reg : ℕ → ℕ
  pub locals : ℕ
  pub numbers : AreNumbersOf w method reg locals
  pub long : ReachesTooFar (renumbered_method method reg locals).items
  pub size : n ≡ plain_size (renumbered_method method reg locals).items

-- no method is too long, and the Method component of the last package would be with what is laid for them
pub record IsSharedPartLong (packages : List PackageRecord) (w : Linked) (n : ℕ) : Type 0 where
  pub accepted : HaveCardTypings w
  pub earlier : List PackageRecord
  pub source : PackageRecord
  pub are : packages ≡ and_last earlier source
  pub laid : List (Option Laid)
  pub code : AreSharedOf w laid
  pub long : IsPartTooLong source laid n

-- the ends where the packages make a world; memory plays no part where a method is refused
abbrev pub TellsOf : List PackageRecord → Linked → ShareEnd → Type 0
TellsOf packages w (Link fault) = ⊥
TellsOf packages w (Refused method fault) = IsRefusedFirst w method fault
TellsOf packages w (MethodLong method n) = IsSharedTooLong w method n
TellsOf packages w (PartLong n) = IsSharedPartLong packages w n
TellsOf packages w Memory = HaveCardTypings w

-- they make one, of which the end tells
pub record TellsLinked (packages : List PackageRecord) (roles : List ℕ) (end : ShareEnd) : Type 0 where
  pub world : Linked
  pub linked : IsLinked packages roles world
  pub tells : TellsOf packages world end

-- the first thing that fails, in this order: linking, the methods, the length of the last package's methods, and that of its Method
-- component
abbrev pub TellsShare : List PackageRecord → List ℕ → ShareEnd → Type 0
TellsShare packages roles (Link fault) = IsFirst link_place (conditions packages roles) fault
TellsShare packages roles (Refused method fault) = TellsLinked packages roles (Refused method fault)
TellsShare packages roles (MethodLong method n) = TellsLinked packages roles (MethodLong method n)
TellsShare packages roles (PartLong n) = TellsLinked packages roles (PartLong n)
TellsShare packages roles Memory = Unit {0}

-- Typings of methods stay typings when packages are added.
use Rattle.std.specs.Prelude.{ℕ, ◌<◌, List, ◌++◌, length, All, Option}
use Rattle.cap_package.specs.PackageRecord.{PackageRecord}
use Rattle.jc_base.specs.declared.ty.Ty.{Ty}
use Rattle.jc_base.specs.World.{Linked}
use Rattle.jc_control.specs.Method.{Method, IsMethodOf}
use Rattle.jc_resolve.specs.Named.{IsAgreed}
use Rattle.jc_rules.specs.Demand.{Frame}
use Rattle.jc_rules.specs.Flow.{FlowTyping}
use Rattle.card_typing.specs.Typing.{CardTyping}
use Rattle.jc_link.specs.World.{IsLinked}

-- each method with code of the first world is one of the second, and has there the typings that it had: those of the dataflow, whatever
-- type an unset register has, and those of the card
pub record KeepsTypings (v w : Linked) : Type 0 where
  pub methods : (m : Method) → IsMethodOf v m → IsMethodOf w m
  pub flow : (m : Method) (unset : Ty) (frames : ℕ → Option Frame) → FlowTyping v m unset frames → FlowTyping w m unset frames
  pub card : (m : Method) (regs : List Ty) (stacks : ℕ → List Ty) → CardTyping v m regs stacks → CardTyping w m regs stacks

-- where packages make a world, and make another one with more packages after them, the other one keeps the typings of the first
abbrev pub TypingsStay : Type 0
TypingsStay =
    (ps qs : List PackageRecord) (roles : List ℕ) (v w : Linked)
    → 0 < length roles
    → All IsAgreed (ps ++ qs)
    → IsLinked ps roles v
    → IsLinked (ps ++ qs) roles w
    → KeepsTypings v w

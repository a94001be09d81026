-- What is answered of a method's registers.
use Rattle.std.proofs.Common.{◌≡◌, ℕ, ◌+◌, ◌≤◌, List, length, drop, arith, All}
use Rattle.jc_base.specs.declared.ty.Ty.{Ty}
use Rattle.jc_base.specs.World.{Linked, IsWorld}
use Rattle.jc_control.specs.Method.{Method, IsMethodOf}
use Rattle.card_typing.specs.Typing.{IsLeastCardTyping}
use Rattle.law_share.specs.Sharing.{KeepsRegisters, end_of}
use Rattle.xf_allot.specs.declared.allotting.Allotment.{Allotment}
use Rattle.xf_allot.specs.Allotting.{AreAllottedBy, LiesBefore, given_of}
use Rattle.xf_allot.specs.Sharing.{Shares}
use Rattle.xf_allot.specs.Variable.{HasNone}
use Rattle.xf_allot.proofs.Subjects.{its-count, its-few}

module _ (w : Linked) (links : IsWorld w) (m : Method) (is : IsMethodOf w m) (types : List Ty) (typed : IsLeastCardTyping w m types) where
  pub few-types : length types ≤ 255
  few-types = its-few w links m is types typed.stacks typed.typing

  pub argument-types : m.rec.nargs ≤ length types
  argument-types = let count = its-count w links m is types typed.stacks typed.typing in omega (arith, count)

  pub before-all : (s : Allotment) → AreAllottedBy w m types s → All (LiesBefore 255) s.given.items
  before-all s all = grind (arith, few-types, length)

  pub shares : (s : Allotment) (locals : ℕ) → AreAllottedBy w m types s → m.rec.nargs + locals ≡ end_of m.rec.nargs (given_of s)
      → Shares w m (record { numbers = s.numbers; locals = locals })
  shares s locals all size = grind (arith, its-count w links m is types typed.stacks typed.typing)

  pub keeps : HasNone m.rec.nargs (drop m.rec.nargs types) → KeepsRegisters w m
  keeps none = record { regs = types; typed = typed; none = none }

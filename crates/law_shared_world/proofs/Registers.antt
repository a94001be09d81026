-- The types of the registers of a method that is laid with such numbers.
use Rattle.std.proofs.Common.{◌≡◌, ℕ, ◌+◌, List, length, sym, ◌∙◌, arith}
use Rattle.jc_base.specs.declared.ty.Ty.{Ty}
use Rattle.jc_base.specs.declared.ty.Ty.TheVariants.{Bottom}
use Rattle.jc_base.specs.World.{Linked, IsWorld}
use Rattle.jc_control.specs.Method.{Method, IsMethodOf}
use Rattle.jc_rules.specs.Flow.{start_frame}
use Rattle.jc_rules.proofs.CellLists.{cells-length}
use Rattle.card_typing.specs.Typing.{CardTyping, HasCardTyping}
use Rattle.card_typing.proofs.Own.{start-length}
use Rattle.law_share.specs.Renamed.{register_total}
use Rattle.law_share.specs.Retyped.{AreRegistersOf, HasShared, SharedHaveTypes}
use Rattle.law_renumbered.specs.Numbers.{AreNumbersOf, numbers_shared, numbers_kept, HasRegisters}

-- ---- registers that are kept

module _ (v : Linked) (links : IsWorld v) (m target : Method) (regs : List Ty) (stacks : ℕ → List Ty) (reg : ℕ → ℕ) (is : IsMethodOf v m)
    (typed : CardTyping v m regs stacks) (kept : (x : ℕ) → reg x ≡ x) (has : HasRegisters m (register_total m) target) where
  count : length regs ≡ register_total m
  count = sym (cells-length v.classes typed.declared) ∙ start-length v links m is

  same-start : (start_frame m.rec Bottom).regs ≡ (start_frame target.rec Bottom).regs
  same-start = grind (arith)

  pub kept-types : AreRegistersOf v target regs regs reg
  kept-types = grind (arith, count, same-start)

-- ---- registers that are kept or shared

-- a card typing of the method, and the types of the registers of another that has them under new numbers
pub record HasTypesFor (v : Linked) (m target : Method) (reg : ℕ → ℕ) : Type 0 where
  pub regs : List Ty
  pub stacks : ℕ → List Ty
  pub typing : CardTyping v m regs stacks
  pub others : List Ty
  pub are : AreRegistersOf v target regs others reg

pub types-for :
    (v : Linked) (m target : Method) (reg : ℕ → ℕ) {locals : ℕ}
    → IsWorld v
    → SharedHaveTypes v
    → IsMethodOf v m
    → HasCardTyping v m
    → AreNumbersOf v m reg locals
    → HasRegisters m (m.rec.nargs + locals) target
    → HasTypesFor v m target reg
types-for v m target reg links types is card (numbers_shared given shares numbered) has =
    let least = shares.typed in
    let shared : HasShared m given target = record { same = has.same; nargs = has.nargs; total = has.total ∙ shares.size } in
    let found = types m target shares.regs least.stacks shares.variables given reg is least.typing shares.are shares.allotted numbered shared in
    record { regs = shares.regs; stacks = least.stacks; typing = least.typing; others = found.0; are = found.1 }
types-for v m target reg links types is card (numbers_kept keeps kept) has = record {
  regs = card.regs;
  stacks = card.stacks;
  typing = card.typing;
  others = card.regs;
  are = kept-types v links m target card.regs card.stacks reg is card.typing kept has;
}

-- A method whose registers have risen takes two passes at the least.
use Rattle.std.proofs.Common.{◌≡◌, ℕ, zero, suc, ◌+◌, ◌*◌, ◌≤◌, List, length, Contains, refl, ◌∙◌, ap, subst, arith}
use Rattle.std.proofs.Math.Nat.{suc-mul}
use Rattle.jc_base.specs.declared.ty.Ty.{Ty}
use Rattle.jc_base.specs.declared.ty.Ty.TheVariants.{Bottom}
use Rattle.jc_base.specs.World.{Linked}
use Rattle.jc_control.specs.Method.{Method, IsMethodOf}
use Rattle.jc_rules.specs.Demand.{Frame}
use Rattle.jc_rules.specs.Flow.{start_frame}
use Rattle.jc_rules.specs.FlowLaws.{AreRules}
use Rattle.card_typing.specs.Met.{IsMetAfter}
use Rattle.card_typing.specs.Pass.{HasAfterPasses, IsPassCount}
use Rattle.card_typing.proofs.OneRefusal.{met-is-one}
use Rattle.card_verify.specs.Counted.{instruction_count}
use Rattle.card_verify.specs.OverIndex.{RaisedTakesTwo}

module _ (w : Linked) (m : Method) (marked : ℕ → Type 0) where
  -- before the first visit the registers are those of the start
  begun-regs : (n q : ℕ) (f : Frame) → IsMetAfter w m marked n q f → n ≡ 0 → f.regs ≡ (start_frame m.rec Bottom).regs
  begun-regs x x2 x22 x222 e = grind (arith)

  module _ (rules : AreRules w) (mo : IsMethodOf w m) where
    same-regs : (passes : ℕ) (regs others : List Ty) → HasAfterPasses w m marked passes regs → HasAfterPasses w m marked passes others → regs ≡ others
    same-regs passes regs others a b = grind (arith, met-is-one)

    -- one pass alone leaves the registers as they start
    once-still : (passes : ℕ) (regs : List Ty) (c : IsPassCount w m marked passes) → c.raising ≡ 0 → HasAfterPasses w m marked passes regs
        → regs ≡ (start_frame m.rec Bottom).regs
    once-still passes regs c once left =
        let count : passes ≡ c.raising + 1 = c.count in
        let last = c.last.before in
        let none : c.raising * instruction_count m ≡ 0 = ap (λ n. n * instruction_count m) once ∙ omega arith in
        same-regs (c.raising + 1) regs c.last.regs (subst (λ n. HasAfterPasses w m marked n regs) count left) c.last.after
        ∙ begun-regs (c.raising * instruction_count m) 0 (record { regs = c.last.regs; stack = last.stack }) last.met none

two-times : (passes n : ℕ) → 2 ≤ passes → 2 * n ≤ passes * n
two-times zero n le = absurd (omega (arith, le))
two-times (suc zero) n le = absurd (omega (arith, le))
two-times (suc (suc k)) n le = omega (arith, suc-mul (suc k) n, suc-mul k n)

pub raised-takes-two : (w : Linked) → AreRules w → RaisedTakesTwo w
raised-takes-two w rules m index regs before after mo c risen = by c.are.raising refl
  where
    by : (n : ℕ) → c.are.raising ≡ n → before + (length index + 2 * instruction_count m) ≤ after
    by zero e = absurd (risen (once-still w m (Contains index) rules mo c.passes regs c.are e c.left))
    by (suc k) e =
        let many : 2 ≤ c.passes = let count = c.are.count in omega (arith, count, e) in
        let paid = c.counted in
        omega (arith, paid, two-times c.passes (instruction_count m) many)

use Rattle.std.proofs.Common.{◌<◌, ◌^◌, ◌∙◌, sym, subst, ap, arith, rules}
use Rattle.std.proofs.lemmas.Int.{to_z-of_z}
use Rattle.std.specs.Int.{w16, w32}
use Rattle.std.specs.Prelude.{nat_abs}
use mir.Val.{SFits}
use Rattle.cap_bare.specs.declared.instruction.Instruction.{Instruction}
use Rattle.cap_bare.specs.Machine.{running, returned}
use Rattle.cap_bare.specs.Leading.{CanAct, state_in_frame}
use Rattle.cap_bare.proofs.Stepping.{never-none, can-act, step-to, step-out, word-is, place-fits}
use Rattle.cap_bare.proofs.run.step.Goals as goal

pub unreachable-requires : goal.unreachable-requires
unreachable-requires c =
    never-none c.args.code.bytes.now c.args.bare (state_in_frame c.args.place c.args.frame.now) c.requires.safe c.in-Err.field-0 (sym c.in-Err.ensures.value)

pub act-requires : goal.act-requires
act-requires c =
    subst (λ (k : Instruction). CanAct k c.args.frame.now) (sym c.instruction_of.ensures)
    (can-act c.args.code.bytes.now c.args.bare (state_in_frame c.args.place c.args.frame.now) c.requires.safe c.in-Ok.insn (sym c.in-Ok.ensures.value)
    c.requires.registers c.requires.compact.stack)

pub overflow_cast-result : goal.overflow_cast-result
overflow_cast-result c =
    let s = state_in_frame c.args.place c.args.frame.now in
    let fits : SFits w32 c.branch_target-target.result = search rules in
    let target = to_z-of_z w32 c.branch_target-target.result fits ∙ c.branch_target-target.ensures in
    let g = step-to c.args.code.bytes.now c.args.bare s c.requires.safe c.in-Ok.insn (sym c.in-Ok.ensures.value)
    c.instruction_of.result _ c.instruction_of.ensures target c.in-To.next c.act.new.self c.in-To.ensures in
    place-fits c.in-To.next g.place g.is (omega (arith, g.small, c.requires.short))

pub returns-in-To : goal.returns-in-To
returns-in-To c =
    let s = state_in_frame c.args.place c.args.frame.now in
    let fits : SFits w32 c.branch_target-target.result = search rules in
    let target = to_z-of_z w32 c.branch_target-target.result fits ∙ c.branch_target-target.ensures in
    let g = step-to c.args.code.bytes.now c.args.bare s c.requires.safe c.in-Ok.insn (sym c.in-Ok.ensures.value)
    c.instruction_of.result _ c.instruction_of.ensures target c.in-To.next c.act.new.self c.in-To.ensures in
    let small : g.place < 2 ^ 15 = omega (arith, g.small, c.requires.short) in
    ap (λ z. running (state_in_frame (nat_abs z) c.act.new.self)) (word-is c.in-To.next g.place g.is small) ∙ sym g.stepped

pub returns-in-Gives : goal.returns-in-Gives
returns-in-Gives c =
    let s = state_in_frame c.args.place c.args.frame.now in
    let fits : SFits w32 c.branch_target-target.result = search rules in
    let target = to_z-of_z w32 c.branch_target-target.result fits ∙ c.branch_target-target.ensures in
    let short : SFits w16 c.in-Gives.value = search rules in
    ap returned (to_z-of_z w16 c.in-Gives.value short)
    ∙ sym (step-out c.args.code.bytes.now c.args.bare s c.requires.safe c.in-Ok.insn (sym c.in-Ok.ensures.value)
    c.instruction_of.result _ c.instruction_of.ensures target c.in-Gives.value c.in-Gives.ensures)

use Rattle.std.proofs.Common.{◌≡◌, ◌+◌, Some, Option, option_map, slice_get, length, sym, ◌∙◌, subst, arith}
use Rattle.std.specs.Prelude.{IsSomeAnd}
use Rattle.std.proofs.lemmas.Bool.Decides.{nat_tests}
use Rattle.jc_base.specs.declared.record.MethodRec.{MethodRec}
use Rattle.jc_base.specs.World.{code_of}
use Rattle.link_tests.proofs.Raised.{within-1431, at-least-40}
use Rattle.link_tests.proofs.counting.takes_40_to_1431.Goals as goal

pub returns-clause-most : goal.returns-clause-most
returns-clause-most g c = λ t.
    let bytes : option_map (code_of c.args.world.now.infos) (slice_get c.args.world.now.methods c.args.method) ≡ Some c.of-code.result.bytes.now = cc in
    let two : length c.args.index.now ≡ 2 = grind (arith, nat_tests, c.len.ensures, c.if-len-ne2.false) in
    let four : length c.args.regs.now ≡ 4 = grind (arith, nat_tests, c.if-regs-ne4.false) in
    let registers = subst (λ (o : Option MethodRec). IsSomeAnd o (λ m. length c.args.regs.now ≡ m.nargs + m.max_locals)) c.method-rec.ensures.is
    c.requires.registers in
    within-1431 c.args.world.now c.args.method c.method-rec.result.now c.of-code.result.bytes.now c.method-rec.ensures.is bytes
    (c.has_instructions.ensures c.if-not-has_instructions.false) c.args.index.now two c.args.steps.now c.rises.new.steps
    (c.are_few_targets.ensures c.if-not-are_few_targets.false) (sym registers ∙ four) (c.is_low.ensures c.if-not-is_low.false)
    c.rises.ensures.most

pub returns-clause-least : goal.returns-clause-least
returns-clause-least g c = λ t.
    let bytes : option_map (code_of c.args.world.now.infos) (slice_get c.args.world.now.methods c.args.method) ≡ Some c.of-code.result.bytes.now = cc in
    let two : length c.args.index.now ≡ 2 = grind (arith, nat_tests, c.len.ensures, c.if-len-ne2.false) in
    at-least-40 c.args.world.now c.args.method c.method-rec.result.now c.of-code.result.bytes.now c.method-rec.ensures.is bytes
    (c.has_instructions.ensures c.if-not-has_instructions.false) c.args.index.now two c.args.steps.now c.rises.new.steps (c.rises.ensures.least t)

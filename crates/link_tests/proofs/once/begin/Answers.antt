use Rattle.std.proofs.Common.{◌<◌, List, length, get_or, sym, ap, ◌∙◌, arith}
use Rattle.std.proofs.lemmas.List.{length-set}
use Rattle.jc_base.specs.declared.ty.Ty.{Ty}
use Rattle.jc_base.specs.declared.ty.Ty.TheVariants.{Bottom}
use Rattle.jc_rules.specs.Flow.{start_frame}
use Rattle.card_verify.proofs.Starting.{started-more, started-all, start-static}
use Rattle.link_tests.proofs.once.begin.Goals as goal

pub registers-preserved : goal.registers-preserved
registers-preserved c =
    let inside : c.registers.x < length c.registers.regs = omega (arith, c.registers.invariant.count, c.registers-test.true) in
    let static = c.if-not-rec.false in
    record {
      count = length-set c.registers.regs c.registers.x c.argument.result ∙ c.registers.invariant.count;
      same =
          started-more (start_frame c.args.rec.now Bottom).regs c.registers.regs c.registers.x c.argument.result inside
          (c.argument.ensures ∙ ap (λ (xs : List Ty). get_or xs c.registers.x Bottom) c.as_slice-arguments.ensures
          ∙ sym (start-static c.args.rec.now c.registers.x static))
          c.registers.invariant.same;
    }

pub returns : goal.returns
returns c = λ t.
    started-all (start_frame c.args.rec.now Bottom).regs c.registers.regs c.registers.x (c.registers.invariant.count ∙ c.requires)
    (omega (arith, c.registers.invariant.count, c.registers-test.false)) c.registers.invariant.same

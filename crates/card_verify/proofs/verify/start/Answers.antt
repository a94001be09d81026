use Rattle.std.proofs.Common.{◌<◌, length, arith, ◌∙◌}
use Rattle.std.proofs.lemmas.List.{length-set}
use Rattle.jc_base.specs.declared.ty.Ty.TheVariants.{Bottom}
use Rattle.jc_rules.specs.Flow.{start_frame}
use Rattle.card_verify.proofs.Starting.{started-more, started-all}
use Rattle.card_verify.proofs.verify.start.Goals as goal

pub registers-preserved : goal.registers-preserved
registers-preserved c =
    let inside : c.registers.x < length c.registers.regs = omega (arith, c.registers.invariant.count, c.registers-test.true) in
    record {
      count = length-set c.registers.regs c.registers.x c.declared.result ∙ c.registers.invariant.count;
      same =
          started-more (start_frame c.args.rec.now Bottom).regs c.registers.regs c.registers.x c.declared.result inside c.declared.ensures
          c.registers.invariant.same;
    }

pub returns : goal.returns
returns c =
    started-all (start_frame c.args.rec.now Bottom).regs c.registers.regs c.registers.x (c.registers.invariant.count ∙ c.requires)
    (omega (arith, c.registers.invariant.count, c.registers-test.false)) c.registers.invariant.same

use Rattle.std.proofs.Common.{sym, ◌∙◌, arith}
use Rattle.vm_step.specs.Arguments.{argument_of}
use Rattle.vm_run.proofs.Handing.{misfit-found, misfit-next, misfit-none, none-left}
use Rattle.vm_run.proofs.refusal.first_misfit.Goals as goal

pub returns-then-not-fits : goal.returns-then-not-fits
returns-then-not-fits c =
    sym (misfit-found c.args.args.now c.args.types.now c.types.n c.types.ty-index (argument_of c.at.result) c.at.ensures c.types-test.true
    (sym c.is_parameter.ensures ∙ c.if-not-is_parameter.false) (sym c.fits.ensures ∙ c.if-not-fits.true))
    ∙ c.types.invariant.same

pub types-preserved : goal.types-preserved
types-preserved c =
    record {
      few = omega (arith, c.types.invariant.few);
      same = sym (misfit-next c.args.args.now c.args.types.now c.types.n c.types.ty-index (argument_of c.at.result) c.at.ensures c.types-test.true
          (sym c.is_parameter.ensures ∙ c.if-not-is_parameter.false) (sym c.fits.ensures ∙ c.if-not-fits.false))
          ∙ c.types.invariant.same;
    }

pub returns : goal.returns
returns c = sym (misfit-none c.types.n _ _ (none-left c.args.types.now c.types.ty-index c.types-test.false)) ∙ c.types.invariant.same
